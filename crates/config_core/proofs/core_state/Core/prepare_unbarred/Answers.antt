use Rattle.std.proofs.Common.{◌≡◌, None, rules, subst, sym}
use Rattle.std.specs.Prelude.{IfOk}
use Rattle.commands.specs.declared.command.Command.TheVariants.{Commit, CommitAt}
use Rattle.config_core.specs.Machine.{later}
use Rattle.config_core.specs.Serving.{Does}
use Rattle.config_core.specs.Prepared.{Prepares}
use Rattle.config_core.specs.Access.{bar_to}
use Rattle.config_core.proofs.BarLemmas.{later_alone}
use Rattle.config_core.proofs.core_state.Core.prepare_unbarred.Goals as goal

pub returns-in-Commit : goal.returns-in-Commit
returns-in-Commit c =
    let is : c.args.command.now ≡ Commit c.in-Commit.minutes c.in-Commit.comment c.in-Commit.quit = search rules in
    subst (λ command. IfOk c.prepare_commit.result (Prepares c.args.self.now c.args.moment (Does (later c.args.self.now c.args.moment) c.args.caller command)))
    (sym is) c.prepare_commit.ensures

pub prepare_commit_at-requires-clause-no_run : goal.prepare_commit_at-requires-clause-no_run
prepare_commit_at-requires-clause-no_run c =
    let is : c.args.command.now ≡ CommitAt c.in-CommitAt.when c.in-CommitAt.comment = search rules in
    (later_alone (later c.args.self.now c.args.moment) c.args.caller c.in-CommitAt.when c.in-CommitAt.comment
    (subst (λ command. bar_to (later c.args.self.now c.args.moment) c.args.caller command ≡ None) is c.requires.unbarred)).no_run
