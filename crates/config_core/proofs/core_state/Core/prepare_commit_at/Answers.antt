use Rattle.std.proofs.Common.{◌≡◌, None, Some, subst, rules}
use Rattle.commands.specs.When.{at_of}
use Rattle.cfg_tree.specs.Statements.{Statements}
use Rattle.commit_ledger.specs.Kept.{active_of}
use Rattle.config_core.specs.Callers.{own_of}
use Rattle.config_core.specs.Machine.{later}
use Rattle.config_core.specs.Serving.{IsOwnMerge, Checks, set_for}
use Rattle.config_core.proofs.StepLemmas.{checks_merged, checks_shared, own_merge, prepares_as}
use Rattle.config_core.proofs.core_state.Core.prepare_commit_at.Goals as goal

pub returns-in_default : goal.returns-in_default
returns-in_default c =
    let s = later c.args.self.now c.args.moment in
    let none : own_of c.args.self.now c.args.caller ≡ None = search rules in
    let tree : c.tree.result.now ≡ c.args.self.now.shared.map = search rules in
    prepares_as c.args.self.now c.args.moment _ _ c.scheduled_of.result
    (λ turned checks. checks_shared s (own_of s c.args.caller) turned (λ m. set_for s c.args.caller m (at_of c.args.when s.greatest) c.args.comment.now) none
    (subst (λ (m : Statements). Checks s m turned (set_for s c.args.caller m (at_of c.args.when s.greatest) c.args.comment.now)) tree checks))
    c.scheduled_of.ensures

pub returns-in-Ok : goal.returns-in-Ok
returns-in-Ok c =
    let s = later c.args.self.now c.args.moment in
    let own = c.in-Some.own.now in
    let is : own_of c.args.self.now c.args.caller ≡ Some own = search rules in
    let base : c.base_tree.result.now ≡ own.base = search rules in
    let active : c.active.result.now ≡ active_of c.args.self.now.kept = search rules in
    let mine : c.tree-2.result.now ≡ own.map = search rules in
    let merge : IsOwnMerge s own c.in-Ok.merged =
    own_merge s own c.base_tree.result.now c.active.result.now c.tree-2.result.now c.in-Ok.merged base active mine c.in-Ok.ensures.ok in
    prepares_as c.args.self.now c.args.moment _ _ c.scheduled_of-in-Ok.result
    (λ turned checks. checks_merged s (own_of s c.args.caller) own c.in-Ok.merged turned (λ m. set_for s c.args.caller m (at_of c.args.when s.greatest) c.args.comment.now) is merge checks)
    c.scheduled_of-in-Ok.ensures
