use Rattle.std.proofs.Common.{ℕ, List, sym, ap, subst}
use Rattle.std.specs.List.{AllByRecursion}
use Rattle.cfg_base.specs.declared.path.Step.{Step}
use Rattle.cfg_tree.specs.Statements.{Statements}
use Rattle.cfg_tree.specs.Tree.{IsTree}
use Rattle.cfg_tree.specs.Full.{Expansion}
use Rattle.group_expand.specs.Expansion.{IsExpansion}
use Rattle.commit_check.specs.declared.rule.CommitRule.{CommitRule}
use Rattle.commit_check.specs.Accepts.{Holds, IsFirst}
use Rattle.commit_check.proofs.CheckLemmas.{wide_is, accepted}
use Rattle.std.proofs.Common.{Err}
use Rattle.commit_check.proofs.checking.check_after.Goals as goal

pub returns-in-Err-TooWide-clause-err : goal.returns-in-Err-TooWide-clause-err
returns-in-Err-TooWide-clause-err c =
    let first = wide_is c.args.tree.now (c.in-Err-TooWide.ensures.wide (ap Err c.in-Err-TooWide.field-0-is))
    in subst (λ (n : ℕ). IsFirst c.args.tree.now n c.top.result) (sym c.number_of.ensures) (subst (λ (p : List Step). IsFirst c.args.tree.now 0 p) (sym c.top.ensures) first)

pub returns-in-Ok-ask_all-clause-accepted : goal.returns-in-Ok-ask_all-clause-accepted
returns-in-Ok-ask_all-clause-accepted c =
    accepted c.args.tree.now c.in-Ok.made.1
    (subst (λ (m : Statements). IsTree m) c.in-Ok.ensures.ok c.full.ensures.tree)
    (subst (λ (m : Statements). IsExpansion m c.in-Ok.made.1) c.in-Ok.ensures.ok c.full.ensures.expansion)
    c.full.ensures.within
    (subst (λ (rules : List CommitRule). AllByRecursion (λ rule. Holds rule c.args.tree.now c.in-Ok.made.1) rules) c.rules.ensures
    (subst (λ (full : Expansion). AllByRecursion (λ rule. Holds rule c.args.tree.now full) c.rules.result.now) c.full.ensures.is c.in-Ok-ask_all.ensures.ok))
