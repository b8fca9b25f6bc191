use Rattle.std.proofs.Common.{sym, subst}
use Rattle.cfg_tree.specs.Statements.{Statements}
use Rattle.cfg_tree.specs.Union.{IsUnbounded}
use Rattle.cfg_tree.proofs.ValuesLemmas.{values_of}
use Rattle.cfg_tree.proofs.draft.Draft.with_values.Goals as goal

pub returns : goal.returns
returns c =
    values_of c.entries.result.now c.in_ok-statements.statements c.args.tree.now c.args.values.items c.entries.ensures.shown c.in_ok-statements.ensures

pub invariant_of-result : goal.invariant_of-result
invariant_of-result c =
    subst (λ (m : Statements). IsUnbounded m)
    (sym (values_of c.entries.result.now c.in_ok-statements.statements c.args.tree.now c.args.values.items c.entries.ensures.shown c.in_ok-statements.ensures))
    c.requires
