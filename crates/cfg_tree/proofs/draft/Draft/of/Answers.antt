use Rattle.std.proofs.Common.{sym, subst}
use Rattle.cfg_tree.specs.Statements.{Statements}
use Rattle.cfg_tree.specs.Union.{IsUnbounded}
use Rattle.cfg_tree.proofs.UnionLemmas.{unbounded}
use Rattle.cfg_tree.proofs.draft.Draft.of.Goals as goal

pub invariant_of-result : goal.invariant_of-result
invariant_of-result c = subst (λ (m : Statements). IsUnbounded m) (sym c.into_entries.ensures.shown) (unbounded _ c.into_entries.ensures.tree)
