use Rattle.std.proofs.Common.{sym, subst}
use Rattle.cfg_tree.specs.Statements.{Statements}
use Rattle.cfg_tree.specs.Tree.{IsTree}
use Rattle.cfg_tree.proofs.tree.Tree.beside.Goals as goal

pub invariant_of-result : goal.invariant_of-result
invariant_of-result c = subst (λ (m : Statements). IsTree m) (sym c.in_ok-statements.ensures.same) c.made_beside.ensures.tree
