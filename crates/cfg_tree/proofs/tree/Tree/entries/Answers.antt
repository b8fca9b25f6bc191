use Rattle.std.proofs.Common.{subst}
use Rattle.cfg_tree.specs.Statements.{Statements}
use Rattle.cfg_tree.specs.Tree.{IsTree}
use Rattle.cfg_tree.proofs.tree.Tree.entries.Goals as goal

pub returns-clause-tree : goal.returns-clause-tree
returns-clause-tree c = subst (λ (m : Statements). IsTree m) c.self.view_is c.self.invariant
