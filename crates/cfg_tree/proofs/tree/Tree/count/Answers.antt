use Rattle.std.proofs.Common.{sym, ap, subst, ◌∙◌}
use Rattle.cfg_tree.specs.Statements.{Statements, size_of}
use Rattle.cfg_tree.specs.Tree.{IsTree}
use Rattle.cfg_tree.proofs.MapLemmas.{len_is}
use Rattle.cfg_tree.proofs.TreeLemmas.{count_fits}
use Rattle.cfg_tree.proofs.tree.Tree.count.Goals as goal

pub overflow_cast-result : goal.overflow_cast-result
overflow_cast-result c = count_fits c.self.inside.statements _ c.len.ensures.len c.len.ensures.ordered c.self.invariant

pub returns-clause-count : goal.returns-clause-count
returns-clause-count c =
    c.len.ensures.len
    ∙ sym (len_is _ c.len.ensures.ordered)
    ∙ ap (λ (m : Statements). size_of m) c.self.view_is

pub returns-clause-tree : goal.returns-clause-tree
returns-clause-tree c = subst (λ (m : Statements). IsTree m) c.self.view_is c.self.invariant
