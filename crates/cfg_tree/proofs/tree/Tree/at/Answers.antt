use Rattle.std.proofs.Common.{sym, ap, subst, ◌∙◌}
use Rattle.std.specs.FinMap as map
use Rattle.cfg_tree.specs.Statements.{Statements}
use Rattle.cfg_tree.specs.Tree.{IsTree}
use Rattle.cfg_tree.proofs.MapLemmas.{get_is}
use Rattle.cfg_tree.proofs.tree.Tree.at.Goals as goal

pub returns-clause-value : goal.returns-clause-value
returns-clause-value c =
    c.get.ensures.value
    ∙ sym (get_is c.self.inside.statements c.args.path.now)
    ∙ ap (λ (m : Statements). map.get m c.args.path.now) c.self.view_is

pub returns-clause-tree : goal.returns-clause-tree
returns-clause-tree c = subst (λ (m : Statements). IsTree m) c.self.view_is c.self.invariant
