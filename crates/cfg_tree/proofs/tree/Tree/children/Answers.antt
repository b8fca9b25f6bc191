use Rattle.std.proofs.Common.{◌≡◌, ◌∙◌, List, ap, filter, rules, subst}
use Rattle.std.specs.Ordering.{eq_by_cmp}
use Rattle.cfg_base.specs.Order.{step_cmp}
use Rattle.cfg_base.specs.declared.path.Step.{Step}
use Rattle.cfg_tree.specs.Statements.{Statements}
use Rattle.cfg_tree.specs.Tree.{IsTree}
use Rattle.cfg_tree.specs.Children.{children_of}
use Rattle.cfg_tree.proofs.OnceLemmas.{children_once}
use Rattle.cfg_tree.proofs.tree.Tree.children.Goals as goal

pub returns-clause-once : goal.returns-clause-once
returns-clause-once c =
    let order : c.from.result ≡ children_of c.args.self.now c.args.path.now = search rules
    in let tree = subst (λ (m : Statements). IsTree m) c.self.view_is c.self.invariant
    in λ step. ap (λ (steps : List Step). filter (eq_by_cmp step_cmp step) steps) order ∙ children_once c.args.self.now c.args.path.now step tree
