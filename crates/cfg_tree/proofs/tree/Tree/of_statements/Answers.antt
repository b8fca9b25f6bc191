use Rattle.std.proofs.Common.{sym, subst}
use Rattle.cfg_tree.specs.Statements.{Statements}
use Rattle.cfg_tree.specs.Tree.{IsTree}
use Rattle.cfg_tree.specs.Shown.{shown}
use Rattle.cfg_tree.proofs.StatedLemmas.{said_tree}
use Rattle.cfg_tree.proofs.NamingLemmas.{names_from_none}
use Rattle.cfg_tree.proofs.tree.Tree.of_statements.Goals as goal

pub invariant_of-result : goal.invariant_of-result
invariant_of-result c =
    subst (λ (m : Statements). IsTree m)
    (sym (names_from_none (shown c.in_ok-statements.statements) c.args.items.items c.in_ok-items.items.items c.requires.said c.in_ok-items.ensures c.in_ok-statements.ensures))
    (said_tree c.args.items.items c.requires.said c.requires.few)

pub returns : goal.returns
returns c =
    names_from_none (shown c.in_ok-statements.statements) c.args.items.items c.in_ok-items.items.items c.requires.said c.in_ok-items.ensures c.in_ok-statements.ensures
