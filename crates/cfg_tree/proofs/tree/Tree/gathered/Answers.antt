use Rattle.std.proofs.Common.{rules}
use Rattle.cfg_tree.specs.Shown.{shown}
use Rattle.cfg_tree.proofs.StatedLemmas.{gathered_tree}
use Rattle.cfg_tree.proofs.tree.Tree.gathered.Goals as goal

pub invariant_of-result : goal.invariant_of-result
invariant_of-result c =
    gathered_tree (shown c.in_ok-statements.statements) c.args.items.items c.in_ok-statements.ensures c.requires.statements c.requires.typed (search rules)
