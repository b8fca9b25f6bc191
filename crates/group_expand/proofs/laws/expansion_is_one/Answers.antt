use Rattle.std.specs.FinMap as map
use Rattle.cfg_tree.specs.Children.{steps_below}
use Rattle.group_expand.specs.Made.{expansion_made}
use Rattle.group_expand.proofs.TreeLemmas.{tree_full}
use Rattle.group_expand.proofs.OneFullLemmas.{one_full}
use Rattle.group_expand.proofs.laws.expansion_is_one.Goals as goal

pub returns-clause-there : goal.returns-clause-there
returns-clause-there c = λ m tree. (expansion_made (map.get m) (steps_below m), tree_full m tree)

pub returns-clause-one : goal.returns-clause-one
returns-clause-one c = λ m full other h k. one_full (map.get m) (steps_below m) full other h k
