use Rattle.std.proofs.Common.{◌≡◌, ◌++◌, filter, length}
use Rattle.std.specs.BTreeSet as set
use Rattle.cfg_base.specs.Order.{word_cmp}
use Rattle.group_expand.proofs.order.push_known.Given as goal

abbrev pub invariant-loop-name : goal.invariant-loop-name
invariant-loop-name l =
    l.order ++ filter (set.contains word_cmp l.known) l.left ≡ l.initial.order ++ filter (set.contains word_cmp l.known) l.names

abbrev pub decreases-loop-name : goal.decreases-loop-name
decreases-loop-name l = length l.left
