use Rattle.std.proofs.Common.{◌≡◌, length}
use Rattle.std.specs.Cmp.Lexicographic.{pointwise}
use Rattle.cfg_base.specs.contracts.value.ValuePartialEq.TheImpl as value_order
use Rattle.cfg_entries.specs.EntryMap.{same_pair}
use Rattle.load_ops.specs.Parts.{front_below}
use Rattle.load_ops.proofs.same.same_front.Given as goal

abbrev pub invariant-loop-at : goal.invariant-loop-at
invariant-loop-at l =
    pointwise (same_pair (value_order.ghosts).eq) (front_below l.path l.mine) (front_below l.path l.theirs)
    ≡ pointwise (same_pair (value_order.ghosts).eq) (front_below l.path l.fn.one) (front_below l.path l.fn.other)

abbrev pub decreases-loop-at : goal.decreases-loop-at
decreases-loop-at l = length (front_below l.path l.mine)
