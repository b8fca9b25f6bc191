use Rattle.std.proofs.Common.{◌≡◌, drop}
use Rattle.cfg_base.specs.Order.{word_cmp}
use Rattle.cfg_base.proofs.order.order_of.Given as goal

abbrev pub invariant-loop-place : goal.invariant-loop-place
invariant-loop-place l = word_cmp (drop l.place l.one) (drop l.place l.other) ≡ word_cmp l.one l.other
