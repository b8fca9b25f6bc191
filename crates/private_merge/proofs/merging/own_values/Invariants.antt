use Rattle.cfg_tree.specs.Values.{with_values}
use Rattle.private_merge.proofs.PassedLemmas.{Passed, left}
use Rattle.private_merge.proofs.merging.own_values.Given as goal

abbrev pub invariant-loop-place : goal.invariant-loop-place
invariant-loop-place l = Passed l.base l.active l.mine (with_values l.active l.own.items) l.sides

abbrev pub decreases-loop-place : goal.decreases-loop-place
decreases-loop-place l = left l.sides
