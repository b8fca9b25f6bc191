use Rattle.std.proofs.Common.{◌≡◌, drop}
use Rattle.group_expand.specs.Runs.{source_gift}
use Rattle.group_expand.proofs.run.source_gift.Given as goal

abbrev pub invariant-loop-offer : goal.invariant-loop-offer
invariant-loop-offer l = source_gift l.run ≡ source_gift (drop l.offer-index l.run)
