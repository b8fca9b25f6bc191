use Rattle.std.proofs.Common.{◌≡◌, ◌++◌, take, map}
use Rattle.std.specs.Prelude.{flat_map}
use Rattle.group_expand.specs.Offer.{own_offer, offers_of}
use Rattle.group_expand.proofs.offer.offered.Given as goal

abbrev pub invariant-loop-source : goal.invariant-loop-source
invariant-loop-source l = l.offers.items ≡ map own_offer l.own ++ flat_map offers_of (take l.source-index l.front)
