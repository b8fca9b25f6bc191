use Rattle.std.proofs.Common.{◌≡◌, ◌++◌, take, map}
use Rattle.group_expand.specs.Offer.{own_offer}
use Rattle.group_expand.proofs.offer.push_own.Given as goal

abbrev pub invariant-loop-node : goal.invariant-loop-node
invariant-loop-node l = l.offers.items ≡ l.initial.offers.items ++ map own_offer (take l.node-index l.own)
