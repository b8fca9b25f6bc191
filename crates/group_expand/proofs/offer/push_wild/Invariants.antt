use Rattle.std.proofs.Common.{◌≡◌, ◌++◌, take}
use Rattle.group_expand.specs.Offer.{wild_offers}
use Rattle.group_expand.proofs.offer.push_wild.Given as goal

abbrev pub invariant-loop-node : goal.invariant-loop-node
invariant-loop-node l = l.offers.items ≡ l.initial.offers.items ++ wild_offers l.group (take l.node-index l.nodes)
