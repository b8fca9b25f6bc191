use Rattle.std.proofs.Common.{◌≡◌, ◌++◌, take}
use Rattle.group_expand.specs.Offer.{plain_offers}
use Rattle.group_expand.proofs.offer.push_plain.Given as goal

abbrev pub invariant-loop-node : goal.invariant-loop-node
invariant-loop-node l = l.offers.items ≡ l.initial.offers.items ++ plain_offers l.group (take l.node-index l.nodes)
