use Rattle.std.proofs.Common.{◌≡◌, ◌++◌, take}
use Rattle.std.specs.Prelude.{flat_map}
use Rattle.group_expand.specs.Fronts.{kept_unless}
use Rattle.group_expand.proofs.front.push_all_kept.Given as goal

abbrev pub invariant-loop-offer : goal.invariant-loop-offer
invariant-loop-offer l = l.front.items ≡ l.initial.front.items ++ flat_map (kept_unless l.gone) (take l.offer-index l.offers)
