-- A level: the plain offers by their steps, and the wildcards of groups. For the inner functions.
use Rattle.std.specs.Prelude.{◌≡◌, ℕ, ◌+◌, Bool, true, not, List, [], ◌∷◌, filter}
use Rattle.std.specs.List.{AllByRecursion}
use Rattle.std.specs.List.Sorted.{IsSortedBy}
use Rattle.std.specs.Ordering.{is_lt, is_le}
use Rattle.cfg_base.specs.Order.{step_cmp}
use Rattle.cfg_base.specs.declared.path.Step.{Step}
use Rattle.group_expand.specs.Offer.{Offer, is_for, is_wild}

-- an offer of a level, and how many of the level's offers come before it in the order of the sources
pub record Ranked : Type 0 where
  pub rank : ℕ
  pub offer : Offer

-- the plain offers of a level and its wildcards
pub record Level : Type 0 where
  pub plain : List Ranked
  pub wild : List Ranked

-- offers with their ranks, from a rank on
abbrev pub with_ranks : ℕ → List Offer → List Ranked
with_ranks rank [] = []
with_ranks rank (o ∷ os) = record { rank = rank; offer = o } ∷ with_ranks (rank + 1) os

abbrev pub is_wild_at : Ranked → Bool
is_wild_at r = is_wild r.offer

abbrev pub is_unmatched : Ranked → Bool
is_unmatched r = not (is_wild r.offer)

-- an offer is for this step
abbrev pub is_at : Step → Ranked → Bool
is_at step r = is_for step r.offer

-- one offer's step comes before another's
abbrev pub comes_before : Ranked → Ranked → Bool
comes_before a b = is_lt (step_cmp a.offer.step b.offer.step)

-- the steps don't fall
abbrev pub Climbs : List Ranked → Type 0
Climbs [] = Unit {0}
Climbs (r ∷ rs) = AllByRecursion (λ x. is_le (step_cmp r.offer.step x.offer.step) ≡ true) rs × Climbs rs

-- offers by their steps, those of one step as they were
pub record IsByStep (offers sorted : List Ranked) : Type 0 where
  pub ascends : IsSortedBy comes_before sorted
  pub alike : (step : Step) → filter (is_at step) sorted ≡ filter (is_at step) offers

-- the level of these offers
pub record IsLevel (offers : List Offer) (level : Level) : Type 0 where
  pub plain : IsByStep (filter is_unmatched (with_ranks 0 offers)) level.plain
  pub wild : level.wild ≡ filter is_wild_at (with_ranks 0 offers)
