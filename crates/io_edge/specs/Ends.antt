-- What the ends of a session hold, have left and answer. The words are this project's own.
-- Whether an end tells that is its own matter: a list in memory tells it, a file doesn't.
use Rattle.std.specs.Prelude.{◌≡◌, ◌<◌, length, ◌+◌, ℕ, List, [], ◌++◌}
use Rattle.std.specs.Prelude.{Option, None, Some, option_map}

-- what is told of a source: the bytes that are left, where they are told, and how many calls failed
pub record SourceView : Type 0 where
  pub left : Option (List ℕ)
  pub faults : ℕ

-- what is told of a sink: the bytes that it holds, where they are told, and how many calls failed
pub record SinkView : Type 0 where
  pub held : Option (List ℕ)
  pub faults : ℕ

-- these bytes, and then what is told
abbrev pub onto : List ℕ → Option (List ℕ) → Option (List ℕ)
onto bytes told = option_map (λ rest. bytes ++ rest) told

-- what is told, and then these bytes
abbrev pub held_after : Option (List ℕ) → List ℕ → Option (List ℕ)
held_after told bytes = option_map (λ held. held ++ bytes) told

-- nothing is left, where that is told
abbrev pub IsUsedUp : Option (List ℕ) → Type 0
IsUsedUp None = Unit {0}
IsUsedUp (Some left) = left ≡ []

-- a byte is left, where that is told
abbrev pub HasMore : Option (List ℕ) → Type 0
HasMore None = Unit {0}
HasMore (Some left) = 0 < length left

-- the answer was the first of those to come, and those that come after it are the ones to come now
abbrev pub TakesAnswer : {A : Type 0} → Option (ℕ → A) → Option (ℕ → A) → A → Type 0
TakesAnswer None None answer = Unit {0}
TakesAnswer (Some before) (Some now) answer = (answer ≡ before 0) × ((k : ℕ) → now k ≡ before (k + 1))
TakesAnswer None (Some now) answer = ⊥
TakesAnswer (Some before) None answer = ⊥
