-- What was noted, and what is held of it. This project's own.
use Rattle.std.specs.Prelude.{ℕ, Bool, true, false, List, []}

pub record TraceView (T : Type 0) : Type 0 where
  -- what was noted, in order
  pub items : List T
  -- for so many more there is room
  pub spare : ℕ
  -- whether its values are kept
  pub is_kept : Bool

-- the values that are held of what was noted: all where they are kept, and else none
abbrev pub held_of : {T : Type 0} → Bool → List T → List T
held_of true items = items
held_of false items = []
