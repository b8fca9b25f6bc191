-- Places in a list of pieces. This project's own.
use Rattle.std.specs.Prelude.{◌<◌, ◌≤◌, ℕ, List, [], length, drop, slice_index_or}
use Rattle.std.specs.List.{concat}

-- the bytes from a place on: a piece, and how many of its bytes stand before the place
abbrev pub left_from : List (List ℕ) → ℕ → ℕ → List ℕ
left_from pieces piece before = drop before (concat (drop piece pieces))

-- a place within the pieces, or at their end
abbrev pub IsPlaceOf : List (List ℕ) → ℕ → ℕ → Type 0
IsPlaceOf pieces piece before = (piece ≤ length pieces) × (before ≤ length (slice_index_or pieces piece []))

-- a byte stands at the place
abbrev pub HasByteAt : List (List ℕ) → ℕ → ℕ → Type 0
HasByteAt pieces piece before = before < length (slice_index_or pieces piece [])
