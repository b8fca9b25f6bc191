-- The rule of the book that keeps the list of views, and what its one step reports. This is the project's own.
use Rattle.std.specs.Prelude.{ℕ, ◌≡◌, ◌==◌, ◌<◌, true, List, [], ◌∷◌, ◌++◌, length, MatchBool}
use mathlib.Core.List.{IsPrefix}
use Rattle.logbook.specs.Pages.{Cell, Step, View, Book, Named}

-- the first word is the length of the list; a book has two words, and the second one stays 0
abbrev pub IsKeptIn : {E : Type 0} → List Cell → List E → Type 0
IsKeptIn cells list = cells ≡ (length list, true) ∷ (0, true) ∷ []

-- the first word of a book
abbrev pub head_of : Book → Named
head_of book = record { tracked = true; key = 0; book = book }

-- one was added after all that had been seen; or the list was longer, and was seen
abbrev pub Adds : {E : Type 0} → Step E → View E ℕ → ℕ → View E ℕ → Type 0
Adds step before found after =
    MatchBool (found == step.old) (after.0 ≡ before.0 ++ step.ask ∷ []) (length after.0 ≡ found)

-- two begins with one, and goes on
abbrev pub GoesOn : {E : Type 0} → List E → List E → Type 0
GoesOn one two = IsPrefix one two × (length one < length two)
