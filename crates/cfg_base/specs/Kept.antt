-- Where the bytes of a word stand, few in place and more in memory of their own.
-- How they are kept is this project's own.
use Rattle.std.specs.Prelude.{ℕ, ◌≤◌, List, take}
use Rattle.cfg_base.specs.declared.word.TheConstants.{IN_PLACE}
use Rattle.cfg_base.specs.declared.word.Kept.{Kept}
use Rattle.cfg_base.specs.declared.word.Kept.TheVariants.{InPlace, Apart}

-- the bytes that are kept
abbrev pub bytes_of : Kept → List ℕ
bytes_of (InPlace count places) = take count places
bytes_of (Apart bytes) = bytes

-- no more are in place than there are places
abbrev pub IsKept : Kept → Type 0
IsKept (InPlace count places) = count ≤ IN_PLACE
IsKept (Apart bytes) = Unit {0}
