-- What stands at the front of a pattern and of a class, for the functions that scan. The forms are this project's own.
use Rattle.std.specs.Prelude.{◌≡◌, ◌≢◌, ◌<◌, ℕ, ◌+◌, ◌≤◌, ◌==◌, Bool, false, List, [], ◌∷◌, take, drop, length, Option, Some, None, if◌then◌else◌, not}
use Rattle.std.specs.List.{position}
use Rattle.glob_name.specs.Glob.{Item, in_class, ranges_from, class_size, item_at, fits_byte}

-- the first range of a class has these ends and takes so many bytes; the other ranges stand after it
pub record IsFirstRange (inner : List ℕ) (low high size : ℕ) : Type 0 where
  pub ranges : ranges_from inner 0 ≡ (low, high) ∷ ranges_from (drop size inner) 0
  pub some : 1 ≤ size
  pub within : size ≤ length inner

-- the first item is a star
abbrev pub begins_with_star : List ℕ → Bool
begins_with_star [] = false
begins_with_star (b ∷ rest) = b == 42

-- how many bytes of the pattern an item takes, where it fits the byte
abbrev pub fits_item : Item × ℕ → ℕ → Option ℕ
fits_item item b = (if fits_byte item.0 b then Some (item.1 + 1) else None)

-- the same of the item at the front of a pattern
abbrev pub fits_front : List ℕ → ℕ → Option ℕ
fits_front [] b = None
fits_front (x ∷ rest) b = fits_item (item_at x rest) b

-- the inner bytes of a class fit the byte
abbrev pub fits_inner : Bool → List ℕ → ℕ → Bool
fits_inner complement inner b = (if complement then not (in_class inner b) else in_class inner b)

-- how many bytes of the pattern the item takes that `[` begins, where it fits the byte, by the place of its `]` among
-- the bytes after `[` and `!`
abbrev pub fits_class_to : Bool → List ℕ → ℕ → Option ℕ → Option ℕ
fits_class_to complement rest b None = (if b == 91 then Some 1 else None)
fits_class_to complement rest b (Some n) =
    (if fits_inner complement (take n rest) b then Some (class_size complement n + 1) else None)

-- the same, of the bytes after `[` and `!`
abbrev pub fits_class : Bool → List ℕ → ℕ → Option ℕ
fits_class complement rest b = fits_class_to complement rest b (position (λ c. c == 93) rest)

-- none of the last bytes, so many, is `]`: there a class has no end
abbrev pub IsTail : ℕ → List ℕ → Type 0
IsTail tail [] = Unit {0}
IsTail tail (b ∷ rest) = (length rest < tail → b ≢ 93) × IsTail tail rest
