-- Wildcard patterns and the names that they match. Junos OS CLI User Guide, on wildcards in configuration groups; what
-- a class means at its corners (no end, nothing between the brackets, a `-` at either end) is this project's own.
-- Bytes by number: ! is 33, * is 42, - is 45, ? is 63, [ is 91 and ] is 93.
use Rattle.std.specs.Prelude.{◌≡◌, ◌≢◌, ℕ, zero, suc, ◌+◌, ◌==◌, Bool, true, false, ◌&&◌, ◌||◌, List, [], ◌∷◌, ◌++◌, take, slice_index, nat_le, Option, Some, None, if◌then◌else◌, not}
use Rattle.std.specs.List.{list_any, position, AllByRecursion}

-- what a pattern is made of: `*`, `?`, a class (a complement or not) with its bytes between the brackets, or a byte
-- that stands for itself
pub data Item : Type 0 where
  Star : Item
  AnyByte : Item
  Class : Bool → List ℕ → Item
  Byte : ℕ → Item

-- a byte with these after it begins a range: `-` and one byte more
abbrev pub begins_range : List ℕ → Bool
begins_range [] = false
begins_range (b ∷ []) = false
begins_range (b ∷ last ∷ rest) = b == 45

-- the ranges that the bytes between the brackets spell, a byte alone as a range of one; the number counts the bytes
-- that are still of the range before
abbrev pub ranges_from : List ℕ → ℕ → List (ℕ × ℕ)
ranges_from [] skip = []
ranges_from (b ∷ rest) (suc skip) = ranges_from rest skip
ranges_from (b ∷ rest) zero =
    (b, (if begins_range rest then slice_index rest 1 else b)) ∷ ranges_from rest (if begins_range rest then 2 else 0)

-- a byte is in a range, from its first byte to its last; none is where the first is above the last
abbrev pub in_range : ℕ → ℕ × ℕ → Bool
in_range b range = nat_le range.0 b && nat_le b range.1

-- a byte is in one of the ranges that stand between the brackets
abbrev pub in_class : List ℕ → ℕ → Bool
in_class inner b = list_any (in_range b) (ranges_from inner 0)

-- how many bytes after its `[` a class takes: the inner bytes, so many, `]`, and the `!` of a complement
abbrev pub class_size : Bool → ℕ → ℕ
class_size complement inner = (if complement then inner + 2 else inner + 1)

-- the item that `[` begins, and its bytes after `[`: a class up to the first `]`, or without one `[` itself
abbrev pub class_item : Bool → List ℕ → Option ℕ → Item × ℕ
class_item complement rest None = (Byte 91, 0)
class_item complement rest (Some n) = (Class complement (take n rest), class_size complement n)

-- the same, of the bytes after `[` and `!`
abbrev pub class_of : Bool → List ℕ → Item × ℕ
class_of complement rest = class_item complement rest (position (λ b. b == 93) rest)

-- `!` right after `[` makes the class a complement
abbrev pub bracket : List ℕ → Item × ℕ
bracket [] = (Byte 91, 0)
bracket (b ∷ rest) = (if b == 33 then class_of true rest else class_of false (b ∷ rest))

-- the item that begins with a byte, and how many bytes after it belong to the item
abbrev pub item_at : ℕ → List ℕ → Item × ℕ
item_at b rest =
    (if b == 42 then (Star, 0) else (if b == 63 then (AnyByte, 0) else (if b == 91 then bracket rest else (Byte b, 0))))

-- the items that the bytes spell; the number counts the bytes that are still of the item before
abbrev pub items_from : List ℕ → ℕ → List Item
items_from [] skip = []
items_from (b ∷ rest) (suc skip) = items_from rest skip
items_from (b ∷ rest) zero = (item_at b rest).0 ∷ items_from rest (item_at b rest).1

-- the items of a pattern
abbrev pub items : List ℕ → List Item
items pattern = items_from pattern 0

-- an item other than a star fits a byte
abbrev pub fits_byte : Item → ℕ → Bool
fits_byte Star b = false
fits_byte AnyByte b = true
fits_byte (Class complement inner) b = (if complement then not (in_class inner b) else in_class inner b)
fits_byte (Byte x) b = x == b

-- an item fits a piece of a name: a star any piece, another item a piece of one byte
abbrev pub FitsPiece : Item → List ℕ → Type 0
FitsPiece Star piece = Unit {0}
FitsPiece item piece = (b : ℕ) × (piece ≡ b ∷ []) × (fits_byte item b ≡ true)

-- the name can be cut into as many pieces as there are items, each piece fitting its item
abbrev pub Matches : List Item → List ℕ → Type 0
Matches [] name = name ≡ []
Matches (item ∷ more) name =
    (piece : List ℕ) × (back : List ℕ) × (name ≡ piece ++ back) × FitsPiece item piece × Matches more back

-- the same as a test, item by item. Of a star: the name, or a later part of it, passes
abbrev pub some_rest : (List ℕ → Bool) → List ℕ → Bool
some_rest passes [] = passes []
some_rest passes (b ∷ name) = passes (b ∷ name) || some_rest passes name

-- of another item: the first byte fits, and what is after it passes
abbrev pub one_then : (ℕ → Bool) → (List ℕ → Bool) → List ℕ → Bool
one_then fits passes [] = false
one_then fits passes (b ∷ name) = fits b && passes name

-- of no items: nothing is left of the name
abbrev pub is_empty : List ℕ → Bool
is_empty [] = true
is_empty (b ∷ name) = false

-- of an item, and after it what passes
abbrev pub item_then : Item → (List ℕ → Bool) → List ℕ → Bool
item_then Star passes = some_rest passes
item_then AnyByte passes = one_then (fits_byte AnyByte) passes
item_then (Class complement inner) passes = one_then (fits_byte (Class complement inner)) passes
item_then (Byte x) passes = one_then (fits_byte (Byte x)) passes

-- of all items
abbrev pub fits_all : List Item → List ℕ → Bool
fits_all [] = is_empty
fits_all (item ∷ more) = item_then item (fits_all more)

-- the pattern matches the name, as a test for definitions to cite
abbrev pub glob : List ℕ → List ℕ → Bool
glob pattern name = fits_all (items pattern) name

-- how an item is written
abbrev pub spelled : Item → List ℕ
spelled Star = 42 ∷ []
spelled AnyByte = 63 ∷ []
spelled (Class complement inner) = 91 ∷ (if complement then 33 ∷ [] else []) ++ inner ++ 93 ∷ []
spelled (Byte b) = b ∷ []

-- there is no `]` among the bytes
abbrev pub HasNoEnd : List ℕ → Type 0
HasNoEnd bytes = AllByRecursion (λ b. b ≢ 93) bytes

-- an item as it may stand before bytes: a class has no `]` between its brackets, and `!` right after `[` makes it
-- a complement; a byte for itself is no `*` and no `?`, and `[` only where no `]` follows
abbrev pub StandsBefore : List ℕ → Item → Type 0
StandsBefore rest Star = Unit {0}
StandsBefore rest AnyByte = Unit {0}
StandsBefore rest (Class complement inner) = HasNoEnd inner × (complement ≡ false → take 1 inner ≢ 33 ∷ [])
StandsBefore rest (Byte b) = (b ≢ 42) × (b ≢ 63) × (b ≡ 91 → HasNoEnd rest)

-- the pattern is the items, written one after another, each as it may stand before those after it
abbrev pub IsCut : List Item → List ℕ → Type 0
IsCut [] pattern = pattern ≡ []
IsCut (item ∷ more) pattern =
    (rest : List ℕ) × (pattern ≡ spelled item ++ rest) × StandsBefore rest item × IsCut more rest

-- a byte that always stands for itself
abbrev pub IsPlain : ℕ → Type 0
IsPlain b = (b ≢ 42) × (b ≢ 63) × (b ≢ 91)
