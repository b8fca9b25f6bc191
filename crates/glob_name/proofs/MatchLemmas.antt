-- Items against a name: what a star may take, and what another item takes.
use Rattle.std.proofs.Common.{◌≡◌, ◌⊎◌, inl, inr, ℕ, true, List, [], ◌∷◌, ◌++◌, refl, sym, ap, subst, ◌∙◌}
use Rattle.glob_name.specs.Glob.{Item, fits_byte, FitsPiece, Matches}
use Rattle.glob_name.specs.Glob.Item.{Star, AnyByte, Class, Byte}

-- some later part of the name fits
abbrev pub FitsLater : List Item → List ℕ → Type 0
FitsLater more [] = ⊥
FitsLater more (b ∷ name) = Matches more name ⊎ FitsLater more name

-- what is after a star fits the name or a later part of it
pub star_splits : (more : List Item) (name : List ℕ) → Matches (Star ∷ more) name → Matches more name ⊎ FitsLater more name
star_splits more name (piece, back, e, fits, rest) = by_piece piece name e
  where
    by_piece : (piece : List ℕ) (name : List ℕ) → name ≡ piece ++ back → Matches more name ⊎ FitsLater more name
    by_piece [] name e = inl (subst (λ (n : List ℕ). Matches more n) (sym e) rest)
    by_piece (x ∷ piece) [] e = cc
    by_piece (x ∷ piece) (y ∷ name) e = inr (by_piece piece name cc)

-- a star may take nothing
pub star_takes : (more : List Item) (name : List ℕ) → Matches more name → Matches (Star ∷ more) name
star_takes more name h = ([], name, refl, tt, h)

-- a star may take one byte more
pub star_takes_more : (more : List Item) (b : ℕ) (name : List ℕ) → Matches (Star ∷ more) name → Matches (Star ∷ more) (b ∷ name)
star_takes_more more b name (piece, back, e, fits, rest) = (b ∷ piece, back, ap (λ (n : List ℕ). b ∷ n) e, tt, rest)

-- a star may take what is before a later part
pub star_takes_later : (more : List Item) (name : List ℕ) → FitsLater more name → Matches (Star ∷ more) name
star_takes_later more [] h = absurd h
star_takes_later more (b ∷ name) (inl h) = star_takes_more more b name (star_takes more name h)
star_takes_later more (b ∷ name) (inr h) = star_takes_more more b name (star_takes_later more name h)

-- a star may take what is before a later star
pub star_takes_star : (more : List Item) (name : List ℕ) → FitsLater (Star ∷ more) name → Matches (Star ∷ more) name
star_takes_star more [] h = absurd h
star_takes_star more (b ∷ name) (inl h) = star_takes_more more b name h
star_takes_star more (b ∷ name) (inr h) = star_takes_more more b name (star_takes_star more name h)

-- an item that takes one byte
abbrev pub IsOne : Item → Type 0
IsOne Star = ⊥
IsOne _ = Unit {0}

one_fits : (item : Item) (b : ℕ) → fits_byte item b ≡ true → FitsPiece item (b ∷ [])
one_fits Star b e = tt
one_fits AnyByte b e = (b, refl, e)
one_fits (Class complement inner) b e = (b, refl, e)
one_fits (Byte x) b e = (b, refl, e)

record OneByte (item : Item) (piece : List ℕ) : Type 0 where
  byte : ℕ
  alone : piece ≡ byte ∷ []
  fits : fits_byte item byte ≡ true

one_byte : (item : Item) (piece : List ℕ) → IsOne item → FitsPiece item piece → OneByte item piece
one_byte Star piece h f = absurd h
one_byte AnyByte piece h (b, e, t) = record { byte = b; alone = e; fits = t }
one_byte (Class complement inner) piece h (b, e, t) = record { byte = b; alone = e; fits = t }
one_byte (Byte x) piece h (b, e, t) = record { byte = b; alone = e; fits = t }

-- where such an item comes first, the name has a byte that fits it, and the rest fits the other items
pub one_gives : (item : Item) (more : List Item) (name : List ℕ) → IsOne item → Matches (item ∷ more) name
    → (b : ℕ) × (back : List ℕ) × (name ≡ b ∷ back) × (fits_byte item b ≡ true) × Matches more back
one_gives item more name h (piece, back, e, fits, rest) =
    let o = one_byte item piece h fits
    in (o.byte, back, e ∙ ap (λ (p : List ℕ). p ++ back) o.alone, o.fits, rest)

pub one_tail : (item : Item) (more : List Item) (b : ℕ) (name : List ℕ) → IsOne item → Matches (item ∷ more) (b ∷ name) → Matches more name
one_tail item more b name h m =
    let g = one_gives item more (b ∷ name) h m
    in let same : name ≡ g.1 = cc
    in subst (λ (n : List ℕ). Matches more n) (sym same) g.4

-- a later part that such an item fits leaves a later part for the others
pub one_later : (item : Item) (more : List Item) (b : ℕ) (name : List ℕ) → IsOne item → FitsLater (item ∷ more) (b ∷ name) → FitsLater more name
one_later item more b [] h (inl m) = let g = one_gives item more [] h m in cc
one_later item more b [] h (inr m) = absurd m
one_later item more b (c ∷ name) h (inl m) = inl (one_tail item more c name h m)
one_later item more b (c ∷ name) h (inr m) = inr (one_later item more c name h m)

pub one_takes : (item : Item) (more : List Item) (b : ℕ) (name : List ℕ) → fits_byte item b ≡ true → Matches more name → Matches (item ∷ more) (b ∷ name)
one_takes item more b name e m = (b ∷ [], name, refl, one_fits item b e, m)
