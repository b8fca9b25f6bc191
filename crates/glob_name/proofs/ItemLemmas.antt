-- The item at the front of a pattern.
use Rattle.std.proofs.Common.{◌≡◌, ◌⊎◌, inl, inr, ℕ, suc, zero, ◌+◌, ◌<◌, ◌≤◌, ◌==◌, Bool, true, false, cond, List, [], ◌∷◌, length, drop, IsTrue, refl, sym, ap, subst, ◌∙◌, Option, Some, None, arith}
use Rattle.std.specs.Prelude.{◌&&◌}
use Rattle.std.specs.List.{list_all, position}
use Rattle.std.proofs.lemmas.List.Quantifiers.{position-Some}
use Rattle.glob_name.specs.Glob.{Item, bracket, class_of, class_item, item_at, items_from, items, fits_byte, Matches}
use Rattle.glob_name.specs.Glob.Item.{Star, AnyByte, Byte}
use Rattle.glob_name.specs.Front.{begins_with_star, fits_item, fits_front}
use Rattle.glob_name.proofs.MatchLemmas.{IsOne, star_splits, star_takes, one_gives}

-- bytes of the item before are passed over
pub items_passed : (bs : List ℕ) (k : ℕ) → items_from bs k ≡ items (drop k bs)
items_passed [] zero = refl
items_passed [] (suc k) = refl
items_passed (b ∷ bs) zero = refl
items_passed (b ∷ bs) (suc k) = items_passed bs k

-- an item that takes one byte, and how many bytes of the pattern it takes beside its first
record OneItem (x : Item × ℕ) (size : ℕ) : Type 0 where
  single : IsOne x.0
  within : x.1 ≤ size

class_one : (complement : Bool) (size : ℕ) (rest : List ℕ) → cond complement (length rest + 1) (length rest) ≤ size → OneItem (class_of complement rest) size
class_one complement size rest h = by_place complement h (position (λ c. c == 93) rest) (λ n e. (position-Some (λ c. c == 93) rest n 0 e).0)
  where
    by_place : (complement : Bool) → cond complement (length rest + 1) (length rest) ≤ size
        → (o : Option ℕ) → ((n : ℕ) → o ≡ Some n → n < length rest) → OneItem (class_item complement rest o) size
    by_place complement h None k = record { single = tt; within = omega arith }
    by_place true h (Some n) k = record { single = tt; within = let m = k n refl in omega arith }
    by_place false h (Some n) k = record { single = tt; within = let m = k n refl in omega arith }

bracket_one : (rest : List ℕ) → OneItem (bracket rest) (length rest)
bracket_one [] = record { single = tt; within = omega arith }
bracket_one (b ∷ rest) = by_test (b == 33)
  where
    by_test : (t : Bool) → OneItem (cond t (class_of true rest) (class_of false (b ∷ rest))) (length (b ∷ rest))
    by_test true = class_one true (length (b ∷ rest)) rest (omega arith)
    by_test false = class_one false (length (b ∷ rest)) (b ∷ rest) (omega arith)

-- what an item is that is no star
abbrev item_more : ℕ → List ℕ → Item × ℕ
item_more b rest = cond (b == 63) (AnyByte, 0) (cond (b == 91) (bracket rest) (Byte b, 0))

-- the first item is the star, or takes one byte
abbrev ItemKind : ℕ → List ℕ → Type 0
ItemKind b rest = (((b == 42) ≡ true) × (item_at b rest ≡ (Star, 0))) ⊎ (((b == 42) ≡ false) × OneItem (item_at b rest) (length rest))

item_kind : (b : ℕ) (rest : List ℕ) → ItemKind b rest
item_kind b rest = by_star (b == 42)
  where
    by_bracket : (t : Bool) → OneItem (cond t (bracket rest) (Byte b, 0)) (length rest)
    by_bracket true = bracket_one rest
    by_bracket false = record { single = tt; within = omega arith }

    by_any : (t : Bool) → OneItem (cond t (AnyByte, 0) (cond (b == 91) (bracket rest) (Byte b, 0))) (length rest)
    by_any true = record { single = tt; within = omega arith }
    by_any false = by_bracket (b == 91)

    by_star : (t : Bool) → ((t ≡ true) × (cond t (Star, 0) (item_more b rest) ≡ (Star, 0))) ⊎ ((t ≡ false) × OneItem (cond t (Star, 0) (item_more b rest)) (length rest))
    by_star true = inl (refl, refl)
    by_star false = inr (refl, by_any (b == 63))

drop_one_more : (x : ℕ) (xs : List ℕ) (k : ℕ) → drop (k + 1) (x ∷ xs) ≡ drop k xs
drop_one_more x xs k = let e : k + 1 ≡ suc k = omega arith in ap (λ (j : ℕ). drop j (x ∷ xs)) e

-- what is known of a first item that fits a byte and takes so many bytes
pub record OneFront (rest : List ℕ) (b n : ℕ) : Type 0 where
  pub item : Item
  pub front : items rest ≡ item ∷ items (drop n rest)
  pub single : IsOne item
  pub fits : fits_byte item b ≡ true
  pub some : 0 < n
  pub within : n ≤ length rest

pub front_fits : (rest : List ℕ) (b n : ℕ) → fits_front rest b ≡ Some n → OneFront rest b n
front_fits [] b n e = cc
front_fits (x ∷ rest) b n e = by_kind (item_kind x rest)
  where
    by_test : OneItem (item_at x rest) (length rest) → (t : Bool) → fits_byte (item_at x rest).0 b ≡ t → cond t (Some ((item_at x rest).1 + 1)) None ≡ Some n → OneFront (x ∷ rest) b n
    by_test one true h f =
        let size : n ≡ (item_at x rest).1 + 1 = cc
        in record {
          item = (item_at x rest).0;
          front = ap (λ (w : List Item). (item_at x rest).0 ∷ w) (items_passed rest (item_at x rest).1 ∙ ap (λ (bs : List ℕ). items bs) (sym (drop_one_more x rest (item_at x rest).1)) ∙ ap (λ (k : ℕ). items (drop k (x ∷ rest))) (sym size));
          single = one.single;
          fits = h;
          some = omega (arith, size);
          within = let k = one.within in omega (arith, size, k);
        }
    by_test one false h f = cc

    by_kind : ItemKind x rest → OneFront (x ∷ rest) b n
    by_kind (inl (k, is)) = absurd (none (ap (λ (y : Item × ℕ). fits_item y b) is))
      where
        none : fits_item (item_at x rest) b ≡ None → ⊥
        none f = cc
    by_kind (inr (k, one)) = by_test one _ refl e

-- where the first item is no star and doesn't fit the first byte, nothing matches
pub front_differs : (rest : List ℕ) (b : ℕ) (left : List ℕ) → begins_with_star rest ≡ false → fits_front rest b ≡ None → Matches (items rest) (b ∷ left) → ⊥
front_differs [] b left s e m = cc
front_differs (x ∷ rest) b left s e m = by_kind (item_kind x rest)
  where
    by_kind : ItemKind x rest → ⊥
    by_kind (inl (k, is)) = cc
    by_kind (inr (k, one)) = clash (one_gives (item_at x rest).0 (items_from rest (item_at x rest).1) (b ∷ left) one.single m)
      where
        clash : (c : ℕ) × (back : List ℕ) × (b ∷ left ≡ c ∷ back) × (fits_byte (item_at x rest).0 c ≡ true) × Matches (items_from rest (item_at x rest).1) back → ⊥
        clash (c, back, same, fits, more) =
            let is : fits_byte (item_at x rest).0 b ≡ true = cc
            in let some : fits_item (item_at x rest) b ≡ Some ((item_at x rest).1 + 1) = ap (λ (t : Bool). cond t (Some ((item_at x rest).1 + 1)) None) is
            in cc

-- a star that comes first is one byte of the pattern
pub star_front : (rest : List ℕ) → begins_with_star rest ≡ true → (items rest ≡ Star ∷ items (drop 1 rest)) × (0 < length rest)
star_front [] e = cc
star_front (b ∷ rest) e = (by_test (b == 42) e, omega arith)
  where
    by_test : (t : Bool) → t ≡ true
        → (cond t (Star, 0) (item_more b rest)).0 ∷ items_from rest (cond t (Star, 0) (item_more b rest)).1 ≡ Star ∷ items rest
    by_test true e = refl
    by_test false e = cc

-- only stars match nothing
pub all_stars : (rest : List ℕ) → (IsTrue (list_all (λ b. b == 42) rest) → Matches (items rest) []) × (Matches (items rest) [] → IsTrue (list_all (λ b. b == 42) rest))
all_stars [] = (λ t. refl, λ m. refl)
all_stars (b ∷ rest) = by_kind (item_kind b rest) (all_stars rest)
  where
    by_kind : ItemKind b rest
        → (IsTrue (list_all (λ c. c == 42) rest) → Matches (items rest) []) × (Matches (items rest) [] → IsTrue (list_all (λ c. c == 42) rest))
        → (IsTrue ((b == 42) && list_all (λ c. c == 42) rest) → Matches (items (b ∷ rest)) []) × (Matches (items (b ∷ rest)) [] → IsTrue ((b == 42) && list_all (λ c. c == 42) rest))
    by_kind (inl (e, is)) below =
        let back : Matches (items rest) [] → Matches (items (b ∷ rest)) [] = λ m. subst (λ (x : Item × ℕ). Matches (x.0 ∷ items_from rest x.1) []) (sym is) (star_takes (items rest) [] m)
        in let to : Matches (items (b ∷ rest)) [] → Matches (items rest) [] = λ m. elim (star_splits (items rest) [] (subst (λ (x : Item × ℕ). Matches (x.0 ∷ items_from rest x.1) []) is m)) [ inl h ↦ h | inr k ↦ absurd k ]
        in (
          λ t. back (below.0 (subst (λ (c : Bool). IsTrue (c && list_all (λ x. x == 42) rest)) e t)),
          λ m. subst (λ (c : Bool). IsTrue (c && list_all (λ x. x == 42) rest)) (sym e) (below.1 (to m)),
        )
    by_kind (inr (e, one)) below = (
      λ t. let f : false ≡ true = subst (λ (c : Bool). IsTrue (c && list_all (λ x. x == 42) rest)) e t in cc,
      λ m. let g = one_gives (item_at b rest).0 (items_from rest (item_at b rest).1) [] one.single m in cc,
    )
