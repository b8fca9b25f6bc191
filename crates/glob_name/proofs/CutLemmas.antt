-- The one list of items that a pattern is cut into.
use Rattle.std.proofs.Common.{◌≡◌, ◌≢◌, ℕ, suc, zero, ◌+◌, ◌<◌, ◌≤◌, ◌==◌, Bool, true, false, cond, List, [], ◌∷◌, ◌++◌, length, drop, take, get_or, length-append, refl, sym, ap, subst, ◌∙◌, Option, Some, None, arith}
use Rattle.std.specs.Prelude.{◌↔◌, nat_lt}
use Rattle.std.specs.List.{position, position_or_len, AllByRecursion}
use Rattle.std.proofs.lemmas.Bool.{eqb-true, eq-eqb, lt-ltb, ltb-false}
use Rattle.std.proofs.lemmas.List.{get_or_append_left}
use Rattle.std.proofs.lemmas.List.Quantifiers.{position-Some}
use Rattle.std.proofs.lemmas.List.Sums.{position_or_len_is, fails_before_first}
use Rattle.glob_name.specs.Glob.{Item, bracket, class_of, class_item, item_at, items_from, items, Matches, spelled, IsPlain, HasNoEnd, StandsBefore, IsCut}
use Rattle.glob_name.specs.Glob.Item.{Star, AnyByte, Class, Byte}
use Rattle.glob_name.proofs.MatchLemmas.{one_gives, one_takes}
use Rattle.glob_name.proofs.ItemLemmas.{items_passed}

-- an item and the bytes after it: as they are written, and that the item may stand there
record IsWritten (x : Item × ℕ) (rest whole : List ℕ) : Type 0 where
  text : whole ≡ spelled x.0 ++ drop x.1 rest
  stands : StandsBefore (drop x.1 rest) x.0

-- a list around one of its elements
around : (xs : List ℕ) (n : ℕ) → n < length xs → xs ≡ take n xs ++ get_or xs n 0 ∷ drop (suc n) xs
around [] n h = absurd (omega arith)
around (x ∷ xs) zero h = refl
around (x ∷ xs) (suc n) h = ap (λ (r : List ℕ). x ∷ r) (around xs n (omega arith))

join_three : (a c : List ℕ) (b : ℕ) → (a ++ b ∷ []) ++ c ≡ a ++ b ∷ c
join_three [] c b = refl
join_three (x ∷ a) c b = ap (λ (r : List ℕ). x ∷ r) (join_three a c b)

differs : (b c : ℕ) → (b == c) ≡ false → b ≢ c
differs b c e same = let k = eq-eqb b c same in cc

-- no `]` among the first bytes, where none of them passes
no_end_taken : (xs : List ℕ) (n : ℕ) → n ≤ length xs → ((k : ℕ) → k < n → (get_or xs k 0 == 93) ≡ false) → HasNoEnd (take n xs)
no_end_taken xs zero h none = tt
no_end_taken [] (suc n) h none = absurd (omega arith)
no_end_taken (x ∷ xs) (suc n) h none = (differs x 93 (none 0 (omega arith)), no_end_taken xs n (omega arith) (λ k less. none (suc k) (omega arith)))

no_end_byte : (xs : List ℕ) → HasNoEnd xs → (k : ℕ) → k < length xs → get_or xs k 0 ≢ 93
no_end_byte [] t k less = absurd (omega arith)
no_end_byte (x ∷ xs) (first, t) zero less = first
no_end_byte (x ∷ xs) (first, t) (suc k) less = no_end_byte xs t k (omega arith)

-- the place of the first `]`, of which there is none
no_end_none : (xs : List ℕ) → HasNoEnd xs → position (λ b. b == 93) xs ≡ None
no_end_none xs t = by_place (position (λ b. b == 93) xs) refl
  where
    by_place : (o : Option ℕ) → position (λ b. b == 93) xs ≡ o → o ≡ None
    by_place None e = refl
    by_place (Some n) e =
        let k = position-Some (λ b. b == 93) xs n 0 e
        in absurd (no_end_byte xs t n k.0 (eqb-true (get_or xs n 0) 93 k.1))

no_end_by : (xs : List ℕ) → ((k : ℕ) → k < length xs → (get_or xs k 0 == 93) ≡ false) → HasNoEnd xs
no_end_by [] none = tt
no_end_by (x ∷ xs) none = (differs x 93 (none 0 (omega arith)), no_end_by xs (λ k less. none (suc k) (omega arith)))

none_no_end : (xs : List ℕ) → position (λ b. b == 93) xs ≡ None → HasNoEnd xs
none_no_end xs e = by_len (nat_lt (position_or_len (λ b. b == 93) xs) (length xs)) refl e
  where
    by_len : (t : Bool) → nat_lt (position_or_len (λ b. b == 93) xs) (length xs) ≡ t
        → cond t (Some (position_or_len (λ b. b == 93) xs)) None ≡ None → HasNoEnd xs
    by_len true k e = cc
    by_len false k e =
        let most = ltb-false (position_or_len (λ b. b == 93) xs) (length xs) k
        in no_end_by xs (λ k less. fails_before_first (λ b. b == 93) xs k 0 (omega (arith, most, less)))

-- the place of the first `]`, after bytes of which none is one
end_place : (inner rest : List ℕ) → HasNoEnd inner → position (λ b. b == 93) (inner ++ 93 ∷ rest) ≡ Some (length inner)
end_place inner rest t =
    let all = inner ++ 93 ∷ rest
    in let total : length all ≡ length inner + length (93 ∷ rest) = length-append inner (93 ∷ rest)
    in let within : length inner < length all = omega (arith, total)
    in let place : position_or_len (λ b. b == 93) all ≡ length inner
    = position_or_len_is (λ b. b == 93) all (length inner) 0 (omega (arith, within)) (λ k less. fails k less) (λ h. ap (λ (b : ℕ). b == 93) (at_end inner))
    in ap (λ (n : ℕ). cond (nat_lt n (length all)) (Some n) None) place
    ∙ ap (λ (c : Bool). cond c (Some (length inner)) None) (lt-ltb (length inner) (length all) within)
  where
    fails : (k : ℕ) → k < length inner → (get_or (inner ++ 93 ∷ rest) k 0 == 93) ≡ false
    fails k less = ap (λ (b : ℕ). b == 93) (get_or_append_left inner (93 ∷ rest) 0 k less) ∙ by_test (get_or inner k 0 == 93) refl
      where
        by_test : (c : Bool) → (get_or inner k 0 == 93) ≡ c → c ≡ false
        by_test true e = absurd (no_end_byte inner t k less (eqb-true (get_or inner k 0) 93 e))
        by_test false e = refl

    at_end : (inner : List ℕ) → get_or (inner ++ 93 ∷ rest) (length inner) 0 ≡ 93
    at_end [] = refl
    at_end (x ∷ inner) = at_end inner

class_written : (complement : Bool) (rest : List ℕ) → (complement ≡ false → take 1 rest ≢ 33 ∷ [])
    → IsWritten (class_of complement rest) (cond complement (33 ∷ rest) rest) (91 ∷ cond complement (33 ∷ rest) rest)
class_written complement rest first = by_place complement first (position (λ b. b == 93) rest) refl
  where
    split : (n : ℕ) → (n < length rest) × (get_or rest n 0 ≡ 93) → rest ≡ (take n rest ++ 93 ∷ []) ++ drop (n + 1) rest
    split n (within, is) =
        let e : suc n ≡ n + 1 = omega arith
        in around rest n within ∙ ap (λ (b : ℕ). take n rest ++ b ∷ drop (suc n) rest) is
        ∙ sym (join_three (take n rest) (drop (suc n) rest) 93) ∙ ap (λ (j : ℕ). (take n rest ++ 93 ∷ []) ++ drop j rest) e

    found : (n : ℕ) → position (λ b. b == 93) rest ≡ Some n → (n < length rest) × (get_or rest n 0 ≡ 93) × HasNoEnd (take n rest)
    found n e =
        let k = position-Some (λ b. b == 93) rest n 0 e
        in let less = k.0
        in (less, eqb-true (get_or rest n 0) 93 k.1, no_end_taken rest n (omega (arith, less)) k.2)

    by_place : (complement : Bool) → (complement ≡ false → take 1 rest ≢ 33 ∷ []) → (o : Option ℕ) → position (λ b. b == 93) rest ≡ o
        → IsWritten (class_item complement rest o) (cond complement (33 ∷ rest) rest) (91 ∷ cond complement (33 ∷ rest) rest)
    by_place true first None e = record { text = refl; stands = (differs 91 42 refl, differs 91 63 refl, λ k. (differs 33 93 refl, none_no_end rest e)) }
    by_place false first None e = record { text = refl; stands = (differs 91 42 refl, differs 91 63 refl, λ k. none_no_end rest e) }
    by_place true first (Some n) e =
        let k = found n e
        in let j : n + 2 ≡ suc (n + 1) = omega arith
        in record {
          text = ap (λ (r : List ℕ). 91 ∷ 33 ∷ r) (split n (k.0, k.1)) ∙ ap (λ (i : ℕ). 91 ∷ 33 ∷ (take n rest ++ 93 ∷ []) ++ drop i (33 ∷ rest)) (sym j);
          stands = (k.2, λ same. cc);
        }
    by_place false first (Some n) e =
        let k = found n e
        in record {
          text = ap (λ (r : List ℕ). 91 ∷ r) (split n (k.0, k.1));
          stands = (k.2, λ same m. first refl (first_taken rest n m));
        }
      where
        first_taken : (xs : List ℕ) (n : ℕ) → take 1 (take n xs) ≡ 33 ∷ [] → take 1 xs ≡ 33 ∷ []
        first_taken xs zero m = cc
        first_taken [] (suc n) m = cc
        first_taken (x ∷ xs) (suc n) m = m

bracket_written : (rest : List ℕ) → IsWritten (bracket rest) rest (91 ∷ rest)
bracket_written [] = record { text = refl; stands = (differs 91 42 refl, differs 91 63 refl, λ k. tt) }
bracket_written (b ∷ rest) = by_test (b == 33) refl
  where
    by_test : (t : Bool) → (b == 33) ≡ t → IsWritten (cond t (class_of true rest) (class_of false (b ∷ rest))) (b ∷ rest) (91 ∷ b ∷ rest)
    by_test true e = subst (λ (x : ℕ). IsWritten (class_of true rest) (x ∷ rest) (91 ∷ x ∷ rest)) (sym (eqb-true b 33 e)) (class_written true rest (λ k. cc))
    by_test false e = class_written false (b ∷ rest) (λ k m. differs b 33 e cc)

item_written : (b : ℕ) (rest : List ℕ) → IsWritten (item_at b rest) rest (b ∷ rest)
item_written b rest = by_star (b == 42) refl
  where
    by_bracket : (t : Bool) → (b == 91) ≡ t → (b == 42) ≡ false → (b == 63) ≡ false → IsWritten (cond t (bracket rest) (Byte b, 0)) rest (b ∷ rest)
    by_bracket true e star any = subst (λ (x : ℕ). IsWritten (bracket rest) rest (x ∷ rest)) (sym (eqb-true b 91 e)) (bracket_written rest)
    by_bracket false e star any = record { text = refl; stands = (differs b 42 star, differs b 63 any, λ k. absurd (differs b 91 e k)) }

    by_any : (t : Bool) → (b == 63) ≡ t → (b == 42) ≡ false → IsWritten (cond t (AnyByte, 0) (cond (b == 91) (bracket rest) (Byte b, 0))) rest (b ∷ rest)
    by_any true e star = record { text = ap (λ (x : ℕ). x ∷ rest) (eqb-true b 63 e); stands = tt }
    by_any false e star = by_bracket (b == 91) refl star e

    by_star : (t : Bool) → (b == 42) ≡ t → IsWritten (cond t (Star, 0) (cond (b == 63) (AnyByte, 0) (cond (b == 91) (bracket rest) (Byte b, 0)))) rest (b ∷ rest)
    by_star true e = record { text = ap (λ (x : ℕ). x ∷ rest) (eqb-true b 42 e); stands = tt }
    by_star false e = by_any (b == 63) refl e

cut_from : (pattern : List ℕ) (skip : ℕ) → IsCut (items_from pattern skip) (drop skip pattern)
cut_from [] zero = refl
cut_from [] (suc skip) = refl
cut_from (b ∷ rest) (suc skip) = cut_from rest skip
cut_from (b ∷ rest) zero =
    let w = item_written b rest
    in (drop (item_at b rest).1 rest, w.text, w.stands, cut_from rest (item_at b rest).1)

not_equal : (b c : ℕ) → b ≢ c → (b == c) ≡ false
not_equal b c ne = by_test (b == c) refl
  where
    by_test : (t : Bool) → (b == c) ≡ t → t ≡ false
    by_test true e = absurd (ne (eqb-true b c e))
    by_test false e = refl

-- the class that stands first is the first item
class_first : (complement : Bool) (inner rest : List ℕ) → HasNoEnd inner → class_of complement (inner ++ 93 ∷ rest) ≡ (Class complement inner, cond complement (length inner + 2) (length inner + 1))
class_first complement inner rest t =
    ap (λ (o : Option ℕ). class_item complement (inner ++ 93 ∷ rest) o) (end_place inner rest t)
    ∙ ap (λ (r : List ℕ). (Class complement r, cond complement (length inner + 2) (length inner + 1))) (taken inner)
  where
    taken : (inner : List ℕ) → take (length inner) (inner ++ 93 ∷ rest) ≡ inner
    taken [] = refl
    taken (x ∷ inner) = ap (λ (r : List ℕ). x ∷ r) (taken inner)

left_behind : (inner rest : List ℕ) → drop (length inner + 1) (inner ++ 93 ∷ rest) ≡ rest
left_behind [] rest = refl
left_behind (x ∷ inner) rest =
    let e : suc (length inner) + 1 ≡ suc (length inner + 1) = omega arith
    in ap (λ (k : ℕ). drop k (x ∷ inner ++ 93 ∷ rest)) e ∙ left_behind inner rest

bracket_alone : (rest : List ℕ) → HasNoEnd rest → bracket rest ≡ (Byte 91, 0)
bracket_alone [] t = refl
bracket_alone (b ∷ rest) (first, t) = by_test (b == 33)
  where
    by_test : (c : Bool) → cond c (class_of true rest) (class_of false (b ∷ rest)) ≡ (Byte 91, 0)
    by_test true = ap (λ (o : Option ℕ). class_item true rest o) (no_end_none rest t)
    by_test false = ap (λ (o : Option ℕ). class_item false (b ∷ rest) o) (no_end_none (b ∷ rest) (first, t))

bracket_class : (inner rest : List ℕ) → take 1 inner ≢ 33 ∷ [] → bracket (inner ++ 93 ∷ rest) ≡ class_of false (inner ++ 93 ∷ rest)
bracket_class [] rest ne = refl
bracket_class (x ∷ inner) rest ne =
    ap (λ (t : Bool). cond t (class_of true (inner ++ 93 ∷ rest)) (class_of false (x ∷ inner ++ 93 ∷ rest)))
    (not_equal x 33 (λ same. ne (ap (λ (b : ℕ). b ∷ []) same)))

from_item : (x : Item × ℕ) (rest left : List ℕ) (item : Item) (n : ℕ) → x ≡ (item, n) → drop n rest ≡ left → x.0 ∷ items_from rest x.1 ≡ item ∷ items left
from_item x rest left item n e d =
    ap (λ (y : Item × ℕ). y.0 ∷ items_from rest y.1) e ∙ ap (λ (w : List Item). item ∷ w) (items_passed rest n ∙ ap (λ (r : List ℕ). items r) d)

first_item : (item : Item) (rest : List ℕ) → StandsBefore rest item → items (spelled item ++ rest) ≡ item ∷ items rest
first_item Star rest t = refl
first_item AnyByte rest t = refl
first_item (Byte b) rest (star, any, none) =
    ap (λ (x : Item × ℕ). x.0 ∷ items_from rest x.1)
    (ap (λ (t : Bool). cond t (Star, 0) (cond (b == 63) (AnyByte, 0) (cond (b == 91) (bracket rest) (Byte b, 0)))) (not_equal b 42 star)
    ∙ ap (λ (t : Bool). cond t (AnyByte, 0) (cond (b == 91) (bracket rest) (Byte b, 0))) (not_equal b 63 any)
    ∙ by_bracket (b == 91) refl)
  where
    by_bracket : (t : Bool) → (b == 91) ≡ t → cond t (bracket rest) (Byte b, 0) ≡ (Byte b, 0)
    by_bracket true e = let same = eqb-true b 91 e in bracket_alone rest (none same) ∙ ap (λ (x : ℕ). (Byte x, 0)) (sym same)
    by_bracket false e = refl
first_item (Class true inner) rest (t, first) =
    ap (λ (r : List ℕ). items (91 ∷ 33 ∷ r)) (join_three inner rest 93)
    ∙ from_item (class_of true (inner ++ 93 ∷ rest)) (33 ∷ inner ++ 93 ∷ rest) rest (Class true inner) (length inner + 2) (class_first true inner rest t)
    (let e : length inner + 2 ≡ suc (length inner + 1) = omega arith in ap (λ (k : ℕ). drop k (33 ∷ inner ++ 93 ∷ rest)) e ∙ left_behind inner rest)
first_item (Class false inner) rest (t, first) =
    ap (λ (r : List ℕ). items (91 ∷ r)) (join_three inner rest 93)
    ∙ from_item (bracket (inner ++ 93 ∷ rest)) (inner ++ 93 ∷ rest) rest (Class false inner) (length inner + 1)
    (bracket_class inner rest (first refl) ∙ class_first false inner rest t) (left_behind inner rest)

only_cut : (w : List Item) (pattern : List ℕ) → IsCut w pattern → w ≡ items pattern
only_cut [] pattern e = ap (λ (r : List ℕ). items r) (sym e)
only_cut (item ∷ w) pattern (rest, e, stands, more) =
    ap (λ (v : List Item). item ∷ v) (only_cut w rest more) ∙ sym (first_item item rest stands) ∙ ap (λ (r : List ℕ). items r) (sym e)

-- the items of a pattern are its one cut
pub cut_is_items : (w : List Item) (pattern : List ℕ) → IsCut w pattern ↔ (w ≡ items pattern)
cut_is_items w pattern = (only_cut w pattern, λ e. subst (λ (v : List Item). IsCut v pattern) (sym e) (cut_from pattern 0))

plain_items : (b : ℕ) (rest : List ℕ) → IsPlain b → items (b ∷ rest) ≡ Byte b ∷ items rest
plain_items b rest (star, any, bracket_sign) = first_item (Byte b) rest (star, any, λ e. absurd (bracket_sign e))

-- plain bytes match themselves alone
pub plain_matches : (pattern name : List ℕ) → AllByRecursion IsPlain pattern → Matches (items pattern) name ↔ (name ≡ pattern)
plain_matches [] name all = (λ m. m, λ e. e)
plain_matches (b ∷ pattern) name (p, all) = (
  λ m. let g = one_gives (Byte b) (items pattern) name tt (subst (λ (w : List Item). Matches w name) (plain_items b pattern p) m)
      in let first : b ≡ g.0 = eqb-true b g.0 g.3
      in let below : g.1 ≡ pattern = (plain_matches pattern g.1 all).0 g.4
      in g.2 ∙ ap (λ (x : ℕ). x ∷ g.1) (sym first) ∙ ap (λ (r : List ℕ). b ∷ r) below,
  λ e. subst (λ (w : List Item). Matches w name) (sym (plain_items b pattern p))
      (subst (λ (n : List ℕ). Matches (Byte b ∷ items pattern) n) (sym e)
      (one_takes (Byte b) (items pattern) b pattern (eq-eqb b b refl) ((plain_matches pattern pattern all).1 refl))),
)
