-- Where the scan of a pattern and a name stands, and what each of its steps keeps.
use Rattle.std.proofs.Common.{◌≡◌, ◌⊎◌, inl, inr, ℕ, ◌+◌, ◌*◌, ◌<◌, ◌≤◌, ◌==◌, Bool, true, false, List, [], ◌∷◌, length, drop, IsTrue, length-drop, get_or, sym, ap, subst, ◌∙◌, Some, None, arith}
use Rattle.std.specs.Prelude.{◌↔◌}
use Rattle.std.specs.List.{list_all}
use Rattle.glob_name.specs.Glob.{Item, items, Matches}
use Rattle.glob_name.specs.Glob.Item.{Star}
use Rattle.glob_name.specs.Front.{begins_with_star, fits_front, IsTail}
use Rattle.glob_name.proofs.MatchLemmas.{FitsLater, star_splits, star_takes, star_takes_later, star_takes_star, one_tail, one_later, one_takes}
use Rattle.glob_name.proofs.TailLemmas.{tail_drop}
use Rattle.glob_name.proofs.ItemLemmas.{OneFront, front_fits, front_differs, star_front, all_stars}

-- the last star passed, if any, takes more than it did: what is after it fits a later part of what was left at it
abbrev pub FitsFromStar : Bool → List ℕ → List ℕ → Type 0
FitsFromStar false after tried = ⊥
FitsFromStar true after tried = FitsLater (items after) tried

-- the pattern matches the name where what is left of both matches or the last star takes more (`only`, `here`, `there`); that a star takes more
-- helps what is left (`later`), which is why no star before the last counts
pub record Scans (tail : ℕ) (pattern name rest left : List ℕ) (star : Bool) (after tried : List ℕ) : Type 0 where
  pub only : Matches (items pattern) name → Matches (items rest) left ⊎ FitsFromStar star after tried
  pub here : Matches (items rest) left → Matches (items pattern) name
  pub there : FitsFromStar star after tried → Matches (items pattern) name
  pub later : FitsFromStar star after tried → FitsLater (items rest) left
  pub shorter : length left ≤ length tried
  pub within : length after ≤ length pattern
  pub inside : length rest ≤ length pattern
  pub rest_tail : IsTail tail rest
  pub after_tail : IsTail tail after

scan_star : (tail : ℕ) (pattern name rest left : List ℕ) (star : Bool) (after tried : List ℕ) → Scans tail pattern name rest left star after tried
    → begins_with_star rest ≡ true → Scans tail pattern name (drop 1 rest) left true (drop 1 rest) left
scan_star tail pattern name rest left star after tried s e =
    let f = star_front rest e
    in let to : Matches (items rest) left → Matches (Star ∷ items (drop 1 rest)) left = λ m. subst (λ (w : List Item). Matches w left) f.0 m
    in let back : Matches (Star ∷ items (drop 1 rest)) left → Matches (items rest) left = λ m. subst (λ (w : List Item). Matches w left) (sym f.0) m
    in let shifted : FitsFromStar star after tried → Matches (Star ∷ items (drop 1 rest)) left
    = λ k. star_takes_star (items (drop 1 rest)) left (subst (λ (w : List Item). FitsLater w left) f.0 (s.later k))
    in record {
      only = λ m. elim (s.only m) [ inl h ↦ star_splits _ left (to h) | inr k ↦ star_splits _ left (shifted k) ];
      here = λ m. s.here (back (star_takes _ left m));
      there = λ k. s.here (back (star_takes_later _ left k));
      later = λ k. k;
      shorter = omega arith;
      within = omega (arith, s.inside, length-drop 1 rest);
      inside = omega (arith, s.inside, length-drop 1 rest);
      rest_tail = tail_drop tail 1 rest s.rest_tail;
      after_tail = tail_drop tail 1 rest s.rest_tail;
    }

scan_item : (tail : ℕ) (pattern name rest : List ℕ) (b : ℕ) (left : List ℕ) (star : Bool) (after tried : List ℕ) (n : ℕ)
    → Scans tail pattern name rest (b ∷ left) star after tried → OneFront rest b n → Scans tail pattern name (drop n rest) left star after tried
scan_item tail pattern name rest b left star after tried n s f = record {
  only = λ m. elim (s.only m) [
    | inl h ↦ inl (one_tail f.item (items (drop n rest)) b left f.single (subst (λ (w : List Item). Matches w (b ∷ left)) f.front h))
    | inr k ↦ inr k
  ];
  here = λ m. s.here (subst (λ (w : List Item). Matches w (b ∷ left)) (sym f.front) (one_takes f.item (items (drop n rest)) b left f.fits m));
  there = s.there;
  later = λ k. one_later f.item (items (drop n rest)) b left f.single (subst (λ (w : List Item). FitsLater w (b ∷ left)) f.front (s.later k));
  shorter = let k = s.shorter in omega arith;
  within = s.within;
  inside = omega (arith, s.inside, length-drop n rest);
  rest_tail = tail_drop tail n rest s.rest_tail;
  after_tail = s.after_tail;
}

scan_back : (tail : ℕ) (pattern name rest left after : List ℕ) (x : ℕ) (tried : List ℕ)
    → Scans tail pattern name rest left true after (x ∷ tried) → (Matches (items rest) left → ⊥) → Scans tail pattern name after tried true after tried
scan_back tail pattern name rest left after x tried s none = record {
  only = λ m. elim (s.only m) [ inl h ↦ absurd (none h) | inr k ↦ k ];
  here = λ m. s.there (inl m);
  there = λ k. s.there (inr k);
  later = λ k. k;
  shorter = omega arith;
  within = s.within;
  inside = s.within;
  rest_tail = s.after_tail;
  after_tail = s.after_tail;
}

-- a star comes first: from now on it is the last
pub scan_star_by : (tail : ℕ) (pattern name rest left after_rest : List ℕ) (star : Bool) (after tried : List ℕ) → Scans tail pattern name rest left star after tried
    → begins_with_star rest ≡ true → after_rest ≡ drop 1 rest → Scans tail pattern name after_rest left true after_rest left
scan_star_by tail pattern name rest left after_rest star after tried s e d =
    subst (λ (r : List ℕ). Scans tail pattern name r left true r left) (sym d) (scan_star tail pattern name rest left star after tried s e)

-- another item comes first, and fits
pub scan_item_by : (tail : ℕ) (pattern name rest left after_rest after_left : List ℕ) (star : Bool) (after tried : List ℕ) (n : ℕ) → Scans tail pattern name rest left star after tried
    → 0 < length left → fits_front rest (get_or left 0 0) ≡ Some n → after_rest ≡ drop n rest → after_left ≡ drop 1 left
    → Scans tail pattern name after_rest after_left star after tried
scan_item_by tail pattern name rest [] after_rest after_left star after tried n s some e d f = absurd (omega arith)
scan_item_by tail pattern name rest (b ∷ left) after_rest after_left star after tried n s some e d f =
    subst (λ (r : List ℕ). Scans tail pattern name r after_left star after tried) (sym d)
    (subst (λ (r : List ℕ). Scans tail pattern name (drop n rest) r star after tried) (sym f) (scan_item tail pattern name rest b left star after tried n s (front_fits rest b n e)))

-- neither a star comes first nor an item that fits
pub nothing_fits : (rest left : List ℕ) → 0 < length left → begins_with_star rest ≡ false → fits_front rest (get_or left 0 0) ≡ None → Matches (items rest) left → ⊥
nothing_fits rest [] some s e m = absurd (omega arith)
nothing_fits rest (b ∷ left) some s e m = front_differs rest b left s e m

-- the step back: the last star takes one byte more
pub scan_back_by : (tail : ℕ) (pattern name rest left after_tried : List ℕ) (star : Bool) (after tried : List ℕ) → Scans tail pattern name rest left star after tried
    → 0 < length left → star ≡ true → (Matches (items rest) left → ⊥) → after_tried ≡ drop 1 tried → Scans tail pattern name after after_tried star after after_tried
scan_back_by tail pattern name rest left after_tried false after tried s some e none d = cc
scan_back_by tail pattern name rest left after_tried true after [] s some e none d = absurd (let k = s.shorter in omega arith)
scan_back_by tail pattern name rest left after_tried true after (x ∷ tried) s some e none d =
    subst (λ (r : List ℕ). Scans tail pattern name after r true after r) (sym d) (scan_back tail pattern name rest left after x tried s none)

-- no star to go back to: no match
pub scan_fails : (tail : ℕ) (pattern name rest left : List ℕ) (star : Bool) (after tried : List ℕ) → Scans tail pattern name rest left star after tried
    → star ≡ false → (Matches (items rest) left → ⊥) → IsTrue false ↔ Matches (items pattern) name
scan_fails tail pattern name rest left true after tried s e none = cc
scan_fails tail pattern name rest left false after tried s e none =
    (λ t. let f : false ≡ true = t in cc, λ m. absurd (elim (s.only m) [ inl h ↦ none h | inr k ↦ k ]))

-- the name is used up: a match where only stars are left
pub scan_ends : (tail : ℕ) (pattern name rest left : List ℕ) (star : Bool) (after tried : List ℕ) → Scans tail pattern name rest left star after tried → length left ≡ 0
    → IsTrue (list_all (λ b. b == 42) rest) ↔ Matches (items pattern) name
scan_ends tail pattern name rest [] star after tried s e =
    (λ t. s.here ((all_stars rest).0 t), λ m. elim (s.only m) [ inl h ↦ (all_stars rest).1 h | inr k ↦ absurd (s.later k) ])
scan_ends tail pattern name rest (b ∷ left) star after tried s e = absurd (omega (arith, e))

pub one_less : (tried after_tried left : List ℕ) → after_tried ≡ drop 1 tried → 0 < length left → length left ≤ length tried → length after_tried + 1 ≡ length tried
one_less tried after_tried left e some h = let k = ap (λ (xs : List ℕ). length xs) e in omega (arith, k, length-drop 1 tried)

-- the pattern is read from the star again, for one byte of the name less
pub steps_back : (p a t u r : ℕ) → u + 1 ≡ t → a ≤ p → u * (p + 1) + a < t * (p + 1) + r
steps_back p a t u r e h = let k : t * (p + 1) ≡ u * (p + 1) + (p + 1) = ap (λ (n : ℕ). n * (p + 1)) (sym e) ∙ omega arith in omega (arith, k)
