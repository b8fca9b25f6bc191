-- The tests of the table, run once, and what they say of each row.
use Rattle.std.proofs.Common.{None, not, ◌||◌, Bool, ◌==◌, ◌≡◌, ℕ, zero, suc, ◌<◌, ◌+◌, nat_eq, true, false, List, [], ◌∷◌, length, map, filter, refl, arith, sym, subst, eqb-true}
use Rattle.std.specs.Prelude.{codes}
use Rattle.std.specs.List.{list_all}
use Rattle.cfg_schema.specs.declared.table.Line.{Line}
use Rattle.cfg_schema.specs.declared.rows.TheConstants.{ROWS}
use Rattle.cfg_schema.specs.Keyword.{spelled}
use Rattle.cfg_schema.specs.Profile.{profile, line_at, same_word}
use Rattle.cfg_schema.specs.Place.{top_place, ordered_row}
use Rattle.cfg_schema.specs.Facts.{numbered, is_sound, apart, height, rises_from}
use Rattle.cfg_schema.proofs.TestLemmas.{both}

pub profile_length : length profile ≡ ROWS
unfolding profile
profile_length = refl

pub profile_numbered : numbered 0 profile ≡ true
unfolding profile
profile_numbered = refl

pub profile_sound : list_all (is_sound profile) profile ≡ true
unfolding profile
profile_sound = refl

pub profile_apart : apart profile ≡ true
unfolding profile
profile_apart = refl

pub profile_ordered : map (λ (line : Line). line.number) (filter (λ (line : Line). line.ordered) profile) ≡ 10 ∷ 77 ∷ 102 ∷ []
unfolding profile
profile_ordered = refl

-- a row that is ordered has no head, or this one
abbrev pub has_ordered_head : Line → Bool
has_ordered_head line = not line.ordered || ((length (spelled line.head) == 0) || same_word (spelled line.head) (codes "term"))

pub profile_ordered_heads : list_all has_ordered_head profile ≡ true
unfolding profile
profile_ordered_heads = refl

-- the rows that have another row's below them
pub profile_shared : map {B = ℕ × ℕ} (λ (line : Line). (line.number, line.inner)) (filter (λ (line : Line). not (line.number == line.inner)) profile)
    ≡ (3, 0) ∷ (91, 78) ∷ (92, 85) ∷ []
unfolding profile
profile_shared = refl

-- no row at the top is ordered
pub top_unordered : ordered_row top_place ≡ None
unfolding profile
top_unordered = refl

pub profile_rises : list_all (rises_from profile false) profile ≡ true
unfolding profile height
profile_rises = refl

pub profile_rises_in_group : list_all (rises_from profile true) profile ≡ true
unfolding profile height
profile_rises_in_group = refl

numbered_at : (n : ℕ) (lines : List Line) (id : ℕ) → numbered n lines ≡ true → id < length lines → (line_at lines id).number ≡ n + id
numbered_at n [] id h below = absurd (omega arith)
numbered_at n (line ∷ lines) zero h below =
    let here = eqb-true line.number n (both _ _ h).0 in omega arith
numbered_at n (line ∷ lines) (suc id) h below =
    let rest = numbered_at (n + 1) lines id (both (nat_eq line.number n) _ h).1 (omega arith) in omega (arith, rest)

-- the row at a place has that number
pub number_at : (id : ℕ) → id < length profile → (line_at profile id).number ≡ id
number_at id below = let at = numbered_at 0 profile id profile_numbered below in omega (arith, at)

pub number_below : (id : ℕ) → id < ROWS → (line_at profile id).number ≡ id
number_below id below = number_at id (subst (λ (n : ℕ). id < n) (sym profile_length) below)
