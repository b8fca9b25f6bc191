-- The rows that may stand below a row are those that its list has, so what is sought in the list is sought in the table.
use Rattle.std.proofs.Common.{◌≡◌, ℕ, zero, suc, ◌<◌, ◌+◌, ◌==◌, nat_lt, Bool, true, false, not, cond, ◌&&◌, ◌||◌, List, [], ◌∷◌, length, get_or, map, filter, Option, Some, refl, arith, ap, ◌∙◌, sym, subst, eqb-true, ltb-true, position, Bor}
use Rattle.std.specs.List.{list_all, AllByRecursion, position_from}
use Rattle.std.proofs.lemmas.Iterator.Adapters.{position_from-zero}
use Rattle.cfg_schema.specs.declared.table.Line.{Line}
use Rattle.cfg_schema.specs.declared.table.Reach.{Reach}
use Rattle.cfg_schema.specs.declared.table.Reach.TheVariants.{Top, Within, Outside, Everywhere}
use Rattle.cfg_schema.specs.declared.level.Level.{Level}
use Rattle.cfg_schema.specs.declared.query.Query.{Query}
use Rattle.cfg_schema.specs.declared.query.Query.TheVariants.{Step, Head, Words, Name, Ordered}
use Rattle.cfg_schema.specs.declared.rows.TheConstants.{ROWS}
use Rattle.cfg_schema.specs.Profile.{profile, line_at, no_line, has_rows, is_own, reaches, stands, begins, rows_in, same_word}
use Rattle.cfg_schema.specs.Facts.{numbered, is_everywhere}
use Rattle.cfg_schema.specs.Query.{is_asked, row_lists, rows_of, first_of}
use Rattle.cfg_schema.proofs.TestLemmas.{both, same}
use Rattle.cfg_schema.proofs.RowFacts.{profile_length, profile_numbered, number_at}
use Rattle.cfg_schema.proofs.LevelLemmas.{all_at}

-- a row that may stand below a row: one of its own, or an apply statement
abbrev may_stand : ℕ → Line → Bool
may_stand inner line = is_everywhere line.reach || is_own line.reach (line.under == inner)

abbrev numbers : List Line → List ℕ
numbers lines = map (λ (line : Line). line.number) lines

abbrev same_bool : Bool → Bool → Bool
same_bool true b = b
same_bool false b = not b

-- the list of a row has the rows that may stand below it; it has more than the two apply statements where rows are listed there
abbrev is_listed : Line → Bool
is_listed line =
    same_word (rows_of line.number) (numbers (filter (may_stand line.number) profile))
    && (list_all (λ row. nat_lt row ROWS) (rows_of line.number)
    && (nat_lt line.inner ROWS && same_bool (has_rows profile line.number) (nat_lt 2 (length (rows_of line.number)))))

profile_listed : list_all is_listed profile ≡ true
unfolding profile row_lists
profile_listed = refl

inside : (id : ℕ) → id < ROWS → id < length profile
inside id below = subst (λ (n : ℕ). id < n) (sym profile_length) below

record IsListed (id : ℕ) : Type 0 where
  rows : rows_of id ≡ numbers (filter (may_stand id) profile)
  within : list_all (λ row. nat_lt row ROWS) (rows_of id) ≡ true
  inner : (line_at profile id).inner < ROWS
  has : same_bool (has_rows profile id) (nat_lt 2 (length (rows_of id))) ≡ true

listed_at : (id : ℕ) → id < ROWS → IsListed id
listed_at id below =
    let line = line_at profile id
    in let here = number_at id (inside id below)
    in let first = both (same_word (rows_of line.number) (numbers (filter (may_stand line.number) profile))) _ (all_at is_listed profile id no_line profile_listed (inside id below))
    in let second = both (list_all (λ row. nat_lt row ROWS) (rows_of line.number)) _ first.1
    in let third = both (nat_lt line.inner ROWS) _ second.1
    in record {
      rows = subst (λ (n : ℕ). rows_of n ≡ numbers (filter (may_stand n) profile)) here (same _ _ first.0);
      within = subst (λ (n : ℕ). list_all (λ row. nat_lt row ROWS) (rows_of n) ≡ true) here second.0;
      inner = ltb-true _ _ third.0;
      has = subst (λ (n : ℕ). same_bool (has_rows profile n) (nat_lt 2 (length (rows_of n))) ≡ true) here third.1;
    }

all_below : (rows : List ℕ) → list_all (λ row. nat_lt row ROWS) rows ≡ true → AllByRecursion (λ r. r < ROWS) rows
all_below [] h = tt
all_below (row ∷ rows) h = let parts = both (nat_lt row ROWS) _ h in (ltb-true row ROWS parts.0, all_below rows parts.1)

-- the rows of a list are rows
rows_within : (id : ℕ) → id < ROWS → AllByRecursion (λ r. r < ROWS) (rows_of id)
rows_within id below = all_below (rows_of id) (listed_at id below).within

-- the list that is read at a place, of all lists
module _ (lists : List (Bor (List ℕ))) (row : ℕ) (d : Bor (List ℕ)) (all : map (λ rows. rows.now) lists ≡ row_lists) (number : length lists ≡ ROWS)
    (below : row < ROWS) where
  pub list_read : (get_or lists row d).now ≡ rows_of row
  list_read = at lists row (omega (arith, number, below)) ∙ ap (λ (ls : List (List ℕ)). get_or ls row []) all
    where
      at : (xs : List (Bor (List ℕ))) (k : ℕ) → k < length xs → (get_or xs k d).now ≡ get_or (map (λ rows. rows.now) xs) k []
      at [] k less = absurd (omega (arith, less))
      at (x ∷ xs) zero less = refl
      at (x ∷ xs) (suc k) less = at xs k (omega (arith, less))

  pub list_within : AllByRecursion (λ r. r < ROWS) (get_or lists row d).now
  list_within = subst (λ (rows : List ℕ). AllByRecursion (λ r. r < ROWS) rows) (sym list_read) (rows_within row below)

same_is_same : (a b : Bool) → same_bool a b ≡ true → b ≡ a
same_is_same true true h = refl
same_is_same true false h = cc
same_is_same false true h = cc
same_is_same false false h = refl

-- a row has rows listed below it where its list has more than the apply statements
pub has_more : (id : ℕ) → id < ROWS → nat_lt 2 (length (rows_of id)) ≡ has_rows profile id
has_more id below = same_is_same _ _ (listed_at id below).has

-- the level that a row opens is listed below a row
pub inner_in : (lines : List Line) (id : ℕ) → lines ≡ profile → id < length lines → (line_at lines id).inner < ROWS
inner_in lines id e =
    subst (λ (ls : List Line). id < length ls → (line_at ls id).inner < ROWS) (sym e)
    (λ below. (listed_at id (subst (λ (n : ℕ). id < n) profile_length below)).inner)

-- what stands at a level may stand there
stands_by : (reach : Reach) (under inner : ℕ) (level : Level) → reaches reach (under == inner) level ≡ true
    → (is_everywhere reach || is_own reach (under == inner)) ≡ true
stands_by Top under inner level h = cc
stands_by Within under inner level h = h
stands_by Outside under inner level h = (both _ _ h).0
stands_by Everywhere under inner level h = refl

stands_may : (level : Level) (line : Line) → stands level line ≡ true → may_stand level.inner line ≡ true
stands_may level line h = stands_by line.reach line.under level.inner level h

-- a row that is asked for stands at the level
asked_stands : (level : Level) (query : Query) (line : Line) → is_asked level query line ≡ true → stands level line ≡ true
asked_stands level (Step step) line h = (both (stands level line) _ h).0
asked_stands level (Head word) line h = (both (stands level line) _ h).0
asked_stands level (Words word next) line h = (both (stands level line) _ (both (begins level word.now line) _ h).0).0
asked_stands level Name line h = (both (stands level line) _ h).0
asked_stands level Ordered line h = (both (stands level line) _ h).0

-- each row is found by its number
abbrev IsFound : Line → Type 0
IsFound line = line_at profile line.number ≡ line

all_places : {X : Type 0} (P : X → Type 0) (xs : List X) (d : X) → ((k : ℕ) → k < length xs → P (get_or xs k d)) → AllByRecursion P xs
all_places P [] d h = tt
all_places P (x ∷ xs) d h = (h 0 (omega arith), all_places P xs d (λ k below. h (suc k) (omega (arith, below))))

profile_found : AllByRecursion IsFound profile
profile_found = all_places IsFound profile no_line (λ k below. ap (λ (n : ℕ). line_at profile n) (number_at k below))

-- a test that only what may stand passes, and rows that are found by their numbers
module _ (test may : Line → Bool) (only : (line : Line) → test line ≡ true → may line ≡ true) where
  abbrev test_at : ℕ → Bool
  test_at row = test (line_at profile row)

  -- the first that passes stands first in the list too
  first_there : (n : ℕ) (lines : List Line) → numbered n lines ≡ true → AllByRecursion IsFound lines
      → first_of test_at (numbers (filter may lines)) ≡ position_from test n lines
  first_there n [] count found = refl
  first_there n (line ∷ lines) count found =
      by (test line) refl (may line) refl (first_there (n + 1) lines (both (line.number == n) _ count).1 found.1)
    where
      looked : test_at line.number ≡ test line
      looked = ap test found.0

      by : (t : Bool) → test line ≡ t → (m : Bool) → may line ≡ m
          → first_of test_at (numbers (filter may lines)) ≡ position_from test (n + 1) lines
          → first_of test_at (numbers (cond m (line ∷ filter may lines) (filter may lines))) ≡ cond t (Some n) (position_from test (n + 1) lines)
      by true t true m rest =
          ap (λ (b : Bool). cond b (Some line.number) (first_of test_at (numbers (filter may lines)))) (looked ∙ t)
          ∙ ap (λ (k : ℕ). Some k) (eqb-true line.number n (both (line.number == n) _ count).0)
      by true t false m rest = let c = sym m ∙ only line t in cc
      by false t true m rest = ap (λ (b : Bool). cond b (Some line.number) (first_of test_at (numbers (filter may lines)))) (looked ∙ t) ∙ rest
      by false t false m rest = rest

  -- those that pass are those of the list that do
  all_there : (lines : List Line) → AllByRecursion IsFound lines → filter test_at (numbers (filter may lines)) ≡ numbers (filter test lines)
  all_there [] found = refl
  all_there (line ∷ lines) found = by (test line) refl (may line) refl (all_there lines found.1)
    where
      looked : test_at line.number ≡ test line
      looked = ap test found.0

      by : (t : Bool) → test line ≡ t → (m : Bool) → may line ≡ m → filter test_at (numbers (filter may lines)) ≡ numbers (filter test lines)
          → filter test_at (numbers (cond m (line ∷ filter may lines) (filter may lines))) ≡ numbers (cond t (line ∷ filter test lines) (filter test lines))
      by true t true m rest =
          ap (λ (b : Bool). cond b (line.number ∷ filter test_at (numbers (filter may lines))) (filter test_at (numbers (filter may lines)))) (looked ∙ t)
          ∙ ap (λ (ns : List ℕ). line.number ∷ ns) rest
      by true t false m rest = let c = sym m ∙ only line t in cc
      by false t true m rest =
          ap (λ (b : Bool). cond b (line.number ∷ filter test_at (numbers (filter may lines))) (filter test_at (numbers (filter may lines)))) (looked ∙ t) ∙ rest
      by false t false m rest = rest

-- what is found first in a level's list is found first in the table
pub found_first : (lines : List Line) (level : Level) (query : Query) (rows : List ℕ) (o : Option ℕ) → lines ≡ profile → level.inner < ROWS
    → rows ≡ rows_of level.inner → o ≡ first_of (λ row. is_asked level query (line_at lines row)) rows
    → o ≡ position (is_asked level query) lines
found_first lines level query rows o e below r f =
    f
    ∙ ap (λ (ls : List Line). first_of (λ row. is_asked level query (line_at ls row)) rows) e
    ∙ ap (λ (ns : List ℕ). first_of (λ row. is_asked level query (line_at profile row)) ns) (r ∙ (listed_at level.inner below).rows)
    ∙ first_there (is_asked level query) (may_stand level.inner) (λ line h. stands_may level line (asked_stands level query line h)) 0 profile
    profile_numbered profile_found
    ∙ sym (position_from-zero (is_asked level query) profile)
    ∙ ap (λ (ls : List Line). position (is_asked level query) ls) (sym e)

-- the rows of a level are those of its list that stand there
pub rows_stand : (lines : List Line) (level : Level) (rows stood : List ℕ) → lines ≡ profile → level.inner < ROWS
    → rows ≡ rows_of level.inner → stood ≡ filter (λ row. stands level (line_at lines row)) rows → stood ≡ rows_in lines level
rows_stand lines level rows stood e below r f =
    f
    ∙ ap (λ (ls : List Line). filter (λ row. stands level (line_at ls row)) rows) e
    ∙ ap (λ (ns : List ℕ). filter (λ row. stands level (line_at profile row)) ns) (r ∙ (listed_at level.inner below).rows)
    ∙ all_there (stands level) (may_stand level.inner) (stands_may level) profile profile_found
    ∙ ap (λ (ls : List Line). rows_in ls level) (sym e)
