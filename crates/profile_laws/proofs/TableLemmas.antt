-- The rows of the first profile are the first of the table, and open the same levels.
use Rattle.std.proofs.Common.{◌≡◌, ℕ, zero, suc, ◌<◌, ◌==◌, nat_lt, Bool, true, false, not, cond, ◌&&◌, ◌||◌, List, [], ◌∷◌, ◌++◌, length, map, filter, Option, Some, None, refl, sym, ap, subst, ◌∙◌, arith, position, take-append-drop, eqb-true}
use Rattle.std.specs.List.{list_all, list_any, AllByRecursion}
use Rattle.std.specs.Option.{option_map}
use Rattle.std.proofs.lemmas.List.{map-append}
use Rattle.std.proofs.lemmas.List.Elements.{filter-append}
use Rattle.std.proofs.lemmas.List.Quantifiers.{position-Some}
use Rattle.std.proofs.lemmas.Bool.Decides.{nat_tests}
use Rattle.cfg_base.specs.declared.kind.Shape.TheVariants.{Bare}
use Rattle.cfg_base.specs.declared.path.Step.{Step}
use Rattle.cfg_schema.specs.declared.level.Level.{Level}
use Rattle.cfg_schema.specs.declared.place.Place.{Place}
use Rattle.cfg_schema.specs.declared.rows.Row.{Row}
use Rattle.cfg_schema.specs.declared.table.Line.{Line}
use Rattle.cfg_schema.specs.Child.{IsNoHead}
use Rattle.cfg_schema.specs.Keyword.{spelled}
use Rattle.cfg_schema.specs.Profile.{profile, line_at, no_line, has_rows, head_of, is_bare, is_grouped, is_step_of, level_at, level_of, row_of, rows_below, rows_in, stands, told as said, StandsBelow}
use Rattle.cfg_schema.specs.Place.{fits, entered, entered_by, place_after}
use Rattle.cfg_schema.proofs.TestLemmas.{bare_is, both, both_true, position-None}
use Rattle.cfg_schema.proofs.RowFacts.{number_at, profile_length}
use Rattle.cfg_schema.proofs.LevelLemmas.{all_at, leads, led_to}
use Rattle.cfg_schema.proofs.WordsLemmas.{told, told_apart, words_differ}
use Rattle.cfg_tree.specs.declared.first_profile.TheConstants.{FIRST_ROWS}
use Rattle.cfg_tree.specs.Tree.{ordered_head_at}
use Rattle.profile_laws.specs.Before.{before, behind, was_level, was_ordered_head_at, was_place_after, was_row, was_rows, WasNoHead}

before_length : length before ≡ FIRST_ROWS
unfolding before profile
before_length = refl

all_of_it : before ++ behind ≡ profile
unfolding before behind
all_of_it = take-append-drop FIRST_ROWS profile

pub in_table : (id : ℕ) → id < FIRST_ROWS → id < length profile
in_table id h = subst (λ (n : ℕ). id < n) (sym profile_length) (omega (arith, h))

-- a row of the first profile is the same in both
pub same_line : (id : ℕ) → id < FIRST_ROWS → line_at before id ≡ line_at profile id
same_line id h = front before behind id (subst (λ (n : ℕ). id < n) (sym before_length) h) ∙ ap (λ (ls : List Line). line_at ls id) all_of_it
  where
    front : (xs ys : List Line) (k : ℕ) → k < length xs → line_at xs k ≡ line_at (xs ++ ys) k
    front [] ys k w = absurd (omega (arith, w))
    front (x ∷ xs) ys zero w = refl
    front (x ∷ xs) ys (suc k) w = front xs ys k (omega (arith, w))

pub same_row : (id : ℕ) → id < FIRST_ROWS → was_row id ≡ row_of id
same_row id h = ap (λ (line : Line). said id line) (same_line id h)

same_bool : Bool → Bool → Bool
same_bool true b = b
same_bool false b = not b

bool_is : (a b : Bool) → same_bool a b ≡ true → a ≡ b
unfolding same_bool
bool_is true true h = refl
bool_is true false h = cc
bool_is false true h = cc
bool_is false false h = refl

-- the levels that they open have other rows in the one where they have in the other
abbrev opens_alike : Line → Bool
opens_alike line = same_bool (has_rows before line.inner) (has_rows profile line.inner)

levels_alike : list_all opens_alike before ≡ true
unfolding before profile same_bool
levels_alike = refl

pub same_level : (id : ℕ) (in_group : Bool) → id < FIRST_ROWS → was_level id in_group ≡ level_of id in_group
same_level id in_group h =
    let within : id < length before = subst (λ (n : ℕ). id < n) (sym before_length) h
    in let rows = bool_is _ _ (all_at opens_alike before id no_line levels_alike within)
    in ap (λ (b : Bool). record { inner = (line_at before id).inner; grouped = is_grouped id in_group; applies = not (is_grouped id in_group) && b }) rows
    ∙ ap (λ (line : Line). level_at profile line.inner (is_grouped id in_group)) (same_line id h)

some_same : {A : Type 0} (x y : A) → Some x ≡ Some y → x ≡ y
some_same x y k = cc

-- a step that leads on by the rows of the first profile does by all
pub lead_on : (here next : Place) (step : Step) → here.row < FIRST_ROWS → was_place_after here step ≡ Some next
    → (place_after here step ≡ Some next) × (next.row < FIRST_ROWS)
lead_on here next step h e = by_found (position (fits (was_level here.row here.in_group) step) before) refl e
  where
    by_found : (o : Option ℕ) → position (fits (was_level here.row here.in_group) step) before ≡ o → entered_by here o ≡ Some next
        → (place_after here step ≡ Some next) × (next.row < FIRST_ROWS)
    by_found None f g = cc
    by_found (Some id) f g =
        let at = position-Some (fits (was_level here.row here.in_group) step) before id no_line f
        in let inside : id < FIRST_ROWS = subst (λ (n : ℕ). id < n) before_length at.0
        in let whole : fits (level_of here.row here.in_group) step (line_at profile id) ≡ true
        = sym (ap (λ (l : Level). fits l step (line_at before id)) (same_level here.row here.in_group h) ∙ ap (fits (level_of here.row here.in_group) step) (same_line id inside)) ∙ at.1
        in let parts = both (stands (level_of here.row here.in_group) (line_at profile id)) _ whole
        in (leads here id step (in_table id inside, parts.0) parts.1 ∙ g, subst (λ (p : Place). p.row < FIRST_ROWS) (some_same _ _ g) inside)

-- and the other way round, where it leads to a row of the first
pub lead_back : (here next : Place) (step : Step) → here.row < FIRST_ROWS → place_after here step ≡ Some next → next.row < FIRST_ROWS
    → was_place_after here step ≡ Some next
lead_back here next step h e small = by_found (position (fits (was_level here.row here.in_group) step) before) refl
  where
    by_found : (o : Option ℕ) → position (fits (was_level here.row here.in_group) step) before ≡ o → entered_by here o ≡ Some next
    by_found (Some id) f =
        let on = lead_on here (entered here id) step h (ap (entered_by here) f) in sym on.0 ∙ e
    by_found None f =
        let led = led_to here next step e
        in let within : next.row < length before = subst (λ (n : ℕ). next.row < n) (sym before_length) small
        in let none = position-None (fits (was_level here.row here.in_group) step) before next.row no_line f within
        in let one = ap (λ (l : Level). fits l step (line_at before next.row)) (same_level here.row here.in_group h) ∙ ap (fits (level_of here.row here.in_group) step) (same_line next.row small)
        in let whole : fits (level_of here.row here.in_group) step (line_at profile next.row) ≡ true = both_true _ _ led.stood.1 led.words
        in let never : false ≡ true = sym none ∙ one ∙ whole in cc

-- the rows below a row of the first profile: those of before, and then new ones
pub new_rows : ℕ → Bool → List ℕ
new_rows row in_group = rows_in behind (level_of row in_group)

pub listed_first : (row : ℕ) (in_group : Bool) → row < FIRST_ROWS → rows_below row in_group ≡ was_rows row in_group ++ new_rows row in_group
unfolding new_rows
listed_first row in_group h =
    ap (λ (ls : List Line). rows_in ls (level_of row in_group)) (sym all_of_it)
    ∙ ap (λ (ls : List Line). map (λ (line : Line). line.number) ls) (filter-append (stands (level_of row in_group)) before behind)
    ∙ map-append (λ (line : Line). line.number) (filter (stands (level_of row in_group)) before) (filter (stands (level_of row in_group)) behind)
    ∙ ap (λ (l : Level). rows_in before l ++ rows_in behind (level_of row in_group)) (sym (same_level row in_group h))

-- what the tests of each level say: its row of before that is ordered is so still; where it has a new row it has no bare name; and a new row
-- keeps no order, and has other words than those of before
same_place : Option ℕ → Option ℕ → Bool
same_place None None = true
same_place None (Some j) = false
same_place (Some i) None = false
same_place (Some i) (Some j) = i == j

place_is : (a b : Option ℕ) → same_place a b ≡ true → a ≡ b
unfolding same_place
place_is None None h = refl
place_is None (Some j) h = cc
place_is (Some i) None h = cc
place_is (Some i) (Some j) h = ap Some (eqb-true i j h)

abbrev ordered_in : List Line → Level → Option ℕ
ordered_in lines level = position (λ (line : Line). stands level line && line.ordered) lines

abbrev is_new_line : Level → Line → Bool
is_new_line level line = stands level line && nat_lt 92 line.number

abbrev is_bare_line : Level → Line → Bool
is_bare_line level line = stands level line && is_bare line.shape

abbrev is_apart : ℕ → List ℕ → Bool
is_apart new olds = not (row_of new).ordered && list_all (λ (old : ℕ). words_differ old new) olds

abbrev level_kept : Bool → Line → Bool
level_kept b line =
    same_place (ordered_in profile (level_of line.number b)) (ordered_in before (level_of line.number b))
    && ((not (list_any (is_new_line (level_of line.number b)) profile) || not (list_any (is_bare_line (level_of line.number b)) profile))
    && list_all (λ (new : ℕ). is_apart new (rows_in before (level_of line.number b))) (rows_in behind (level_of line.number b)))

levels_kept : list_all (level_kept false) before ≡ true
unfolding before behind profile same_place
levels_kept = refl

levels_kept_in_group : list_all (level_kept true) before ≡ true
unfolding before behind profile same_place
levels_kept_in_group = refl

record Kept (row : ℕ) (b : Bool) : Type 0 where
  ordered : ordered_in profile (level_of row b) ≡ ordered_in before (level_of row b)
  bare : (not (list_any (is_new_line (level_of row b)) profile) || not (list_any (is_bare_line (level_of row b)) profile)) ≡ true
  apart : list_all (λ (new : ℕ). is_apart new (rows_in before (level_of row b))) (rows_in behind (level_of row b)) ≡ true

kept_at : (row : ℕ) (b : Bool) → row < FIRST_ROWS → Kept row b
kept_at row b h = subst (λ (n : ℕ). Kept n b) number (parts (level_kept b (line_at before row)) refl (tested b))
  where
    within : row < length before
    within = subst (λ (n : ℕ). row < n) (sym before_length) h

    number : (line_at before row).number ≡ row
    number = ap (λ (l : Line). l.number) (same_line row h) ∙ number_at row (in_table row h)

    tested : (b : Bool) → level_kept b (line_at before row) ≡ true
    tested true = all_at (level_kept true) before row no_line levels_kept_in_group within
    tested false = all_at (level_kept false) before row no_line levels_kept within

    parts : (t : Bool) → level_kept b (line_at before row) ≡ t → t ≡ true → Kept (line_at before row).number b
    parts t is passed =
        let one = both (same_place (ordered_in profile (level_of (line_at before row).number b)) (ordered_in before (level_of (line_at before row).number b))) _ (is ∙ passed)
        in let two = both (not (list_any (is_new_line (level_of (line_at before row).number b)) profile) || not (list_any (is_bare_line (level_of (line_at before row).number b)) profile)) _ one.1
        in record { ordered = place_is _ _ one.0; bare = two.0; apart = two.1 }

-- the row whose names keep the user's order
pub same_order : (here : Place) → here.row < FIRST_ROWS → ordered_head_at here ≡ was_ordered_head_at here
same_order here h =
    ap (option_map head_of) (kept.ordered ∙ ap (ordered_in before) (sym (same_level here.row here.in_group h))) ∙ by_found _ refl
  where
    kept : Kept here.row here.in_group
    kept = kept_at here.row here.in_group h

    by_found : (o : Option ℕ) → ordered_in before (was_level here.row here.in_group) ≡ o → option_map head_of o ≡ option_map (λ (id : ℕ). spelled (line_at before id).head) o
    by_found None f = refl
    by_found (Some id) f =
        let at = position-Some (λ (line : Line). stands (was_level here.row here.in_group) line && line.ordered) before id no_line f
        in ap (λ (line : Line). Some (spelled line.head)) (sym (same_line id (subst (λ (n : ℕ). id < n) before_length at.0)))

-- a bare name that was no head is none
any_at : (p : Line → Bool) (lines : List Line) (k : ℕ) → k < length lines → p (line_at lines k) ≡ true → list_any p lines ≡ true
any_at p [] k h e = absurd (omega (arith, h))
any_at p (line ∷ lines) zero h e = ap (λ (b : Bool). b || list_any p lines) e
any_at p (line ∷ lines) (suc k) h e = or_second (p line) _ (any_at p lines k (omega (arith, h)) e)
  where
    or_second : (a b : Bool) → b ≡ true → (a || b) ≡ true
    or_second true b g = refl
    or_second false b g = g

pub no_new_head : (here : Place) (id : ℕ) (name : List ℕ) → here.row < FIRST_ROWS → StandsBelow here.row here.in_group id → (row_of id).shape ≡ Bare
    → WasNoHead here.row here.in_group name → IsNoHead here.row here.in_group name
no_new_head here id name h stood shape none other has = by_number (nat_lt 92 other) refl
  where
    kept : Kept here.row here.in_group
    kept = kept_at here.row here.in_group h

    some_bare : list_any (is_bare_line (level_of here.row here.in_group)) profile ≡ true
    some_bare = any_at (is_bare_line (level_of here.row here.in_group)) profile id stood.0 (both_true _ _ stood.1 (bare_is _ shape))

    not_both : (a b : Bool) → (not a || not b) ≡ true → a ≡ true → b ≡ true → ⊥
    not_both true true e f g = cc
    not_both true false e f g = cc
    not_both false b e f g = cc

    small : nat_lt 92 other ≡ false → other < FIRST_ROWS
    small e = grind (arith, nat_tests)

    by_number : (b : Bool) → nat_lt 92 other ≡ b → ⊥
    by_number true e =
        not_both _ _ kept.bare
        (any_at (is_new_line (level_of here.row here.in_group)) profile other has.0.0 (both_true _ _ has.0.1 (ap (nat_lt 92) (number_at other has.0.0) ∙ e)))
        some_bare
    by_number false e =
        let line = same_line other (small e)
        in none other (
          subst (λ (n : ℕ). other < n) (sym before_length) (small e),
          ap (λ (l : Level). stands l (line_at before other)) (same_level here.row here.in_group h) ∙ ap (stands (level_of here.row here.in_group)) line ∙ has.0.1,
          λ bare. has.1 (ap (λ (r : Row). r.shape) (sym (same_row other (small e))) ∙ bare),
          ap (λ (l : Line). spelled l.head) line ∙ has.2,
        )

-- and the other way round
pub no_head_before : (here : Place) (name : List ℕ) → here.row < FIRST_ROWS → IsNoHead here.row here.in_group name → WasNoHead here.row here.in_group name
no_head_before here name h none other has =
    let small : other < FIRST_ROWS = subst (λ (n : ℕ). other < n) before_length has.0
    in let line = same_line other small
    in none other (
      (in_table other small, sym (ap (λ (l : Level). stands l (line_at before other)) (same_level here.row here.in_group h) ∙ ap (stands (level_of here.row here.in_group)) line) ∙ has.1),
      (λ bare. has.2 (ap (λ (r : Row). r.shape) (same_row other small) ∙ bare)),
      sym (ap (λ (l : Line). spelled l.head) line) ∙ has.3,
    )

-- no step that leads to a row of the first profile is one of a new row
all_in : (f : ℕ → Bool) (p : Line → Bool) (lines : List Line) (k : ℕ) → list_all f (map (λ (line : Line). line.number) (filter p lines)) ≡ true → k < length lines → p (line_at lines k) ≡ true
    → f (line_at lines k).number ≡ true
all_in f p [] k h w e = absurd (omega (arith, w))
all_in f p (line ∷ lines) k h w e = by_test (p line) refl h k w e (λ j more v g. all_in f p lines j more v g)
  where
    by_test : (b : Bool) → p line ≡ b → list_all f (map (λ (l : Line). l.number) (cond b (line ∷ filter p lines) (filter p lines))) ≡ true → (k : ℕ) → k < length (line ∷ lines)
        → p (line_at (line ∷ lines) k) ≡ true
        → ((j : ℕ) → list_all f (map (λ (l : Line). l.number) (filter p lines)) ≡ true → j < length lines → p (line_at lines j) ≡ true → f (line_at lines j).number ≡ true)
        → f (line_at (line ∷ lines) k).number ≡ true
    by_test true is each zero v g go = (both (f line.number) _ each).0
    by_test true is each (suc j) v g go = go j (both (f line.number) _ each).1 (omega (arith, v)) g
    by_test false is each zero v g go = absurd (let d = sym is ∙ g in let c : false ≡ true = d in cc)
    by_test false is each (suc j) v g go = go j each (omega (arith, v)) g

-- a new row below a row of the first profile
pub record IsNewRow (here : Place) (new : ℕ) : Type 0 where
  pub unordered : (row_of new).ordered ≡ false
  pub apart : (next : Place) (step : Step) → place_after here step ≡ Some next → next.row < FIRST_ROWS → is_step_of new step ≡ false

pub new_rows_are : (here : Place) → here.row < FIRST_ROWS → AllByRecursion (IsNewRow here) (new_rows here.row here.in_group)
unfolding new_rows
new_rows_are here h = each (rows_in behind (level_of here.row here.in_group)) (kept_at here.row here.in_group h).apart
  where
    olds : List ℕ
    olds = rows_in before (level_of here.row here.in_group)

    is_false : (a : Bool) → not a ≡ true → a ≡ false
    is_false true e = cc
    is_false false e = refl

    one : (new : ℕ) → is_apart new (rows_in before (level_of here.row here.in_group)) ≡ true → IsNewRow here new
    one new e =
        let parts = both (not (row_of new).ordered) _ e
        in record {
          unordered = is_false _ parts.0;
          apart = λ next step leads_there small.
              let led = led_to here next step leads_there
              in let within : next.row < length before = subst (λ (n : ℕ). next.row < n) (sym before_length) small
              in let line = same_line next.row small
              in let stood = ap (stands (level_of here.row here.in_group)) line ∙ led.stood.1
              in let differ = all_in (λ (old : ℕ). words_differ old new) (stands (level_of here.row here.in_group)) before next.row parts.1 within stood
              in let number : (line_at before next.row).number ≡ next.row = ap (λ (l : Line). l.number) line ∙ number_at next.row led.stood.0
              in other (is_step_of new step) refl
              (told_apart next.row new step (subst (λ (n : ℕ). words_differ n new ≡ true) number differ) (told next.row step led.stood.0 led.words));
        }
      where
        other : (b : Bool) → b ≡ b → (b ≡ true → ⊥) → b ≡ false
        other true e never = absurd (never refl)
        other false e never = refl

    each : (news : List ℕ) → list_all (λ (new : ℕ). is_apart new (rows_in before (level_of here.row here.in_group))) news ≡ true → AllByRecursion (IsNewRow here) news
    each [] e = tt
    each (new ∷ news) e = let parts = both (is_apart new (rows_in before (level_of here.row here.in_group))) _ e in (one new parts.0, each news parts.1)
