-- Outside the groups of a configuration no name is a wildcard.
use Rattle.std.proofs.Common.{◌≡◌, ℕ, ◌<◌, Bool, true, false, not, List, [], ◌∷◌, ◌++◌, length, get_or, refl, sym, ap, subst, ◌∙◌, arith, Some}
use Rattle.std.specs.Prelude.{IsSome, ◌&&◌, ◌||◌, ◌==◌}
use Rattle.std.specs.List.{list_all, AllByRecursion}
use Rattle.std.specs.FinMap as finite
use Rattle.std.proofs.lemmas.Bool.{eqb-true}
use Rattle.cfg_base.specs.declared.kind.Shape.{Shape}
use Rattle.cfg_base.specs.declared.kind.Shape.TheVariants.{Container, Fixed, Keyed, Bare, Leaf, Flag, Many}
use Rattle.cfg_base.specs.declared.path.Step.{Step}
use Rattle.cfg_schema.specs.declared.place.Place.{Place}
use Rattle.cfg_schema.specs.declared.table.Line.{Line}
use Rattle.cfg_schema.specs.declared.rows.TheConstants.{GROUPS, GROUP, ROWS}
use Rattle.cfg_schema.specs.Keyword.{spelled}
use Rattle.cfg_schema.specs.Profile.{profile, line_at, no_line, row_of, stands, level_in, level_of, is_fixed, StandsBelow, same_word}
use Rattle.cfg_schema.specs.Place.{has_words, top_place, place_after}
use Rattle.cfg_schema.proofs.TestLemmas.{same}
use Rattle.cfg_schema.proofs.LevelLemmas.{LedTo, led_to, all_at}
use Rattle.cfg_schema.proofs.RowFacts.{profile_length, number_at}
use Rattle.cfg_tree.specs.Statements.{Statements}
use Rattle.cfg_tree.specs.Typed.{FollowsFrom, IsNamed, IsName}
use Rattle.cfg_tree.specs.Tree.{IsTree}
use Rattle.cfg_tree.proofs.NameLemmas.{name_tame}
use Rattle.group_expand.specs.Sources.{groups_step, same_step, is_outside, is_wildcard}
use Rattle.group_expand.proofs.ClosedLemmas.{both}

-- a row other than `groups` and a group's name leads to no group, and `groups` stands at the top alone
abbrev keeps_out : Line → Line → Bool
keeps_out line other =
    (line.number == GROUPS || line.number == GROUP)
    || (not (stands (level_in profile line.number false) other) || (not (other.number == GROUP) && (not (other.number == 0) && (line.number == 0 || not (other.number == GROUPS)))))

abbrev all_out : Line → Bool
all_out line = list_all (keeps_out line) profile

profile_out : list_all all_out profile ≡ true
unfolding profile
profile_out = refl

-- the one name of a Fixed row is no wildcard
abbrev has_tame_name : Line → Bool
has_tame_name line = not (is_fixed line.shape) || not (is_wildcard (spelled line.name))

profile_tame : list_all has_tame_name profile ≡ true
unfolding profile
profile_tame = refl

-- the words of the row of groups are those of their step
groups_words : (step : Step) → has_words (line_at profile GROUPS).shape (spelled (line_at profile GROUPS).head) (spelled (line_at profile GROUPS).name) step ≡ true → same_step groups_step step ≡ true
unfolding profile
groups_words step h = let k = both _ _ h in ap (λ (b : Bool). b && same_word groups_step.name step.name) k.0 ∙ no_name step.name k.1
  where
    no_name : (name : List ℕ) → (length name == 0) ≡ true → same_word [] name ≡ true
    no_name [] e = refl
    no_name (b ∷ name) e = let k = eqb-true _ _ e in absurd (omega (arith, k))

empty_tame : (name : List ℕ) → (length name == 0) ≡ true → is_wildcard name ≡ false
empty_tame [] e = refl
empty_tame (b ∷ name) e = let k = eqb-true _ _ e in absurd (omega (arith, k))

tame_of : (name : List ℕ) → (get_or name 0 0 ≡ 60 → ⊥) → is_wildcard name ≡ false
tame_of [] h = refl
tame_of (b ∷ name) h = by_test (b == 60) refl
  where
    by_test : (c : Bool) → (b == 60) ≡ c → c ≡ false
    by_test true e = absurd (h (eqb-true b 60 e))
    by_test false e = refl

fixed_tame : (id : ℕ) → id < length profile → is_fixed (line_at profile id).shape ≡ true → is_wildcard (spelled (line_at profile id).name) ≡ false
fixed_tame id within fixed =
    back _ (ap (λ (b : Bool). not b || not (is_wildcard (spelled (line_at profile id).name))) (sym fixed) ∙ all_at has_tame_name profile id no_line profile_tame within)
  where
    back : (b : Bool) → not b ≡ true → b ≡ false
    back true e = cc
    back false e = refl

name_by : (here : Place) (id : ℕ) (step : Step) (shape : Shape) → here.in_group ≡ false → id < length profile → (is_fixed shape ≡ true → is_wildcard (spelled (line_at profile id).name) ≡ false)
    → IsNamed here id shape step.name → has_words shape (spelled (line_at profile id).head) (spelled (line_at profile id).name) step ≡ true → is_wildcard step.name ≡ false
name_by here id step Keyed out within fixed named words =
    tame_of step.name (name_tame id step.name within (subst (λ (g : Bool). IsName g (row_of id).name_kind step.name) out named))
name_by here id step Bare out within fixed named words =
    tame_of step.name (name_tame id step.name within (subst (λ (g : Bool). IsName g (row_of id).name_kind step.name) out named.0))
name_by here id step Fixed out within fixed named words =
    ap is_wildcard (sym (same (spelled (line_at profile id).name) step.name (both _ _ words).1)) ∙ fixed refl
name_by here id step Container out within fixed named words = empty_tame step.name (both _ _ words).1
name_by here id step Leaf out within fixed named words = empty_tame step.name (both _ _ words).1
name_by here id step Flag out within fixed named words = empty_tame step.name (both _ _ words).1
name_by here id step Many out within fixed named words = empty_tame step.name (both _ _ words).1

-- a place outside the groups
record IsOut (here : Place) (rest : List Step) : Type 0 where
  within : here.row < length profile
  out : here.in_group ≡ false
  apart : (here.row == GROUPS || here.row == GROUP) ≡ false
  starts : (here.row == 0) ≡ true → is_outside rest ≡ true

record GoesOn (here : Place) (next : ℕ) : Type 0 where
  no_group : (next == GROUP) ≡ false
  no_top : (next == 0) ≡ false
  groups_top : (here.row == 0 || not (next == GROUPS)) ≡ true

goes_on : (here : Place) (rest : List Step) (next : ℕ) → IsOut here rest → StandsBelow here.row here.in_group next → GoesOn here next
goes_on here rest next is stood =
    let table : keeps_out (line_at profile here.row) (line_at profile next) ≡ true
    = all_at (keeps_out (line_at profile here.row)) profile next no_line (all_at all_out profile here.row no_line profile_out is.within) stood.0
    in let by_numbers : ((here.row == GROUPS || here.row == GROUP)
    || (not (stands (level_in profile here.row false) (line_at profile next)) || (not (next == GROUP) && (not (next == 0) && (here.row == 0 || not (next == GROUPS)))))) ≡ true
    = sym (λ i. (number_at here.row is.within i == GROUPS || number_at here.row is.within i == GROUP)
    || (not (stands (level_in profile (number_at here.row is.within i) false) (line_at profile next))
    || (not (number_at next stood.0 i == GROUP) && (not (number_at next stood.0 i == 0) && (number_at here.row is.within i == 0 || not (number_at next stood.0 i == GROUPS)))))) ∙ table
    in let stands_out : stands (level_in profile here.row false) (line_at profile next) ≡ true
    = ap (λ (g : Bool). stands (level_of here.row g) (line_at profile next)) (sym is.out) ∙ stood.1
    in let k = told _ _ _ _ _ is.apart stands_out by_numbers in record { no_group = k.0; no_top = k.1; groups_top = k.2 }
  where
    told : (a b c d e : Bool) → a ≡ false → b ≡ true → (a || (not b || (not c && (not d && e)))) ≡ true → (c ≡ false) × (d ≡ false) × (e ≡ true)
    told true b c d e f g h = cc
    told false false c d e f g h = cc
    told false true true d e f g h = cc
    told false true false true e f g h = cc
    told false true false false e f g h = (refl, refl, h)

-- a step from a place outside the groups leads to one
next_out : (here next : Place) (step : Step) (rest : List Step) → IsOut here (step ∷ rest) → place_after here step ≡ Some next → IsOut next rest
next_out here next step rest is e = record {
  within = led.stood.0;
  out = ap (λ (p : Place). p.in_group) led.is_entered ∙ ap (λ (b : Bool). b || (next.row == GROUP)) is.out ∙ on.no_group;
  apart = ap (λ (b : Bool). b || (next.row == GROUP)) not_groups ∙ on.no_group;
  starts = λ k. absurd (clash (sym k ∙ on.no_top));
}
  where
    led : LedTo here step next
    led = led_to here next step e

    on : GoesOn here next.row
    on = goes_on here (step ∷ rest) next.row is (led_to here next step e).stood

    clash : true ≡ false → ⊥
    clash k = cc

    not_groups : (next.row == GROUPS) ≡ false
    not_groups = by_tests (here.row == 0) (next.row == GROUPS) refl refl (goes_on here (step ∷ rest) next.row is (led_to here next step e).stood).groups_top
      where
        by_tests : (a b : Bool) → (here.row == 0) ≡ a → (next.row == GROUPS) ≡ b → (a || not b) ≡ true → b ≡ false
        by_tests a false k l h = refl
        by_tests false true k l h = cc
        by_tests true true k l h =
            let groups : next.row ≡ GROUPS = eqb-true _ _ l
            in let words : same_step groups_step step ≡ true
            = groups_words step (subst (λ (n : ℕ). has_words (line_at profile n).shape (spelled (line_at profile n).head) (spelled (line_at profile n).name) step ≡ true) groups (led_to here next step e).words)
            in let outside : not (same_step groups_step step) ≡ true = is.starts k
            in let c = sym (ap not words) ∙ outside in cc

-- no step from there on is a wildcard
tame_from : (steps : List Step) (here : Place) → IsOut here steps → FollowsFrom steps here → AllByRecursion (λ s. is_wildcard s.name ≡ false) steps
tame_from [] here is f = tt
tame_from (step ∷ rest) here is f =
    let led = led_to here f.0 step f.1
    in (
      name_by here f.0.row step (row_of f.0.row).shape is.out led.stood.0 (fixed_tame f.0.row led.stood.0) f.2 led.words,
      tame_from rest f.0 (next_out here f.0 step rest is f.1) f.3,
    )

last_tame : (p : List Step) (s : Step) → AllByRecursion (λ t. is_wildcard t.name ≡ false) (p ++ s ∷ []) → is_wildcard s.name ≡ false
last_tame [] s h = h.0
last_tame (t ∷ p) s h = last_tame p s h.1

some_rows : 0 < ROWS
some_rows = omega arith

profile_some : 0 < length profile
profile_some = subst (λ (n : ℕ). 0 < n) (sym profile_length) some_rows

pub tree_tame : (m : Statements) → IsTree m → (p : List Step) (s : Step) → IsSome (finite.get m (p ++ s ∷ [])) → is_outside (p ++ s ∷ []) ≡ true → is_wildcard s.name ≡ false
tree_tame m tree p s there outside =
    last_tame p s (tame_from (p ++ s ∷ []) top_place (record { within = profile_some; out = refl; apart = refl; starts = λ _. outside }) (tree.typed.paths (p ++ s ∷ []) there))
