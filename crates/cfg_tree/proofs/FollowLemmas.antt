-- What a typed path says of its place, of its last step, and of the levels above it.
use Rattle.std.proofs.Common.{◌≡◌, ℕ, zero, suc, ◌<◌, Bool, true, false, not, ◌||◌, List, [], ◌∷◌, ◌++◌, length, take, refl, sym, ap, subst, ◌∙◌, Some, arith, if◌then◌else◌}
use Rattle.std.specs.List.{list_all}
use Rattle.cfg_base.specs.declared.path.TheConstants.{MAX_STEPS}
use Rattle.cfg_base.specs.declared.path.Step.{Step}
use Rattle.cfg_base.specs.declared.kind.Shape.{Shape}
use Rattle.cfg_base.specs.declared.kind.Shape.TheVariants.{Container, Fixed, Keyed, Bare, Leaf, Flag, Many}
use Rattle.cfg_schema.specs.declared.place.Place.{Place}
use Rattle.cfg_schema.specs.declared.table.Line.{Line}
use Rattle.cfg_schema.specs.declared.table.Reach.{Reach}
use Rattle.cfg_schema.specs.declared.table.Reach.TheVariants.{Top, Within, Outside, Everywhere}
use Rattle.cfg_schema.specs.declared.level.Level.{Level}
use Rattle.cfg_schema.specs.Keyword.{spelled}
use Rattle.cfg_schema.specs.Profile.{profile, line_at, no_line, row_of, is_bare, is_level, same_word, reaches, stands, level_in, level_of, StandsBelow}
use Rattle.cfg_schema.specs.Child.{IsNoHead}
use Rattle.cfg_schema.specs.Facts.{has_beginning}
use Rattle.cfg_schema.specs.Place.{top_place, place_after, and_then, place_from, place_of}
use Rattle.cfg_schema.proofs.TestLemmas.{both_true, bare, same_is}
use Rattle.cfg_schema.proofs.RowFacts.{number_at}
use Rattle.cfg_schema.proofs.LevelLemmas.{led_to, all_at, head_is, path_most}
use Rattle.cfg_tree.specs.Statements.{parent_of, last_of}
use Rattle.cfg_tree.specs.Typed.{IsNamed, FollowsFrom, IsTypedPath, AreCounted, IsLevelPath}
use Rattle.cfg_tree.proofs.PathLemmas.{split}

some_same : {A : Type 0} (x y : A) → Some x ≡ Some y → x ≡ y
some_same x y e = cc

abbrev is_top : Reach → Bool
is_top Top = true
is_top _ = false

-- a row has a head or is a bare name, or is the top
abbrev begins_or_top : Line → Bool
begins_or_top line = has_beginning line || is_top line.reach

profile_begins : list_all begins_or_top profile ≡ true
unfolding profile
profile_begins = refl

by_reach : (reach : Reach) (here : Bool) (level : Level) (b : Bool) → reaches reach here level ≡ true → (b || is_top reach) ≡ true → b ≡ true
by_reach reach here level true h k = refl
by_reach Top here level false h k = cc
by_reach Within here level false h k = cc
by_reach Outside here level false h k = cc
by_reach Everywhere here level false h k = cc

headed : (b c : Bool) → (if b then c else not c) ≡ true → c ≡ true → b ≡ true
headed true c h e = refl
headed false true h e = cc
headed false false h e = cc

-- a step without a head follows a bare row
pub headless_is_bare : (here next : Place) (step : Step) → place_after here step ≡ Some next → step.head ≡ [] → (row_of next.row).shape ≡ Bare
headless_is_bare here next step e headless =
    let led = led_to here next step e
    in let line = line_at profile next.row
    in let begun = by_reach line.reach _ (level_of here.row here.in_group) (has_beginning line) led.stood.1 (all_at begins_or_top profile next.row no_line profile_begins led.stood.0)
    in let head = head_is (level_of here.row here.in_group) step next.row led.stood.0 (both_true _ _ led.stood.1 led.words) ∙ headless
    in bare line.shape (headed (is_bare line.shape) (same_word (spelled line.head) []) begun (same_is _ _ head))

-- where a typed path leads
pub typed_place : (path : List Step) (start : Place) → FollowsFrom path start → (here : Place) × (place_from path start ≡ Some here)
typed_place [] start f = (start, refl)
typed_place (step ∷ rest) start f =
    let there = typed_place rest f.0 f.3
    in (there.0, ap (and_then (place_from rest)) f.1 ∙ there.1)

-- the first steps of a typed path
pub follows_front : (path : List Step) (n : ℕ) (start : Place) → FollowsFrom path start → FollowsFrom (take n path) start
follows_front [] zero start f = tt
follows_front [] (suc n) start f = tt
follows_front (step ∷ rest) zero start f = tt
follows_front (step ∷ rest) (suc n) start f = (f.0, f.1, f.2, follows_front rest n f.0 f.3)

pub typed_front : (path : List Step) (n : ℕ) → IsTypedPath path → IsTypedPath (take n path)
typed_front path n f = follows_front path n top_place f

-- the steps after a level follow rows from where the level leads
pub follows_behind : (level rest : List Step) (start here : Place) → FollowsFrom (level ++ rest) start → place_from level start ≡ Some here → FollowsFrom rest here
follows_behind [] rest start here f e = subst (λ (p : Place). FollowsFrom rest p) (some_same start here e) f
follows_behind (s ∷ level) rest start here f e =
    follows_behind level rest f.0 here f.3 (ap (and_then (place_from level)) (sym f.1) ∙ e)

-- where its last step leads
follows_end : (above : List Step) (step : Step) (start here : Place) → FollowsFrom (above ++ step ∷ []) start → place_from above start ≡ Some here
    → (next : Place) × (place_after here step ≡ Some next) × IsNamed here next.row (row_of next.row).shape step.name
follows_end [] step start here f e =
    subst (λ (h : Place). (next : Place) × (place_after h step ≡ Some next) × IsNamed h next.row (row_of next.row).shape step.name)
    (some_same start here e) (f.0, f.1, f.2)
follows_end (s ∷ above) step start here f e =
    follows_end above step f.0 here f.3 (ap (and_then (place_from above)) (sym f.1) ∙ e)

-- the last step of a typed path, and its name
pub typed_last : (path : List Step) → 0 < length path → IsTypedPath path → (here : Place) → place_of (parent_of path) ≡ Some here
    → (next : Place) × (place_after here (last_of path) ≡ Some next) × IsNamed here next.row (row_of next.row).shape (last_of path).name
typed_last path long typed here e =
    follows_end (parent_of path) (last_of path) top_place here (subst (λ (p : List Step). IsTypedPath p) (split path long) typed) e

-- a bare name of a typed path is no head of a row beside it
pub bare_name : (path : List Step) → 0 < length path → IsTypedPath path → (here : Place) → place_of (parent_of path) ≡ Some here
    → (last_of path).head ≡ [] → IsNoHead here.row here.in_group (last_of path).name
bare_name path long typed here e headless =
    let led = typed_last path long typed here e
    in (subst (λ (s : Shape). IsNamed here led.0.row s (last_of path).name) (headless_is_bare here led.0 (last_of path) led.1 headless) led.2).1

-- below a row that is no level no row stands
abbrev has_none : Bool → Line → Line → Bool
has_none in_group line other = is_level line.shape || not (stands (level_in profile line.number in_group) other)

abbrev opens_or_none : Bool → Line → Bool
opens_or_none in_group line = list_all (has_none in_group line) profile

profile_opens : list_all (opens_or_none false) profile ≡ true
unfolding profile
profile_opens = refl

profile_opens_in_group : list_all (opens_or_none true) profile ≡ true
unfolding profile
profile_opens_in_group = refl

opens_here : (in_group : Bool) (id : ℕ) → id < length profile → opens_or_none in_group (line_at profile id) ≡ true
opens_here true id below = all_at (opens_or_none true) profile id no_line profile_opens_in_group below
opens_here false id below = all_at (opens_or_none false) profile id no_line profile_opens below

one_of : (a b : Bool) → (a || not b) ≡ true → b ≡ true → a ≡ true
one_of true b h k = refl
one_of false true h k = cc
one_of false false h k = cc

-- a row below which another one stands is a level
pub below_is_level : (here : Place) (id : ℕ) → here.row < length profile → StandsBelow here.row here.in_group id → is_level (row_of here.row).shape ≡ true
below_is_level here id within stood =
    let line = line_at profile here.row
    in let none = all_at (has_none here.in_group line) profile id no_line (opens_here here.in_group here.row within) stood.0
    in one_of (is_level line.shape) _ none
    (subst (λ (n : ℕ). stands (level_in profile n here.in_group) (line_at profile id) ≡ true) (sym (number_at here.row within)) stood.1)

top_within : top_place.row < length profile
unfolding profile
top_within = omega arith

-- the row of a place to which a path leads is one of the profile
pub place_within : (path : List Step) (start here : Place) → start.row < length profile → FollowsFrom path start → place_from path start ≡ Some here
    → here.row < length profile
place_within [] start here within f e = subst (λ (p : Place). p.row < length profile) (some_same start here e) within
place_within (step ∷ rest) start here within f e =
    place_within rest f.0 here (led_to start f.0 step f.1).stood.0 f.3 (ap (and_then (place_from rest)) (sym f.1) ∙ e)

pub row_within : (path : List Step) (here : Place) → IsTypedPath path → place_of path ≡ Some here → here.row < length profile
row_within path here typed e = place_within path top_place here top_within typed e

-- what stands above a statement that a typed map may have is a level
pub parent_is_level : (path : List Step) → 0 < length path → IsTypedPath path → IsLevelPath (parent_of path)
parent_is_level path long typed = record {
  typed = typed_front path _ typed;
  opens = λ here e.
      let led = typed_last path long typed here e
      in below_is_level here led.0.row (row_within (parent_of path) here (typed_front path _ typed) e) (led_to here led.0 (last_of path) led.1).stood;
}

-- there is room for one step more below a path that follows rows
pub room_below : (path : List Step) (here : Place) → place_of path ≡ Some here → length path < MAX_STEPS
room_below path here e = let most = (path_most path here e).2 in omega (arith, most)

-- a level has no words
pub level_counted : (shape : Shape) → is_level shape ≡ true → AreCounted shape []
level_counted Container h = refl
level_counted Fixed h = refl
level_counted Keyed h = refl
level_counted Bare h = refl
level_counted Leaf h = cc
level_counted Flag h = refl
level_counted Many h = cc
