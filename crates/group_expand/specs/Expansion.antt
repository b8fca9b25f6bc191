-- The expansion of a configuration. Junos OS CLI User Guide, on configuration groups and on displaying what is inherited.
-- What the expansion has at a path, asked path by path, by a look-up of values and the steps of the statements right below a path.
use Rattle.std.specs.Prelude.{◌≡◌, ◌≢◌, ℕ, Bool, true, false, not, ◌&&◌, ◌||◌, if◌then◌else◌}
use Rattle.std.specs.Prelude.{List, [], ◌∷◌, ◌++◌, map, filter, Option, Some, None}
use Rattle.std.specs.FinMap as finite
use Rattle.std.specs.Option.{option_map}
use Rattle.cfg_base.specs.Words.{lists}
use Rattle.cfg_base.specs.declared.path.Step.{Step}
use Rattle.cfg_schema.specs.Profile.{same_word}
use Rattle.cfg_schema.specs.Place.{place_of}
use Rattle.cfg_tree.specs.Statements.{Statements, last_of}
use Rattle.cfg_tree.specs.declared.full.Given.{Given}
use Rattle.cfg_tree.specs.Full.{Expansion}
use Rattle.cfg_tree.specs.Tree.{ordered_head, step_of}
use Rattle.cfg_tree.specs.Children.{is_child, steps_below, order_in}
use Rattle.group_expand.specs.Live.{Look, is_live, words_of}
use Rattle.group_expand.specs.Sources.{groups_step, applied, apply_step, except_step, same_step, is_outside, Source, sources}

-- a statement that applies or excepts groups
abbrev pub is_apply : List Step → Bool
is_apply [] = false
is_apply path = same_step apply_step (last_of path) || same_step except_step (last_of path)

-- a statement of the expansion that the configuration has itself: live, outside `groups`, and no apply statement
abbrev pub is_own : Look → List Step → Bool
is_own look path = is_live look path && (is_outside path && not (is_apply path))

-- what a path has: its words, and the group that they come from, which is empty for the path's own
pub record Gift : Type 0 where
  pub words : List (List ℕ)
  pub group : List ℕ

-- what the statement at a path gives: its words, as of a group
abbrev pub gift_from : Look → List ℕ → List Step → Gift
gift_from look group from = record { words = words_of (look from); group = group }

-- the words and the group of the first source
abbrev pub first_gift : Look → List Source → Option Gift
first_gift look [] = None
first_gift look (x ∷ more) = Some (gift_from look x.group x.from)

module _ (look : Look) (kids : List Step → List Step) where
  -- what a path has: its own words, or those of its first source
  abbrev pub gift_at : List Step → Option Gift
  gift_at path = (if is_own look path then Some (gift_from look [] path) else first_gift look (sources look kids path))

-- the same of what an expansion has
abbrev pub gift_of : Given → Gift
gift_of given = record { words = given.words; group = given.group }

-- the names of the children of a path that have this head and that the configuration hasn't itself, by their bytes
abbrev pub inherited_names : Look → Expansion → List ℕ → List Step → List (List ℕ)
inherited_names look full head path =
    map (λ q. (last_of q).name)
    (filter (λ q. is_child path q && (same_word head (last_of q).head && not (is_own look q))) (finite.keys full))

-- the live names in their order, and then the inherited ones by their bytes
abbrev pub order_by : Look → Expansion → List Step → Option (List ℕ) → List (List ℕ)
order_by look full path None = []
order_by look full path (Some head) =
    filter (λ name. is_live look (path ++ step_of head name ∷ [])) (order_in (look path)) ++ inherited_names look full head path

-- the expansion of a configuration: at each path what the path has, and the order of its level
pub record IsExpansionOf (look : Look) (kids : List Step → List Step) (full : Expansion) : Type 0 where
  pub gifts : (path : List Step) → path ≢ [] → option_map gift_of (finite.get full path) ≡ gift_at look kids path
  pub top : finite.get full [] ≡ None
  pub orders : (path : List Step) (given : Given) → finite.get full path ≡ Some given
      → given.order ≡ order_by look full path (ordered_head (place_of path))

-- the same of a map
abbrev pub IsExpansion : Statements → Expansion → Type 0
IsExpansion m full = IsExpansionOf (finite.get m) (steps_below m) full

-- what the configuration has itself at a path
abbrev pub own_part : Look → List Step → Option Gift
own_part look path = (if is_own look path then Some (gift_from look [] path) else None)

-- the live names of a level, in their order
abbrev pub own_order : Look → List Step → Option (List ℕ) → List (List ℕ)
own_order look path None = []
own_order look path (Some head) = filter (λ name. is_live look (path ++ step_of head name ∷ [])) (order_in (look path))

-- the live part of a configuration: what it has itself, and at each level its live names
pub record IsLivePart (m : Statements) (full : Expansion) : Type 0 where
  pub gifts : (path : List Step) → path ≢ [] → option_map gift_of (finite.get full path) ≡ own_part (finite.get m) path
  pub orders : (path : List Step) (given : Given) → finite.get full path ≡ Some given
      → given.order ≡ own_order (finite.get m) path (ordered_head (place_of path))

-- the path of a group, and of what stands below it
abbrev pub in_group : List ℕ → List Step → List Step
in_group group path = groups_step ∷ step_of [] group ∷ path

-- two configurations differ only in what no live statement applies: outside `groups` they are the same, and so is each group that is
-- applied at a level
pub record DifferUnapplied (m n : Statements) : Type 0 where
  pub outside : (path : List Step) → is_outside path ≡ true → finite.get m path ≡ finite.get n path
  pub groups : finite.get m (groups_step ∷ []) ≡ finite.get n (groups_step ∷ [])
  pub given : (level : List Step) (group : List ℕ) → is_outside level ≡ true
      → lists (applied (finite.get m) (steps_below m) level) group ≡ true
      → (path : List Step) → finite.get m (in_group group path) ≡ finite.get n (in_group group path)

-- two configurations are the same in a part of the top: at and below the statements there that pass a test, among them `groups` and what
-- applies and excepts groups
pub record AreAlikeIn (in_part : Step → Bool) (m n : Statements) : Type 0 where
  pub statements : (step : Step) (path : List Step) → in_part step ≡ true → finite.get m (step ∷ path) ≡ finite.get n (step ∷ path)
  pub groups : in_part groups_step ≡ true
  pub applied : in_part apply_step ≡ true
  pub excepted : in_part except_step ≡ true
