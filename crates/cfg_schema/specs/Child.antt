-- The row that a word begins. The rules are this project's own.
use Rattle.std.specs.Prelude.{◌≡◌, ◌≢◌, ◌≤◌, ◌⊎◌, ℕ, Bool, List, Option, Some, None, position, ◌&&◌}
use Rattle.cfg_base.specs.declared.kind.Shape.TheVariants.{Fixed, Bare}
use Rattle.cfg_schema.specs.declared.table.Line.{Line}
use Rattle.cfg_schema.specs.declared.level.Level.{Level}
use Rattle.cfg_schema.specs.declared.answer.Child.{Child}
use Rattle.cfg_schema.specs.declared.answer.Child.TheVariants.{Row, BadName, Unknown}
use Rattle.cfg_schema.specs.Profile.{profile, begins, goes_on, names, level_of, row_of, head_of, name_of, StandsBelow}

-- the first row that the words fit, or else the first that the first word alone fits, or else a name
abbrev pub first_of : Option ℕ → Option ℕ → Option ℕ → Child
first_of (Some id) head bare = Row id
first_of None (Some id) bare = BadName id
first_of None None (Some id) = Row id
first_of None None None = Unknown

-- the row that a word begins at a level, where `next` follows it
abbrev pub child_in : List Line → Level → List ℕ → List ℕ → Child
child_in lines level word next =
    first_of
    (position (λ line. begins level word line && goes_on next line) lines)
    (position (begins level word) lines)
    (position (names level) lines)

-- the same in the profile, below the row `parent`; in_group says that this is inside a group
abbrev pub child_of : ℕ → Bool → List ℕ → List ℕ → Child
child_of parent in_group word next = child_in profile (level_of parent in_group) word next

-- a row stands below the parent and has this word as its head
abbrev pub HasHead : ℕ → Bool → List ℕ → ℕ → Type 0
HasHead parent in_group word id =
    StandsBelow parent in_group id × ((row_of id).shape ≢ Bare) × (head_of id ≡ word)

-- no row below the parent has this word as its head
abbrev pub IsNoHead : ℕ → Bool → List ℕ → Type 0
IsNoHead parent in_group word = (id : ℕ) → ¬ (HasHead parent in_group word id)

-- what a word begins, in words: heads come before bare names, and a Fixed row needs its name
abbrev pub Begins : ℕ → Bool → List ℕ → List ℕ → Child → Type 0
Begins parent in_group word next (Row id) =
    (HasHead parent in_group word id × ((row_of id).shape ≡ Fixed → name_of id ≡ next))
    ⊎ (IsNoHead parent in_group word × StandsBelow parent in_group id × ((row_of id).shape ≡ Bare))
Begins parent in_group word next (BadName id) =
    HasHead parent in_group word id
    × ((other : ℕ) → HasHead parent in_group word other → (id ≤ other) × ((row_of other).shape ≡ Fixed) × (name_of other ≢ next))
Begins parent in_group word next Unknown =
    IsNoHead parent in_group word × ((id : ℕ) → StandsBelow parent in_group id → (row_of id).shape ≢ Bare)
