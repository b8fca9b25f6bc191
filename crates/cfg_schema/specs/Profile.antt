-- The rows of the profile and the levels that they open. The selection of statements, the order in
-- which they are printed and these rules are this project's own.
use Rattle.std.specs.Prelude.{ℕ, ◌<◌, ◌==◌, Bool, true, false, not, ◌&&◌, ◌||◌, List, length, map, filter, IsTrue, slice_index_or}
use Rattle.std.specs.List.{list_any}
pub use Rattle.cfg_base.specs.Words.{same_word}
use Rattle.cfg_base.specs.declared.path.Step.{Step}
use Rattle.cfg_base.specs.declared.kind.Shape.{Shape}
use Rattle.cfg_base.specs.declared.kind.Shape.TheVariants.{Container, Fixed, Keyed, Bare}
use Rattle.cfg_base.specs.declared.kind.Kind.TheVariants.{Name}
use Rattle.cfg_schema.specs.declared.keyword.Keyword.TheVariants.{Nothing}
use Rattle.cfg_schema.specs.declared.table.Line.{Line}
use Rattle.cfg_schema.specs.declared.table.Reach.{Reach}
use Rattle.cfg_schema.specs.declared.table.Reach.TheVariants.{Top, Within, Outside, Everywhere}
use Rattle.cfg_schema.specs.declared.table.TheConstants.{PROFILE_2}
use Rattle.cfg_schema.specs.declared.rows.Row.{Row}
use Rattle.cfg_schema.specs.declared.rows.TheConstants.{GROUPS, GROUP}
use Rattle.cfg_schema.specs.declared.level.Level.{Level}
use Rattle.cfg_schema.specs.Keyword.{spelled}

-- the rows in use
unfoldable pub profile : List Line
profile = PROFILE_2

-- what stands past the end of the rows: no number of a row leads there
abbrev pub no_line : Line
no_line =
    record { number = 0; under = 0; reach = Top; inner = 0; head = Nothing; name = Nothing; shape = Container; name_kind = Name; value_kind = Name; ordered = false }

-- the row of a number
abbrev pub line_at : List Line → ℕ → Line
line_at lines id = slice_index_or lines id no_line

abbrev pub is_bare : Shape → Bool
is_bare Bare = true
is_bare _ = false

abbrev pub is_fixed : Shape → Bool
is_fixed Fixed = true
is_fixed _ = false

-- a statement of this shape has a name of the user's own
abbrev pub is_named : Shape → Bool
is_named Keyed = true
is_named Bare = true
is_named _ = false

-- a statement of this shape is a level
abbrev pub is_level : Shape → Bool
is_level Container = true
is_level Fixed = true
is_level Keyed = true
is_level Bare = true
is_level _ = false

-- a row that has a level of its own stands at this one
abbrev pub is_own : Reach → Bool → Bool
is_own Top here = false
is_own Within here = here
is_own Outside here = here
is_own Everywhere here = false

-- a level has other rows than the apply statements
abbrev pub has_rows : List Line → ℕ → Bool
has_rows lines inner = list_any (λ line. is_own line.reach (line.under == inner)) lines

-- the level `groups` and all below it
abbrev pub is_grouped : ℕ → Bool → Bool
is_grouped parent in_group = in_group || (parent == GROUPS || parent == GROUP)

-- a level: the row below which its rows are listed, whether it is `groups` or below it, and whether
-- apply statements stand there
abbrev pub level_at : List Line → ℕ → Bool → Level
level_at lines inner grouped =
    record { inner = inner; grouped = grouped; applies = not grouped && has_rows lines inner }

-- the level that a row opens
abbrev pub level_in : List Line → ℕ → Bool → Level
level_in lines parent in_group = level_at lines (line_at lines parent).inner (is_grouped parent in_group)

-- a row of this reach stands at a level; `here` says that it is listed below the level's row
abbrev pub reaches : Reach → Bool → Level → Bool
reaches Top here level = false
reaches Within here level = here
reaches Outside here level = here && not level.grouped
reaches Everywhere here level = level.applies

-- a row stands at a level
abbrev pub stands : Level → Line → Bool
stands level line = reaches line.reach (line.under == level.inner) level

-- a row stands at a level and begins with this word
abbrev pub begins : Level → List ℕ → Line → Bool
begins level word line = stands level line && (not (is_bare line.shape) && same_word (spelled line.head) word)

-- this word can follow the row's first word
abbrev pub goes_on : List ℕ → Line → Bool
goes_on next line = not (is_fixed line.shape) || same_word (spelled line.name) next

-- a row stands at a level and is a bare name
abbrev pub names : Level → Line → Bool
names level line = stands level line && is_bare line.shape

-- what is said of a row
abbrev pub told : ℕ → Line → Row
told id line =
    record { id = id; shape = line.shape; name_kind = line.name_kind; value_kind = line.value_kind; ordered = line.ordered }

-- what is said of a row of the profile; 0 is the top
abbrev pub row_of : ℕ → Row
row_of id = told id (line_at profile id)

-- the first word of a row, and the one name of a Fixed row
abbrev pub head_of : ℕ → List ℕ
head_of id = spelled (line_at profile id).head

abbrev pub name_of : ℕ → List ℕ
name_of id = spelled (line_at profile id).name

-- a step has these words of a row: its head, and its one name where it has one; without one any name does
abbrev pub has_row_words : List ℕ → List ℕ → Step → Bool
has_row_words head name step = same_word head step.head && (length name == 0 || same_word name step.name)

-- a step is one of a row, known by the row's words
abbrev pub is_step_of : ℕ → Step → Bool
is_step_of id step = has_row_words (head_of id) (name_of id) step

-- the level that a row opens
abbrev pub level_of : ℕ → Bool → Level
level_of parent in_group = level_in profile parent in_group

-- a row of the profile stands below another one; in_group says that this one is inside a group
abbrev pub StandsBelow : ℕ → Bool → ℕ → Type 0
StandsBelow parent in_group id = (id < length profile) × IsTrue (stands (level_of parent in_group) (line_at profile id))

-- the numbers of the rows of a level, in the order in which they are printed
abbrev pub rows_in : List Line → Level → List ℕ
rows_in lines level = map (λ line. line.number) (filter (stands level) lines)

-- the rows below another one, in the order in which they are printed
abbrev pub rows_below : ℕ → Bool → List ℕ
rows_below parent in_group = rows_in profile (level_of parent in_group)
