-- The table of before: the rows of the first profile, which are the first ones of the table, and where paths lead by them alone.
-- This is this project's own.
use Rattle.std.specs.Prelude.{◌≡◌, ◌≢◌, ◌<◌, ◌&&◌, ℕ, Bool, List, [], ◌∷◌, length, Option, Some, None, position, take, drop, IsTrue}
use Rattle.std.specs.Option.{option_map}
use Rattle.cfg_base.specs.declared.kind.Shape.TheVariants.{Bare}
use Rattle.cfg_base.specs.declared.path.Step.{Step}
use Rattle.cfg_schema.specs.declared.level.Level.{Level}
use Rattle.cfg_schema.specs.declared.place.Place.{Place}
use Rattle.cfg_schema.specs.declared.rows.Row.{Row}
use Rattle.cfg_schema.specs.declared.table.Line.{Line}
use Rattle.cfg_schema.specs.Keyword.{spelled}
use Rattle.cfg_schema.specs.Profile.{profile, line_at, level_in, rows_in, stands, told}
use Rattle.cfg_schema.specs.Place.{fits, top_place, entered_by, and_then}
use Rattle.cfg_tree.specs.declared.first_profile.TheConstants.{FIRST_ROWS}

-- the rows of the first profile, and those that are new
unfoldable pub before : List Line
before = take FIRST_ROWS profile

unfoldable pub behind : List Line
behind = drop FIRST_ROWS profile

-- the level that a row opens by those of before, and the rows of that level
abbrev pub was_level : ℕ → Bool → Level
was_level row in_group = level_in before row in_group

abbrev pub was_rows : ℕ → Bool → List ℕ
was_rows row in_group = rows_in before (was_level row in_group)

-- what was said of a row
abbrev pub was_row : ℕ → Row
was_row id = told id (line_at before id)

-- the place that steps led to
abbrev pub was_place_after : Place → Step → Option Place
was_place_after here step = entered_by here (position (fits (was_level here.row here.in_group) step) before)

abbrev pub was_place_from : List Step → Place → Option Place
was_place_from [] here = Some here
was_place_from (step ∷ rest) here = and_then (was_place_from rest) (was_place_after here step)

abbrev pub was_place_of : List Step → Option Place
was_place_of path = was_place_from path top_place

-- a row stood at a level and had this word as its head; or no row there had
abbrev pub WasHead : ℕ → Bool → List ℕ → ℕ → Type 0
WasHead row in_group word id =
    (id < length before) × IsTrue (stands (was_level row in_group) (line_at before id)) × ((was_row id).shape ≢ Bare)
    × (spelled (line_at before id).head ≡ word)

abbrev pub WasNoHead : ℕ → Bool → List ℕ → Type 0
WasNoHead row in_group word = (id : ℕ) → ¬ (WasHead row in_group word id)

-- the head of the row whose names kept the user's order, where there was one
abbrev pub was_ordered_head_at : Place → Option (List ℕ)
was_ordered_head_at here =
    option_map (λ id. spelled (line_at before id).head)
    (position (λ line. stands (was_level here.row here.in_group) line && line.ordered) before)

abbrev pub was_ordered_head : Option Place → Option (List ℕ)
was_ordered_head None = None
was_ordered_head (Some here) = was_ordered_head_at here
