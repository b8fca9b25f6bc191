-- The row that a path follows. The rules are this project's own.
use Rattle.std.specs.Prelude.{ℕ, Bool, false, ◌||◌, ◌&&◌, ◌==◌, List, [], ◌∷◌, length, Option, Some, None, position, IsTrue}
use Rattle.cfg_base.specs.declared.kind.Shape.{Shape}
use Rattle.cfg_base.specs.declared.kind.Shape.TheVariants.{Container, Fixed, Keyed, Bare, Leaf, Flag, Many}
use Rattle.cfg_base.specs.declared.path.Step.{Step}
use Rattle.cfg_schema.specs.declared.table.Line.{Line}
use Rattle.cfg_schema.specs.declared.level.Level.{Level}
use Rattle.cfg_schema.specs.declared.place.Place.{Place}
use Rattle.cfg_schema.specs.declared.rows.TheConstants.{GROUP}
use Rattle.cfg_schema.specs.Keyword.{spelled}
use Rattle.cfg_schema.specs.Profile.{profile, line_at, stands, level_of, same_word}

-- a step has the words of a row of this shape, head and Fixed name; any name does for a Keyed or Bare row
abbrev pub has_words : Shape → List ℕ → List ℕ → Step → Bool
has_words Bare head name step = length step.head == 0
has_words Keyed head name step = same_word head step.head
has_words Fixed head name step = same_word head step.head && same_word name step.name
has_words Container head name step = same_word head step.head && (length step.name == 0)
has_words Leaf head name step = same_word head step.head && (length step.name == 0)
has_words Flag head name step = same_word head step.head && (length step.name == 0)
has_words Many head name step = same_word head step.head && (length step.name == 0)

-- a step has the words of a row of the profile
abbrev pub HasWords : ℕ → Step → Type 0
HasWords id step =
    IsTrue (has_words (line_at profile id).shape (spelled (line_at profile id).head) (spelled (line_at profile id).name) step)

-- a row stands at a level and a step follows it
abbrev pub fits : Level → Step → Line → Bool
fits level step line = stands level line && has_words line.shape (spelled line.head) (spelled line.name) step

-- the top
abbrev pub top_place : Place
top_place = record { row = 0; in_group = false }

-- inside a group are the rows below a group's name
abbrev pub entered : Place → ℕ → Place
entered here id = record { row = id; in_group = here.in_group || (id == GROUP) }

abbrev pub entered_by : Place → Option ℕ → Option Place
entered_by here None = None
entered_by here (Some id) = Some (entered here id)

-- the row that a step follows below another row
abbrev pub place_after : Place → Step → Option Place
place_after here step = entered_by here (position (fits (level_of here.row here.in_group) step) profile)

abbrev pub and_then : (Place → Option Place) → Option Place → Option Place
and_then go None = None
and_then go (Some here) = go here

-- the row that the steps follow from a row on
abbrev pub place_from : List Step → Place → Option Place
place_from [] here = Some here
place_from (step ∷ rest) here = and_then (place_from rest) (place_after here step)

-- the row that a path follows, where it follows rows
abbrev pub place_of : List Step → Option Place
place_of path = place_from path top_place

-- the row below a place whose names keep the user's order, where there is one
abbrev pub ordered_row : Place → Option ℕ
ordered_row here =
    position (λ line. stands (level_of here.row here.in_group) line && line.ordered) profile
