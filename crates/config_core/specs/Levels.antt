-- Moves through levels. Junos OS CLI User Guide, on edit, up, top and exit.
use Rattle.std.specs.Prelude.{ℕ, ◌-◌, Bool, List, [], ◌∷◌, length, take, All, Option, Some, None}
use Rattle.cfg_base.specs.declared.path.Step.{Step}
use Rattle.cfg_schema.specs.declared.place.Place.{Place}
use Rattle.cfg_schema.specs.Profile.{row_of, is_level}
use Rattle.cfg_schema.specs.Place.{place_of}
use Rattle.cfg_tree.specs.Typed.{IsLevelPath}

-- where a session stands: its level, and the levels that `exit` goes back to, the last one first
pub record Position : Type 0 where
  pub level : List Step
  pub remembered : List (List Step)

-- each of them is the top, or a level that a typed map may have
pub record AreLevels (position : Position) : Type 0 where
  pub here : IsLevelPath position.level
  pub before : All IsLevelPath position.remembered

abbrev pub at_top : Position
at_top = record { level = []; remembered = [] }

-- a path follows a row that is a level
abbrev pub is_level_place : Option Place → Bool
is_level_place None = Bool.false
is_level_place (Some here) = is_level (row_of here.row).shape

abbrev pub is_level_at : List Step → Bool
is_level_at path = is_level_place (place_of path)

-- `edit` goes to a level and remembers the one that it leaves
abbrev pub moved_to : Position → List Step → Position
moved_to from path = record { level = path; remembered = from.level ∷ from.remembered }

-- `up` takes so many steps away, and stays at the top; what was remembered is forgotten
abbrev pub moved_up : Position → ℕ → Position
moved_up from count = record { level = take (length from.level - count) from.level; remembered = [] }

-- without a remembered level `exit` goes to the top, and from the top nowhere
abbrev pub to_top : List Step → Option Position
to_top [] = None
to_top (step ∷ level) = Some at_top

-- `exit` goes back to the level that was remembered last
abbrev pub to_last : List Step → List (List Step) → Option Position
to_last level [] = to_top level
to_last level (last ∷ more) = Some (record { level = last; remembered = more })

abbrev pub moved_back : Position → Option Position
moved_back from = to_last from.level from.remembered
