-- Below which statement all stands that a change of a path may change in the expansion. For the inner functions.
use Rattle.std.specs.Prelude.{◌≡◌, Bool, true, false, not, ◌||◌, List, [], ◌∷◌, ◌++◌, Option, Some, None, is_some, if◌then◌else◌}
use Rattle.cfg_base.specs.declared.path.Step.{Step}
use Rattle.cfg_schema.specs.declared.place.Place.{Place}
use Rattle.cfg_schema.specs.Place.{top_place, place_after, and_then, ordered_row, place_of}
use Rattle.cfg_tree.specs.Statements.{is_below}
use Rattle.cfg_tree.specs.Tree.{ordered_head}
use Rattle.group_expand.specs.Sources.{groups_step, same_step, apply_step, except_step}
use Rattle.group_expand.specs.Runs.{is_apply_step}

-- a row below a place keeps the user's order
abbrev pub has_ordered : Option Place → Bool
has_ordered None = false
has_ordered (Some here) = is_some (ordered_row here)

-- the place of a step below another place
abbrev pub place_below : Option Place → Step → Option Place
place_below above step = and_then (λ here. place_after here step) above

-- the first steps of a path: up to where an order is kept, and none that applies or excepts groups
abbrev pub root_from : Option Place → List Step → List Step
root_from here [] = []
root_from here (step ∷ rest) =
    (if is_apply_step step || has_ordered here then [] else step ∷ root_from (place_below here step) rest)

abbrev pub root_of : List Step → List Step
root_of path = root_from (Some top_place) path

-- a path that is neither the top nor at or below `groups`
abbrev pub is_local : List Step → Bool
is_local [] = false
is_local (step ∷ rest) = not (same_step groups_step step)

-- what changes at and below a path changes nothing of the expansion beside it
pub record IsRoot (root : List Step) : Type 0 where
  pub top : is_below root [] ≡ false
  pub outside : (rest : List Step) → is_below root (groups_step ∷ rest) ≡ false
  pub applied : (path : List Step) → is_below root (path ++ apply_step ∷ []) ≡ true → is_below root path ≡ true
  pub excepted : (path : List Step) → is_below root (path ++ except_step ∷ []) ≡ true → is_below root path ≡ true
  pub unordered : (path : List Step) → is_below path root ≡ true → is_below root path ≡ false → ordered_head (place_of path) ≡ None
