-- How many different paths statements have, and which of them is past the limit of a tree.
use Rattle.std.specs.Prelude.{◌≡◌, ◌<◌, ◌+◌, ℕ, List, [], ◌∷◌, length, map, take, if◌then◌else◌}
use Rattle.std.specs.List.{list_any}
use Rattle.std.specs.Ordering.{eq_by_cmp}
use Rattle.cfg_base.specs.Order.{path_cmp}
use Rattle.cfg_base.specs.declared.path.Step.{Step}
use Rattle.cfg_base.specs.declared.value.Value.{Value}
use Rattle.cfg_entries.specs.EntryMap.{Pair}
use Rattle.cfg_tree.specs.declared.limit.TheConstants.{MAX_STATEMENTS}

-- the paths of statements
abbrev pub paths_of : List (Pair Value) → List (List Step)
paths_of items = map (λ item. item.0) items

-- how many different paths there are
abbrev pub different : List (List Step) → ℕ
different [] = 0
different (path ∷ paths) = (if list_any (eq_by_cmp path_cmp path) paths then 0 else 1) + different paths

-- the path at this place would be the statement past the limit: there are as many different ones before it as a tree has, and it is another
pub record IsPathPast (paths : List (List Step)) (at : ℕ) : Type 0 where
  pub within : at < length paths
  pub full : different (take at paths) ≡ MAX_STATEMENTS
  pub new : different (take (at + 1) paths) ≡ MAX_STATEMENTS + 1
