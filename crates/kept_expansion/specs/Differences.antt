-- How two configurations differ, whose statements are met side by side. For the inner functions.
use Rattle.std.specs.Prelude.{◌≡◌, false, List, [], ◌∷◌, Option, Some, None}
use Rattle.std.specs.FinMap.Entries.{find}
use Rattle.cfg_base.specs.Order.{path_cmp}
use Rattle.cfg_base.specs.declared.path.Step.{Step}
use Rattle.cfg_base.specs.declared.value.Value.{Value}
use Rattle.kept_expansion.specs.Changes.{is_reached}

-- what is left of a walk whose next statement was taken
abbrev pub left_of : Option (List Step × Value) → List (List Step × Value) → List (List Step × Value)
left_of None rest = []
left_of (Some first) rest = first ∷ rest

-- two lists of statements have the same at a path
abbrev pub AgreeAt : List (List Step × Value) → List (List Step × Value) → List Step → Type 0
AgreeAt old new path = find path_cmp path new ≡ find path_cmp path old

-- where what is left of two lists agrees, and which is neither at nor below some paths, these agree
abbrev pub AgreeWhere : List (List Step × Value) → List (List Step × Value) → List (List Step × Value) → List (List Step × Value)
    → List (List Step) → Type 0
AgreeWhere old new old' new' paths = (path : List Step) → is_reached paths path ≡ false → AgreeAt old' new' path → AgreeAt old new path

-- two lists agree but for one path and what is left of them; or in all
abbrev pub AreApartBy : List (List Step × Value) → List (List Step × Value) → List (List Step × Value) → List (List Step × Value)
    → Option (List Step) → Type 0
AreApartBy old new old' new' None = (path : List Step) → AgreeAt old new path
AreApartBy old new old' new' (Some path) = AgreeWhere old new old' new' (path ∷ [])

-- two lists begin with the same statement
pub record BeginAlike (old new : List (List Step × Value)) : Type 0 where
  pub first : List Step × Value
  pub rest : List (List Step × Value)
  pub other : List (List Step × Value)
  pub old_is : old ≡ first ∷ rest
  pub new_is : new ≡ first ∷ other
