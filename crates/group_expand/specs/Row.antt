-- The statements of a configuration in a row, in order, each with how many of the row stand at it and below it. For the inner functions.
use Rattle.std.specs.Prelude.{◌≡◌, ℕ, ◌+◌, Bool, true, not, nat_lt, List, [], ◌∷◌, length, filter, map}
use Rattle.std.specs.List.{AllByRecursion}
use Rattle.std.specs.declared.cmp.Ordering.TheVariants.{Less}
use Rattle.cfg_base.specs.Order.{path_cmp, is_below}
use Rattle.cfg_base.specs.declared.path.Step.{Step}
use Rattle.cfg_base.specs.declared.value.Value.{Value}
use Rattle.cfg_entries.specs.EntryMap.{Pair}

-- a statement of the row, and how many stand at it and below it
pub record StatementView : Type 0 where
  pub path : List Step
  pub value : Value
  pub size : ℕ

-- a statement of the row is at a path or below it
abbrev pub is_under : List Step → StatementView → Bool
is_under path x = is_below path x.path

-- each has its size
abbrev pub Counted : List StatementView → Type 0
Counted [] = Unit {0}
Counted (x ∷ xs) = (x.size ≡ length (filter (is_under x.path) xs) + 1) × Counted xs

-- all stand after a path
abbrev pub AreBehind : List Step → List StatementView → Type 0
AreBehind path xs = AllByRecursion (λ x. path_cmp path x.path ≡ Less) xs

-- the paths ascend
abbrev pub Ordered : List StatementView → Type 0
Ordered [] = Unit {0}
Ordered (x ∷ xs) = AreBehind x.path xs × Ordered xs

-- what of a row after a path is below it is known by its depth, up to the first statement that isn't below
abbrev pub IsToldByDepth : List Step → List StatementView → Type 0
IsToldByDepth path [] = Unit {0}
IsToldByDepth path (x ∷ xs) =
    (is_below path x.path ≡ nat_lt (length path) (length x.path)) × (is_below path x.path ≡ true → IsToldByDepth path xs)

-- the same of each statement and those after it
abbrev pub AreToldByDepth : List StatementView → Type 0
AreToldByDepth [] = Unit {0}
AreToldByDepth (x ∷ xs) = IsToldByDepth x.path xs × AreToldByDepth xs

-- what stands below the first statement, and what stands beside it
abbrev pub below_of : List StatementView → List StatementView
below_of [] = []
below_of (x ∷ xs) = filter (is_under x.path) xs

abbrev pub beside_of : List StatementView → List StatementView
beside_of [] = []
beside_of (x ∷ xs) = filter (λ y. not (is_under x.path y)) xs

-- the size and the path of the first statement
abbrev pub size_in : List StatementView → ℕ
size_in [] = 0
size_in (x ∷ xs) = x.size

abbrev pub path_in : List StatementView → List Step
path_in [] = []
path_in (x ∷ xs) = x.path

-- the row without its sizes
abbrev pub pairs_of : List StatementView → List (Pair Value)
pairs_of xs = map (λ x. (x.path, x.value)) xs
