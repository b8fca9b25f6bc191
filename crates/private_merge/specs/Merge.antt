-- Three configurations put together, path by path: the base that a private candidate began with, the active one, and the
-- candidate's own. Junos OS CLI User Guide, on configure private and on update; that it is stated by paths, and what
-- conflicts, is this project's own.
use Rattle.std.specs.Prelude.{◌≡◌, ◌≢◌, ◌⊎◌, ◌≤◌, ◌<◌, List, length, Option, Some, None}
use Rattle.std.specs.FinMap as map
use Rattle.std.specs.declared.cmp.Ordering.TheVariants.{Greater}
use Rattle.cfg_base.specs.Order.{path_cmp}
use Rattle.cfg_base.specs.declared.path.Step.{Step}
use Rattle.cfg_base.specs.declared.value.Value.{Value}
use Rattle.cfg_tree.specs.declared.limit.TheConstants.{MAX_STATEMENTS}
use Rattle.cfg_tree.specs.Statements.{Statements, size_of, parent_of}
use Rattle.private_merge.specs.declared.fault.MergeFault.{MergeFault}
use Rattle.private_merge.specs.declared.fault.MergeFault.TheVariants.{Conflict, TooMany, NoMemory}

-- what is merged of three values of one path: the own one where it differs from the base, else the active one. Absence is
-- a value too.
abbrev pub IsMergedValue : Option Value → Option Value → Option Value → Option Value → Type 0
IsMergedValue base active mine merged = ((mine ≢ base) × (merged ≡ mine)) ⊎ ((mine ≡ base) × (merged ≡ active))

-- what is merged at a path
abbrev pub IsMergedAt : Statements → Statements → Statements → List Step → Option Value → Type 0
IsMergedAt base active mine path merged =
    IsMergedValue (map.get base path) (map.get active path) (map.get mine path) merged

-- a map has at each path what is merged there
abbrev pub IsMergeOf : Statements → Statements → Statements → Statements → Type 0
IsMergeOf base active mine merged = (path : List Step) → IsMergedAt base active mine path (map.get merged path)

-- both sides changed what stands at a path, and not to the same
pub record IsChangedTwice (base active mine : Statements) (path : List Step) : Type 0 where
  pub by_me : map.get mine path ≢ map.get base path
  pub by_others : map.get active path ≢ map.get base path
  pub apart : map.get mine path ≢ map.get active path

-- a statement would be there, and its parent not
pub record LosesParent (base active mine : Statements) (path : List Step) : Type 0 where
  pub value : Value
  pub there : IsMergedAt base active mine path (Some value)
  pub inner : 1 < length path
  pub gone : IsMergedAt base active mine (parent_of path) None

abbrev pub Conflicts : Statements → Statements → Statements → List Step → Type 0
Conflicts base active mine path = IsChangedTwice base active mine path ⊎ LosesParent base active mine path

-- no path conflicts
abbrev pub Agree : Statements → Statements → Statements → Type 0
Agree base active mine = (path : List Step) → ¬ (Conflicts base active mine path)

-- the least path that does
pub record IsLeastConflict (base active mine : Statements) (path : List Step) : Type 0 where
  pub conflicts : Conflicts base active mine path
  pub least : (other : List Step) → Conflicts base active mine other → path_cmp path other ≢ Greater

-- the three are merged
pub record IsMerge (base active mine merged : Statements) : Type 0 where
  pub agree : Agree base active mine
  pub made : IsMergeOf base active mine merged
  pub few : size_of merged ≤ MAX_STATEMENTS

-- they would be, and there are too many statements
pub record IsTooMany (base active mine : Statements) : Type 0 where
  pub agree : Agree base active mine
  pub merged : Statements
  pub made : IsMergeOf base active mine merged
  pub many : MAX_STATEMENTS < size_of merged

-- why they aren't merged: a path conflicts; or none does, and there would be too many statements
abbrev pub IsMergeFault : Statements → Statements → Statements → MergeFault → Type 0
IsMergeFault base active mine (Conflict path) = IsLeastConflict base active mine path
IsMergeFault base active mine TooMany = IsTooMany base active mine
IsMergeFault base active mine NoMemory = Unit {0}
