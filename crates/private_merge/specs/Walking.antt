-- What the parts of a merge promise: walks side by side, and what stands at the path that comes next.
use Rattle.std.specs.Prelude.{◌≡◌, ◌≢◌, ◌<◌, cond, List, [], ◌∷◌, length, Option, Some, None, IsSome}
use Rattle.std.specs.FinMap as map
use Rattle.std.specs.Ordering.{eq_by_cmp, is_lt}
use Rattle.cfg_base.specs.Order.{path_cmp}
use Rattle.cfg_base.specs.declared.path.Step.{Step}
use Rattle.cfg_base.specs.declared.value.Value.{Value}
use Rattle.cfg_entries.specs.EntryMap.{Pair}
use Rattle.cfg_tree.specs.Statements.{Statements, parent_of}
use Rattle.cfg_tree.specs.Values.{Stand, with_values}
use Rattle.private_merge.specs.declared.fault.MergeFault.{MergeFault}
use Rattle.private_merge.specs.declared.fault.MergeFault.TheVariants.{Conflict, TooMany, NoMemory}
use Rattle.private_merge.specs.Merge.{IsMergedAt, IsMergeOf, Agree, IsLeastConflict}

-- an entry, where there is one, before others; without one there are none
abbrev pub in_front : Option (Pair Value) → List (Pair Value) → List (Pair Value)
in_front None rest = []
in_front (Some e) rest = e ∷ rest

-- the path that comes next
abbrev pub path_ahead : List (Pair Value) → Option (List Step)
path_ahead [] = None
path_ahead (e ∷ es) = Some e.0

-- the value at a path, where that comes next
abbrev pub value_ahead : List Step → List (Pair Value) → Option Value
value_ahead path [] = None
value_ahead path (e ∷ es) = cond (eq_by_cmp path_cmp path e.0) (Some e.1) None

-- what comes after a path
abbrev pub rest_behind : List Step → List (Pair Value) → List (Pair Value)
rest_behind path [] = []
rest_behind path (e ∷ es) = cond (eq_by_cmp path_cmp path e.0) es (e ∷ es)

-- the first of two paths, where there are some
abbrev pub first_of : Option (List Step) → Option (List Step) → Option (List Step)
first_of None other = other
first_of (Some path) None = Some path
first_of (Some path) (Some other) = cond (is_lt (path_cmp other path)) (Some other) (Some path)

-- what three walks still have to go through
pub record SidesView : Type 0 where
  pub base : List (Pair Value)
  pub active : List (Pair Value)
  pub mine : List (Pair Value)

-- all statements of three maps
abbrev pub all_ahead : Statements → Statements → Statements → SidesView
all_ahead base active mine = record { base = map.entries base; active = map.entries active; mine = map.entries mine }

-- the path that comes next in any of them
abbrev pub next_path : SidesView → Option (List Step)
next_path ahead = first_of (first_of (path_ahead ahead.base) (path_ahead ahead.active)) (path_ahead ahead.mine)

-- the same after a path
abbrev pub all_behind : List Step → SidesView → SidesView
all_behind path ahead = record {
  base = rest_behind path ahead.base;
  active = rest_behind path ahead.active;
  mine = rest_behind path ahead.mine;
}

-- a path, and what stands there on each side
pub record PlaceView : Type 0 where
  pub path : List Step
  pub base : Option Value
  pub active : Option Value
  pub mine : Option Value

-- what stands at a path that comes next
abbrev pub standing_at : List Step → SidesView → PlaceView
standing_at path ahead = record {
  path = path;
  base = value_ahead path ahead.base;
  active = value_ahead path ahead.active;
  mine = value_ahead path ahead.mine;
}

-- a place comes next, and what is ahead then is after it
pub record IsNextPlace (before after : SidesView) (place : PlaceView) : Type 0 where
  pub next : next_path before ≡ Some place.path
  pub stands : place ≡ standing_at place.path before
  pub rest : after ≡ all_behind place.path before

-- a path with these values
abbrev pub standing : List Step → Option Value → Option Value → Option Value → PlaceView
standing path base active mine = record { path = path; base = base; active = active; mine = mine }

-- it stands there in three maps
pub record StandsIn (base active mine : Statements) (standing : PlaceView) : Type 0 where
  pub base_has : standing.base ≡ map.get base standing.path
  pub active_has : standing.active ≡ map.get active standing.path
  pub mine_has : standing.mine ≡ map.get mine standing.path

-- neither side changed it
abbrev pub IsUntouched : PlaceView → Type 0
IsUntouched standing = (standing.mine ≡ standing.base) × (standing.active ≡ standing.base)

-- a statement stands there on both sides
abbrev pub IsOnBoth : PlaceView → Type 0
IsOnBoth standing = IsSome standing.active × IsSome standing.mine

-- both sides changed it, and not to the same
abbrev pub AreTwo : PlaceView → Type 0
AreTwo standing =
    (standing.mine ≢ standing.base) × (standing.active ≢ standing.base) × (standing.mine ≢ standing.active)

-- what is merged isn't what is active
abbrev pub IsChanged : PlaceView → Type 0
IsChanged standing = (standing.mine ≢ standing.base) × (standing.mine ≢ standing.active)

-- the parent of a path is gone
abbrev pub HasNoParent : Statements → Statements → Statements → List Step → Type 0
HasNoParent base active mine path = (1 < length path) × IsMergedAt base active mine (parent_of path) None

-- what the own side changed makes the merge of the active map
pub record IsOwn (base active mine : Statements) (own : List Stand) : Type 0 where
  pub agree : Agree base active mine
  pub made : IsMergeOf base active mine (with_values active own)

-- a path conflicts, or memory runs out
abbrev pub IsConflictFault : Statements → Statements → Statements → MergeFault → Type 0
IsConflictFault base active mine (Conflict path) = IsLeastConflict base active mine path
IsConflictFault base active mine TooMany = ⊥
IsConflictFault base active mine NoMemory = Unit {0}
