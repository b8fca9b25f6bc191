-- What the parts of a change ask and promise.
use Rattle.std.specs.Prelude.{◌≡◌, ◌≢◌, ◌≤◌, ◌<◌, ◌-◌, ℕ, Bool, true, false, List, [], ◌++◌, length, take, Option, Some, None, IsSome, Result, Ok, Err}
use Rattle.std.specs.declared.cmp.Ordering.TheVariants.{Less}
use Rattle.std.specs.FinMap as map
use Rattle.cfg_base.specs.Order.{path_cmp}
use Rattle.cfg_base.specs.declared.path.Step.{Step}
use Rattle.cfg_base.specs.declared.value.Value.{Value}
use Rattle.cfg_schema.specs.declared.place.Place.{Place}
use Rattle.cfg_schema.specs.Profile.{row_of}
use Rattle.cfg_schema.specs.Place.{place_of}
use Rattle.cfg_tree.specs.declared.limit.TheConstants.{MAX_STATEMENTS}
use Rattle.cfg_tree.specs.declared.fault.TreeFault.{TreeFault}
use Rattle.cfg_tree.specs.declared.fault.TreeFault.TheVariants as put
use Rattle.cfg_tree.specs.declared.moving.CopyFault.{CopyFault}
use Rattle.cfg_tree.specs.declared.moving.CopyFault.TheVariants as copy
use Rattle.cfg_resolve.specs.declared.target.Target.{Target}
use Rattle.cfg_tree.specs.Statements.{Statements, size_of, parent_of, is_below, HasParent}
use Rattle.cfg_tree.specs.Typed.{IsTypedPath, AreCanonical, IsLevelPath}
use Rattle.cfg_tree.specs.Tree.{IsOrderOf}
use Rattle.cfg_resolve.specs.Resolve.{AreGiven}
pub use Rattle.cfg_tree.specs.Change.{FitsProfile, IsOther}
use Rattle.edit_ops.specs.declared.fault.EditFault.{EditFault}
use Rattle.edit_ops.specs.declared.fault.EditFault.TheVariants.{Unknown, BadValue, Protected, TooMany, NoMemory}
pub use Rattle.edit_ops.specs.Answer.{IsEnough}
use Rattle.edit_ops.specs.declared.subject.Subject.{Subject}
use Rattle.edit_ops.specs.Change.{Cause, unless, other_of, with_levels}
use Rattle.edit_ops.specs.Block.{IsProtected, IsFree, IsBlockedBy}

-- a statement of the profile, with words of its kind
pub record IsTarget (target : Target) : Type 0 where
  pub steps : 0 < length target.path
  pub typed : IsTypedPath target.path
  pub given : (here : Place) → place_of target.path ≡ Some here → AreGiven (row_of here.row).shape target.words
  pub canonical : (here : Place) → place_of target.path ≡ Some here → AreCanonical (row_of here.row).value_kind target.words

-- a path below the same parent that a typed map may have
pub record IsBesidePath (path other : List Step) : Type 0 where
  pub steps : 0 < length path
  pub rest : List Step
  pub some : 0 < length rest
  pub below : other ≡ parent_of path ++ rest
  pub typed : IsTypedPath other

-- what a change names is of the profile
pub record IsSubject (subject : Subject) : Type 0 where
  pub target : IsTarget subject.target
  pub other : IsBesidePath subject.target.path (other_of subject)

-- why a statement isn't renamed, copied or inserted before the map after it is asked: the first cause that holds
abbrev pub IsCause : List Cause → EditFault → Type 0
IsCause causes (Protected path) = ⊥
IsCause causes TooMany = ⊥
IsCause causes NoMemory = Unit {0}
IsCause causes fault = (n : Statements) → unless causes n ≡ Err fault

-- none of the causes holds
abbrev pub IsUnrefused : List Cause → Type 0
IsUnrefused causes = (n : Statements) → unless causes n ≡ Ok n

-- how many levels on the way to a path are guarded: all, or all but the statement itself
abbrev pub guarded : Bool → ℕ → ℕ
guarded true n = n - 1
guarded false n = n

-- none of the first n levels on the way to a path is protected
abbrev pub IsOpen : Statements → ℕ → List Step → Type 0
IsOpen m n path = (k : ℕ) → k ≤ n → ¬ (IsProtected m (take k path))

-- the first of them that is
pub record IsFirstProtected (m : Statements) (n : ℕ) (path found : List Step) : Type 0 where
  pub count : ℕ
  pub within : count ≤ n
  pub found_is : found ≡ take count path
  pub is_protected : IsProtected m found
  pub free : (k : ℕ) → k < count → ¬ (IsProtected m (take k path))

abbrev pub IsGuardFault : Statements → ℕ → List Step → EditFault → Type 0
IsGuardFault m n path (Protected found) = IsFirstProtected m n path found
IsGuardFault m n path NoMemory = Unit {0}
IsGuardFault m n path _ = ⊥

-- nothing below a path is protected
abbrev pub IsOpenBelow : Statements → List Step → Type 0
IsOpenBelow m path = (other : List Step) → is_below path other ≡ true → path_cmp path other ≡ Less → ¬ (IsProtected m other)

-- the first path below that is
pub record IsFirstBelow (m : Statements) (path found : List Step) : Type 0 where
  pub below : is_below path found ≡ true
  pub after : path_cmp path found ≡ Less
  pub is_protected : IsProtected m found
  pub first : (other : List Step) → is_below path other ≡ true → path_cmp path other ≡ Less → IsProtected m other → path_cmp other found ≢ Less

abbrev pub IsBelowFault : Statements → List Step → EditFault → Type 0
IsBelowFault m path (Protected found) = IsFirstBelow m path found
IsBelowFault m path NoMemory = Unit {0}
IsBelowFault m path _ = ⊥

-- what a part of a change makes of the statements, beside what it should make: nothing else than was there, or others; or why it is refused
abbrev pub IsPartMade : Statements → Result Statements EditFault → (List Step → Type 0) → Result (Option Statements) EditFault → Type 0
IsPartMade m goal spared (Ok None) = (goal ≡ Ok m) × (size_of m ≤ MAX_STATEMENTS)
IsPartMade m goal spared (Ok (Some n)) = (goal ≡ Ok n) × (n ≢ m) × IsFree m n spared
IsPartMade m goal spared (Err (Protected path)) = (n : Statements) × (goal ≡ Ok n) × IsBlockedBy m n spared path
IsPartMade m goal spared (Err TooMany) = (n : Statements) × (goal ≡ Ok n) × IsFree m n spared × (MAX_STATEMENTS < size_of n)
IsPartMade m goal spared (Err NoMemory) = Unit {0}
IsPartMade m goal spared (Err fault) = goal ≡ Err fault

-- a level, whose parent is there
pub record IsLevelReady (m : Statements) (path : List Step) : Type 0 where
  pub level : IsLevelPath path
  pub parent : HasParent m path

-- a new statement finds no room
abbrev pub IsRoomFault : Statements → List Step → EditFault → Type 0
IsRoomFault m path TooMany = (map.get m path ≡ None) × (size_of m ≡ MAX_STATEMENTS)
IsRoomFault m path NoMemory = Unit {0}
IsRoomFault m path _ = ⊥

-- the levels above a path find no room
abbrev pub IsLevelsFault : Statements → ℕ → List Step → EditFault → Type 0
IsLevelsFault m n path TooMany = MAX_STATEMENTS < size_of (with_levels m n path)
IsLevelsFault m n path NoMemory = Unit {0}
IsLevelsFault m n path _ = ⊥

-- the statement itself is spared, or none is
abbrev pub IsItself : Bool → List Step → List Step → Type 0
IsItself true own path = path ≡ own
IsItself false own path = ⊥

-- a new statement with its value, which fits; its order is empty
pub record IsNewStatement (m : Statements) (path : List Step) (value : Value) : Type 0 where
  pub steps : 0 < length path
  pub none : map.get m path ≡ None
  pub order : value.order ≡ []
  pub fits : FitsProfile path value

-- what is left of the words of a statement that is there: none, or words that fit
pub record IsPart (m : Statements) (path : List Step) (value : Value) (left : List (List ℕ)) : Type 0 where
  pub found : map.get m path ≡ Some value
  pub fits : 0 < length left → FitsProfile path (record value { words = left })

-- why a put is refused as a refusal of the change
abbrev pub fault_of_put : TreeFault → EditFault
fault_of_put (put.Unknown path) = Unknown path
fault_of_put (put.BadValue path) = BadValue path
fault_of_put put.TooMany = TooMany
fault_of_put put.NoMemory = NoMemory

abbrev pub fault_of_copy : CopyFault → EditFault
fault_of_copy copy.TooMany = TooMany
fault_of_copy copy.NoMemory = NoMemory

-- another order for a statement that is there, of its children
pub record IsReordered (m : Statements) (path : List Step) (old value : Value) : Type 0 where
  pub found : map.get m path ≡ Some old
  pub order : IsOrderOf m path value.order
  pub words : value.words ≡ old.words

-- the levels above a path were put, up to the first k of them
pub record LevelsPut (m n : Statements) (k : ℕ) (path : List Step) : Type 0 where
  pub is : n ≡ with_levels m k path
  pub there : 0 < k → IsSome (map.get n (take k path))
