-- Which protected statement keeps a change from being made. Junos OS CLI User Guide, on protecting statements.
use Rattle.std.specs.Prelude.{◌≡◌, ◌≢◌, true, List, Some}
use Rattle.std.specs.declared.cmp.Ordering.TheVariants.{Greater}
use Rattle.std.specs.FinMap as map
use Rattle.cfg_base.specs.Order.{path_cmp}
use Rattle.commands.specs.declared.command.Op.{Op}
use Rattle.commands.specs.declared.command.Op.TheVariants.{Set, Delete, Activate, Deactivate, Protect, Unprotect, Rename, Copy, Insert}
use Rattle.cfg_base.specs.declared.path.Step.{Step}
use Rattle.cfg_base.specs.declared.value.Value.{Value}
use Rattle.cfg_tree.specs.Statements.{Statements, is_below}

-- a statement has the protected mark
pub record IsProtected (m : Statements) (path : List Step) : Type 0 where
  pub value : Value
  pub found : map.get m path ≡ Some value
  pub mark : value.protected ≡ true

-- two maps differ at a path or below it
pub record DiffersBelow (m n : Statements) (path : List Step) : Type 0 where
  pub place : List Step
  pub below : is_below path place ≡ true
  pub differs : map.get m place ≢ map.get n place

-- the mark that is taken away doesn't keep itself
abbrev pub IsSpared : Op → List Step → List Step → Type 0
IsSpared (Set words) own path = ⊥
IsSpared (Delete words) own path = ⊥
IsSpared (Activate words) own path = ⊥
IsSpared (Deactivate words) own path = ⊥
IsSpared (Protect words) own path = ⊥
IsSpared (Unprotect words) own path = path ≡ own
IsSpared (Rename from to) own path = ⊥
IsSpared (Copy from to) own path = ⊥
IsSpared (Insert moved before anchor) own path = ⊥

-- a protected statement, at which or below which a change would change something
pub record Blocks (m n : Statements) (spared : List Step → Type 0) (path : List Step) : Type 0 where
  pub is_protected : IsProtected m path
  pub not_spared : ¬ (spared path)
  pub differs : DiffersBelow m n path

-- nothing keeps the change
abbrev pub IsFree : Statements → Statements → (List Step → Type 0) → Type 0
IsFree m n spared = (path : List Step) → ¬ (Blocks m n spared path)

-- the least of those that do
pub record IsBlockedBy (m n : Statements) (spared : List Step → Type 0) (path : List Step) : Type 0 where
  pub blocks : Blocks m n spared path
  pub least : (other : List Step) → Blocks m n spared other → path_cmp path other ≢ Greater
