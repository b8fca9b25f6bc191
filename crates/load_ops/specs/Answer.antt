-- What a load answers.
use Rattle.std.specs.Prelude.{◌≢◌, ℕ, Bool, Decides, List}
use Rattle.commands.specs.declared.command.LoadWay.{LoadWay}
use Rattle.commands.specs.declared.command.LoadWay.TheVariants.{Merge, Override, Replace, SetLines}
use Rattle.cfg_tree.specs.Statements.{Statements}
use Rattle.load_ops.specs.declared.fault.LoadFault.{LoadFault}
use Rattle.load_ops.specs.Texts.{IsTextLoad, IsTextLoadFault}
use Rattle.load_ops.specs.Lines.{IsLineLoad, IsLineLoadFault}

-- the statements after a load
abbrev pub IsLoaded : LoadWay → Statements → List ℕ → Statements → Type 0
IsLoaded Merge old text new = IsTextLoad Merge old text new
IsLoaded Override old text new = IsTextLoad Override old text new
IsLoaded Replace old text new = IsTextLoad Replace old text new
IsLoaded SetLines old text new = IsLineLoad old text new

-- a load is made, and reports whether the statements changed
pub record IsLoad (way : LoadWay) (old : Statements) (text : List ℕ) (new : Statements) (told : Bool) : Type 0 where
  pub loaded : IsLoaded way old text new
  pub tells : Decides told (new ≢ old)

-- why a load isn't made
abbrev pub IsLoadFault : LoadWay → Statements → List ℕ → LoadFault → Type 0
IsLoadFault Merge old text fault = IsTextLoadFault Merge old text fault
IsLoadFault Override old text fault = IsTextLoadFault Override old text fault
IsLoadFault Replace old text fault = IsTextLoadFault Replace old text fault
IsLoadFault SetLines old text fault = IsLineLoadFault old text fault
