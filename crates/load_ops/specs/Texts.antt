-- What a curly text makes of the statements that are there. Junos OS CLI User Guide, on load merge, load override and load replace, and on
-- protected statements; that merging goes path by path is this project's own.
use Rattle.std.specs.Prelude.{◌≡◌, ◌≤◌, ◌<◌, ℕ, List}
use Rattle.cfg_base.specs.declared.path.Step.{Step}
use Rattle.commands.specs.declared.command.LoadWay.{LoadWay}
use Rattle.commands.specs.declared.command.LoadWay.TheVariants.{Merge, Override, Replace, SetLines}
use Rattle.cfg_tree.specs.declared.limit.TheConstants.{MAX_STATEMENTS}
use Rattle.cfg_tree.specs.Statements.{Statements, size_of}
use Rattle.cfg_tree.specs.Union.{IsUnion}
use Rattle.curly_grammar.specs.Grammar.{Reads}
use Rattle.curly_grammar.specs.Fault.{IsLeftmostFault}
use Rattle.edit_ops.specs.Block.{IsFree, IsBlockedBy}
use Rattle.load_ops.specs.Left.{IsReplacement}
use Rattle.load_ops.specs.declared.fault.LoadFault.{LoadFault}
use Rattle.load_ops.specs.declared.fault.LoadFault.TheVariants.{Text, Line, Edit, Protected, TooMany, NoMemory}

-- what the statements of a text, and the paths that it tags `replace:`, make of those that are there
abbrev pub IsMadeOf : LoadWay → Statements → Statements → List (List Step) → Statements → Type 0
IsMadeOf Merge old said tags new = IsUnion old said new
IsMadeOf Override old said tags new = new ≡ said
IsMadeOf Replace old said tags new = IsReplacement old said tags new
IsMadeOf SetLines old said tags new = ⊥

-- what a text makes of the statements that are there, if nothing keeps them
pub record Makes (way : LoadWay) (old : Statements) (text : List ℕ) (new : Statements) : Type 0 where
  pub said : Statements
  pub tags : List (List Step)
  pub reads : Reads text said tags
  pub few : size_of said ≤ MAX_STATEMENTS
  pub made : IsMadeOf way old said tags new

-- a load spares no protected statement
abbrev pub spares_none : List Step → Type 0
spares_none path = ⊥

-- a curly text is loaded
pub record IsTextLoad (way : LoadWay) (old : Statements) (text : List ℕ) (new : Statements) : Type 0 where
  pub makes : Makes way old text new
  pub free : IsFree old new spares_none
  pub few : size_of new ≤ MAX_STATEMENTS

-- a protected statement keeps what would be made
pub record IsKept (way : LoadWay) (old : Statements) (text : List ℕ) (path : List Step) : Type 0 where
  pub new : Statements
  pub makes : Makes way old text new
  pub blocked : IsBlockedBy old new spares_none path

-- none keeps it, and there would be too many statements
pub record IsTooMany (way : LoadWay) (old : Statements) (text : List ℕ) : Type 0 where
  pub new : Statements
  pub makes : Makes way old text new
  pub free : IsFree old new spares_none
  pub many : MAX_STATEMENTS < size_of new

-- why a curly text isn't loaded
abbrev pub IsTextLoadFault : LoadWay → Statements → List ℕ → LoadFault → Type 0
IsTextLoadFault way old text (Text fault) = IsLeftmostFault text fault
IsTextLoadFault way old text (Line fault) = ⊥
IsTextLoadFault way old text (Edit line fault) = ⊥
IsTextLoadFault way old text (Protected path) = IsKept way old text path
IsTextLoadFault way old text TooMany = IsTooMany way old text
IsTextLoadFault way old text NoMemory = Unit {0}
