-- An expansion that inherits nothing, of a configuration without marks.
use Rattle.std.specs.Prelude.{◌≡◌, false, List, Some}
use Rattle.std.specs.FinMap as finite
use Rattle.std.specs.Option.{option_map}
use Rattle.cfg_base.specs.declared.path.Step.{Step}
use Rattle.cfg_base.specs.declared.value.Value.{Value}
use Rattle.cfg_tree.specs.Statements.{Statements}
use Rattle.cfg_tree.specs.Full.{Expansion, own_given}

-- each statement of the configuration is given as its own, nothing else is given, and no statement has a mark
pub record IsOwn (m : Statements) (full : Expansion) : Type 0 where
  pub given : (path : List Step) → finite.get full path ≡ option_map own_given (finite.get m path)
  pub unmarked : (path : List Step) (value : Value) → finite.get m path ≡ Some value
      → (value.inactive ≡ false) × (value.protected ≡ false)
