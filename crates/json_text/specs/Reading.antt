-- What a JSON text says as a configuration, and why one is refused.
use Rattle.std.specs.Prelude.{◌≡◌, ◌≤◌, ◌<◌, ℕ, List, Some, IsUtf8, ⊤}
use Rattle.cfg_tree.specs.Statements.{Statements, size_of}
use Rattle.cfg_tree.specs.declared.limit.TheConstants.{MAX_STATEMENTS}
use Rattle.serde_json.specs.Data.{Data}
use Rattle.serde_json.specs.Read.{read}
use Rattle.json_text.specs.declared.fault.JsonFault.{JsonFault}
use Rattle.json_text.specs.declared.fault.JsonFault.TheVariants.{NotJson, TooMany}
use Rattle.json_text.specs.declared.fault.ReadFault.{ReadFault}
use Rattle.json_text.specs.declared.fault.ReadFault.TheVariants.{Json, NoMemory}
use Rattle.json_text.specs.Faults.{IsFirstFault}
use Rattle.json_text.specs.Said.{Says}

-- a text is this value
pub record IsJson (text : List ℕ) (d : Data) : Type 0 where
  pub utf8 : IsUtf8 text
  pub is : read text ≡ Some d

-- a text is read as this configuration: it is a value that says it, and that has no more statements than a tree
pub record IsReadAs (text : List ℕ) (m : Statements) : Type 0 where
  pub value : Data
  pub json : IsJson text value
  pub says : Says value m
  pub few : size_of m ≤ MAX_STATEMENTS

-- a text says more statements than a tree has
pub record SaysTooMany (text : List ℕ) : Type 0 where
  pub value : Data
  pub json : IsJson text value
  pub statements : Statements
  pub says : Says value statements
  pub many : MAX_STATEMENTS < size_of statements

-- a text is a value with this first fault
pub record HasFirstFault (text : List ℕ) (fault : JsonFault) : Type 0 where
  pub value : Data
  pub json : IsJson text value
  pub first : IsFirstFault value fault

-- a text has this fault: it is no value; or it says too many statements; or its value has the fault
abbrev pub IsTextFault : List ℕ → JsonFault → Type 0
IsTextFault text NotJson = (d : Data) → ¬ (IsJson text d)
IsTextFault text TooMany = SaysTooMany text
IsTextFault text fault = HasFirstFault text fault

-- why a text isn't read: its fault; or memory ran out
abbrev pub IsRefused : List ℕ → ReadFault → Type 0
IsRefused text (Json fault) = IsTextFault text fault
IsRefused text NoMemory = ⊤
