-- What the parts of a load promise.
use Rattle.std.specs.Prelude.{◌≡◌, ◌≢◌, ◌≤◌, ◌<◌, ℕ, Bool, false, cond, List, [], ◌∷◌, Option, Some, None, Result, Ok, Err}
use Rattle.std.specs.BTreeSet.{BTreeSet, contains}
use Rattle.cfg_base.specs.Order.{path_cmp}
use Rattle.cfg_base.specs.declared.path.Step.{Step}
use Rattle.cfg_base.specs.declared.value.Value.{Value}
use Rattle.cfg_entries.specs.EntryMap.{Pair}
use Rattle.commands.specs.declared.command.LoadWay.{LoadWay}
use Rattle.cfg_tree.specs.declared.limit.TheConstants.{MAX_STATEMENTS}
use Rattle.cfg_tree.specs.Statements.{Statements, size_of, is_below}
use Rattle.curly_grammar.specs.Fault.{IsLeftmostFault}
use Rattle.edit_ops.specs.declared.fault.EditFault.TheVariants as edit
use Rattle.edit_ops.specs.Answer.{IsEditFault}
use Rattle.edit_ops.specs.Block.{IsFree, IsBlockedBy}
use Rattle.set_text.specs.declared.op_lines.OpLine.{OpLine}
use Rattle.load_ops.specs.declared.fault.LoadFault.{LoadFault}
use Rattle.load_ops.specs.declared.fault.LoadFault.TheVariants.{Text, Edit, Protected, TooMany, NoMemory}
use Rattle.load_ops.specs.Left.{is_tagged, is_replaced, value_left}
use Rattle.load_ops.specs.Texts.{spares_none, IsTextLoad, IsTextLoadFault}
use Rattle.load_ops.specs.Lines.{IsFirstUnmade}

-- the entries from the first on that stand at a path or below it
abbrev pub front_below : List Step → List (Pair Value) → List (Pair Value)
front_below path [] = []
front_below path (e ∷ es) = cond (is_below path e.0) (e ∷ front_below path es) []

-- the set has exactly the tagged paths
abbrev pub Knows : List (List Step) → BTreeSet (List Step) → Type 0
Knows tags known = (path : List Step) → contains path_cmp known path ≡ is_tagged tags path

-- a path stands at another one or below it, where there is one
abbrev pub is_covered : Option (List Step) → List Step → Bool
is_covered None path = false
is_covered (Some above) path = is_below above path

-- the entries that are left, each with what is left of its value
abbrev pub entries_left : List (List Step) → List (Pair Value) → List (Pair Value)
entries_left tags [] = []
entries_left tags (e ∷ es) = cond (is_replaced tags e.0) (entries_left tags es) ((e.0, value_left tags e.0 e.1) ∷ entries_left tags es)

-- a text isn't read
abbrev pub IsReadFault : List ℕ → LoadFault → Type 0
IsReadFault text (Text fault) = IsLeftmostFault text fault
IsReadFault text NoMemory = Unit {0}
IsReadFault text _ = ⊥

-- what is made is asked for protected statements and for its size
pub record IsAllowed (old made new : Statements) : Type 0 where
  pub same : new ≡ made
  pub free : IsFree old made spares_none
  pub few : size_of made ≤ MAX_STATEMENTS

abbrev pub IsRefusal : Statements → Statements → LoadFault → Type 0
IsRefusal old made (Protected path) = IsBlockedBy old made spares_none path
IsRefusal old made TooMany = IsFree old made spares_none × (MAX_STATEMENTS < size_of made)
IsRefusal old made NoMemory = Unit {0}
IsRefusal old made _ = ⊥

abbrev pub IsTextAnswer : LoadWay → Statements → List ℕ → Result Statements LoadFault → Type 0
IsTextAnswer way old text (Ok new) = IsTextLoad way old text new
IsTextAnswer way old text (Err fault) = IsTextLoadFault way old text fault

-- one change isn't made
abbrev pub IsOneFault : Statements → OpLine → LoadFault → Type 0
IsOneFault old line (Edit number fault) = (number ≡ line.line) × (fault ≢ edit.NoMemory) × IsEditFault old [] line.op fault
IsOneFault old line NoMemory = Unit {0}
IsOneFault old line _ = ⊥

-- one of several isn't
abbrev pub IsMakingFault : Statements → List OpLine → LoadFault → Type 0
IsMakingFault old lines (Edit number fault) = IsFirstUnmade old lines number fault
IsMakingFault old lines NoMemory = Unit {0}
IsMakingFault old lines _ = ⊥
