-- The three groups of lines that statements are printed in, as they are written side by side.
use Rattle.std.specs.Prelude.{◌≡◌, ◌==◌, Bool, List, ◌++◌, Some}
use Rattle.std.specs.List.{flat_map}
use Rattle.cfg_base.specs.declared.path.Step.{Step}
use Rattle.cfg_base.specs.declared.value.Value.{Value}
use Rattle.cfg_tree.specs.Statements.{Statements}
use Rattle.printing_order.specs.Listed.{Item}
use Rattle.set_text.specs.declared.groups.Groups.{Groups}
use Rattle.set_text.specs.Printed.{Line, printed_lines, sets_in, deactivates_in, protects_in, sets_of, deactivates_of, protects_of}

-- these lines are put at the end of each group
pub record IsPrinted (sets deactivates protects : List Line) (old new : Groups) : Type 0 where
  pub sets_put : new.sets.items ≡ old.sets.items ++ printed_lines sets
  pub deactivates_put : new.deactivates.items ≡ old.deactivates.items ++ printed_lines deactivates
  pub protects_put : new.protects.items ≡ old.protects.items ++ printed_lines protects

-- the lines of a statement that is there
abbrev pub IsStatement : List Step → Value → Bool → Groups → Groups → Type 0
IsStatement path value childless old new =
    IsPrinted (sets_in path childless (Some value)) (deactivates_in path (Some value)) (protects_in path (Some value)) old new

-- the lines of a statement in a list
abbrev pub item_sets : Item → List Line
item_sets it = sets_in it.path (it.inside == 0) (Some it.value)

abbrev pub item_deactivates : Item → List Line
item_deactivates it = deactivates_in it.path (Some it.value)

abbrev pub item_protects : Item → List Line
item_protects it = protects_in it.path (Some it.value)

-- the lines of statements, one after another
abbrev pub AreItems : List Item → Groups → Groups → Type 0
AreItems items old new = IsPrinted (flat_map item_sets items) (flat_map item_deactivates items) (flat_map item_protects items) old new

-- the lines of the statements of these paths
abbrev pub ArePaths : Statements → List (List Step) → Groups → Groups → Type 0
ArePaths m paths old new = IsPrinted (flat_map (sets_of m) paths) (flat_map (deactivates_of m) paths) (flat_map (protects_of m) paths) old new
