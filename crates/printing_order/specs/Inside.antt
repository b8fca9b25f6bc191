-- The statements inside a path, in the order of paths.
use Rattle.std.specs.Prelude.{nat_lt, List, length, filter, take}
use Rattle.std.specs.List.{prefix_len}
use Rattle.std.specs.FinMap as map
use Rattle.cfg_base.specs.declared.path.Step.{Step}
use Rattle.cfg_base.specs.declared.value.Value.{Value}
use Rattle.cfg_entries.specs.EntryMap.{Pair}
use Rattle.cfg_tree.specs.Statements.{Statements}
use Rattle.cfg_tree.specs.Children.{is_inside}

-- the statements below a path, in the order of paths
abbrev pub statements_inside : Statements → List Step → List (Pair Value)
statements_inside m path = filter (λ e. is_inside path e.0) (map.entries m)

-- of the statements after a path those up to the first that isn't longer
abbrev pub front_inside : List Step → List (Pair Value) → List (Pair Value)
front_inside path behind = take (prefix_len (λ e. nat_lt (length path) (length e.0)) behind) behind
