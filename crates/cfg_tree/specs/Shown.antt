-- The statements that a list of entries holds.
use Rattle.std.specs.FinMap as map
use Rattle.cfg_entries.specs.EntryMap.{EntryMap}
use Rattle.std.specs.Prelude.{List, ℕ, [], ◌∷◌}
use Rattle.cfg_base.specs.Order.{path_cmp}
use Rattle.cfg_base.specs.declared.path.Step.{Step}
use Rattle.cfg_base.specs.declared.value.Value.{Value}
use Rattle.cfg_tree.specs.Statements.{Statements}

-- the entries as a finite map
abbrev pub shown : EntryMap (List Step) Value → Statements
shown m = map.from_entries m.entries

-- a value with other names in its order
abbrev pub with_names : List (List ℕ) → Value → Value
with_names names value = record value { order = names }

-- a map without these paths
abbrev pub without_all : {X : Type 0} → map.FinMap path_cmp X → List (List Step) → map.FinMap path_cmp X
without_all m [] = m
without_all m (path ∷ paths) = without_all (map.remove m path) paths
