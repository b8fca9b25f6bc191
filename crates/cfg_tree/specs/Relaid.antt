-- All statements laid anew in the order of paths, with one and all below it under another path. How they are laid is this project's own.
use Rattle.std.specs.Prelude.{Bool, not, ◌||◌, List, ◌++◌, filter, map, if◌then◌else◌}
use Rattle.std.specs.Ordering.{is_lt}
use Rattle.cfg_base.specs.Order.{path_cmp}
use Rattle.cfg_base.specs.declared.path.Step.{Step}
use Rattle.cfg_base.specs.declared.value.Value.{Value}
use Rattle.cfg_entries.specs.EntryMap.{Pair, past}
use Rattle.cfg_tree.specs.Statements.{Statements, is_below}
use Rattle.cfg_tree.specs.Change.{cleared}
use Rattle.cfg_tree.specs.Moving.{placed}

-- whether a path stays a statement: in a copy each does, in a change of the name those that aren't below the old one
abbrev pub is_kept : Bool → List Step → List Step → Bool
is_kept stays from path = stays || not (is_below from path)

-- the statements that stay
abbrev pub left_by : Bool → Statements → List Step → Statements
left_by stays m from = if stays then m else cleared m from

abbrev pub kept : Bool → List Step → List (Pair Value) → List (Pair Value)
kept stays from es = filter (λ e. is_kept stays from e.0) es

-- the entries before a path
abbrev pub before : List Step → List (Pair Value) → List (Pair Value)
before path es = filter (λ e. is_lt (path_cmp e.0 path)) es

-- the entries at the same places below another path
abbrev pub moved : List Step → List Step → List (Pair Value) → List (Pair Value)
moved from to es = map (λ e. (placed from to e.0, e.1)) es

-- the entries that stay, with a part under another path
abbrev pub relaid : Bool → List Step → List Step → List (Pair Value) → List (Pair Value) → List (Pair Value)
relaid stays from to part es = kept stays from (before to es) ++ (moved from to part ++ kept stays from (past to es))
