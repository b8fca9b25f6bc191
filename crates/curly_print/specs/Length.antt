-- How long the whole printed text is: the bytes of each statement, without what stands in it.
use Rattle.std.specs.Prelude.{ℕ, ◌+◌, ◌-◌, ◌*◌, ◌^◌, nat_lt, min, Bool, true, false, List, length}
use Rattle.cfg_base.specs.declared.path.Step.{Step}
use Rattle.cfg_base.specs.declared.value.Value.{Value}
use Rattle.cfg_entries.specs.EntryMap.{Pair}
use Rattle.cfg_tree.specs.Statements.{Statements, last_of}
use Rattle.cfg_tree.specs.Children.{children_of}
use Rattle.curly_print.specs.Printed.{line_of}

-- a statement holds others
abbrev pub holds : Statements → List Step → Bool
holds m path = nat_lt 0 (length (children_of m path))

-- the spaces before a statement
abbrev pub indent_of : List Step → ℕ
indent_of path = 4 * (length path - 1)

-- the bytes of a statement: its spaces, its line and its end, ` {` and `}` on a line of its own where it holds others
abbrev pub own_len : Bool → List Step → Value → ℕ
own_len false path value = indent_of path + (length (line_of (last_of path) value) + 2)
own_len true path value = indent_of path + (length (line_of (last_of path) value) + (indent_of path + 5))

-- the same of a statement that is there
abbrev pub entry_len : Statements → Pair Value → ℕ
entry_len m entry = own_len (holds m entry.0) entry.0 entry.1

-- a length, or the most that 64 bits count
abbrev pub capped : ℕ → ℕ
capped count = min count (2 ^ 64 - 1)
