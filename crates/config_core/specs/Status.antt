-- The list of the sessions in configuration mode. Junos OS CLI User Guide, on status; the layout is this project's own.
use Rattle.std.specs.Prelude.{ℕ, ◌+◌, List, [], ◌∷◌, ◌++◌, Option, None, Some, codes, decimal}
use Rattle.commands.specs.declared.command.Mode.{Mode}
use Rattle.commands.specs.declared.command.Mode.TheVariants.{Shared, Private, Exclusive}
use Rattle.config_core.specs.declared.caller.Caller.{Caller}

abbrev pub mode_text : Mode → List ℕ
mode_text Shared = codes "shared\n"
mode_text Private = codes "private\n"
mode_text Exclusive = codes "exclusive\n"

-- the line of a session that is in configuration mode: its number, its user and its mode
abbrev pub session_line : ℕ → List ℕ → Option Mode → List ℕ
session_line number user None = []
session_line number user (Some mode) = decimal number ++ (codes " " ++ (user ++ (codes " " ++ mode_text mode)))

-- the lines of sessions that are numbered from a number on, in this order
abbrev pub session_lines : ℕ → List Caller → List ℕ
session_lines number [] = []
session_lines number (c ∷ callers) = session_line number c.user c.mode ++ session_lines (number + 1) callers
