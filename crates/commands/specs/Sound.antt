-- The commands that a session may ask. The longest time of a commit confirmed, 65,535 minutes, is that of the Junos OS CLI User Guide, on
-- commit confirmed; which bytes a comment may have is this project's own.
use Rattle.std.specs.Prelude.{◌≤◌}
use Rattle.cfg_lex.specs.Printed.{IsPrintable}
use Rattle.commands.specs.declared.command.Command.{Command}
use Rattle.commands.specs.declared.command.Command.TheVariants.{Commit, CommitAt}
use Rattle.commands.specs.When.{IsTime}

-- a commit's minutes are at most 65,535, a later commit's time is one of a day, before the last moment, and the comment of either
-- is of printing bytes; of any other command nothing is asked
abbrev pub IsSound : Command → Type 0
IsSound (Commit minutes comment quit) = (minutes ≤ 65535) × IsPrintable comment
IsSound (CommitAt when comment) = IsTime when × IsPrintable comment
IsSound other = Unit {0}
