-- The words of the commands. Junos OS CLI User Guide, on the commands of operational and of configuration mode.
use Rattle.std.specs.Prelude.{ℕ, List, codes}
use Rattle.cfg_lex.specs.declared.mark.Mark.TheVariants.{Pipe}
use Rattle.cfg_lex.specs.Mark.{mark_word}
use Rattle.commands.specs.Verb.{keyword}
use Rattle.commands.specs.Mover as movers
use Rattle.shell_words.specs.declared.keyword.Keyword.{Keyword}
use Rattle.shell_words.specs.declared.keyword.Keyword.TheVariants as key

-- the bytes of a word
abbrev pub spelled : Keyword → List ℕ
spelled (key.Change verb) = keyword verb
spelled (key.Move mover) = movers.keyword mover
spelled (key.Mark mover) = movers.mark mover
spelled key.Edit = codes "edit"
spelled key.Up = codes "up"
spelled key.Top = codes "top"
spelled key.Exit = codes "exit"
spelled key.Quit = codes "quit"
spelled key.ConfigurationMode = codes "configuration-mode"
spelled key.Show = codes "show"
spelled key.Commit = codes "commit"
spelled key.Configure = codes "configure"
spelled key.Configuration = codes "configuration"
spelled key.Display = codes "display"
spelled key.Inheritance = codes "inheritance"
spelled key.Json = codes "json"
spelled key.Private = codes "private"
spelled key.Exclusive = codes "exclusive"
spelled key.System = codes "system"
spelled key.Load = codes "load"
spelled key.Merge = codes "merge"
spelled key.Override = codes "override"
spelled key.Replace = codes "replace"
spelled key.Terminal = codes "terminal"
spelled key.Rollback = codes "rollback"
spelled key.Update = codes "update"
spelled key.Status = codes "status"
spelled key.Check = codes "check"
spelled key.Confirmed = codes "confirmed"
spelled key.Comment = codes "comment"
spelled key.AndQuit = codes "and-quit"
spelled key.At = codes "at"
spelled key.Synchronize = codes "synchronize"
spelled key.Clear = codes "clear"
spelled key.Pipe = mark_word Pipe
