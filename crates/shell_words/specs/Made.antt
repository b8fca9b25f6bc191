-- What a form makes of a line. Junos OS CLI User Guide, on the commands of operational and of configuration mode.
use Rattle.std.specs.Prelude.{ℕ, ◌-◌, List, [], ◌∷◌, length, slice_index_or, Bool, if◌then◌else◌, Option, Some, unwrap_or}
use Rattle.commands.specs.declared.command.Command.{Command}
use Rattle.commands.specs.declared.command.Command.TheVariants as command
use Rattle.commands.specs.declared.when.When.{When}
use Rattle.commands.specs.declared.when.When.TheVariants.{Today}
use Rattle.commands.specs.Sound.{IsSound}
use Rattle.commands.specs.Verb.{op_of}
use Rattle.shell_words.specs.declared.form.Confirmed.{Confirmed}
use Rattle.shell_words.specs.declared.form.Confirmed.TheVariants.{No, InTen, InMinutes}
use Rattle.shell_words.specs.declared.form.Makes.{Makes}
use Rattle.shell_words.specs.declared.form.Makes.TheVariants as makes
use Rattle.shell_words.specs.declared.making.Words0.{Words0}
use Rattle.shell_words.specs.declared.making.Words0.TheVariants.{Whole, Synchronize, ShowJson, NeedsText, NeedsJson}
use Rattle.shell_words.specs.Item.{Item}
use Rattle.shell_words.specs.Number.{number_of}
use Rattle.shell_words.specs.Pair.{change_in}
use Rattle.shell_words.specs.Time.{when_of}

-- the number that the first of the words says, or else this one
abbrev pub number_or : ℕ → List (List ℕ) → ℕ
number_or other [] = other
number_or other (word ∷ words) = unwrap_or (number_of word) other

-- the minutes that a commit has for its confirmation; a plain one has none, and where none are given they are ten
abbrev pub minutes_in : Confirmed → List (List ℕ) → ℕ
minutes_in No words = 0
minutes_in InTen words = 10
minutes_in InMinutes words = number_or 10 words

-- the time that the first of the words says, or else midnight
abbrev pub when_in : List (List ℕ) → When
when_in [] = Today 0
when_in (word ∷ words) = unwrap_or (when_of word) (Today 0)

-- the last of the words, where it is a comment
abbrev pub comment_in : Bool → List (List ℕ) → List ℕ
comment_in comment words = if comment then slice_index_or words (length words - 1) [] else []

-- the commit with these options
abbrev pub commit_of : Confirmed → Bool → Bool → List (List ℕ) → Command
commit_of confirmed comment quit words = command.Commit (minutes_in confirmed words) (comment_in comment words) quit

-- what a form makes of a line's tokens, which give these words
abbrev pub made_by : Makes → List Item → List (List ℕ) → Words0
made_by (makes.Configure mode) items words = Whole (command.Configure mode)
made_by (makes.ShowActive form) items words = Whole (command.ShowActive words form)
made_by makes.ShowJson items words = ShowJson
made_by makes.ShowCommits items words = Whole command.ShowCommits
made_by makes.ClearCommit items words = Whole command.ClearCommit
made_by makes.Logout items words = Whole command.Logout
made_by (makes.Change verb) items words = Whole (command.Change (op_of verb words))
made_by (makes.Move mover) items words = Whole (command.Change (change_in mover items))
made_by makes.Edit items words = Whole (command.Edit words)
made_by makes.Up items words = Whole (command.Up (number_or 1 words))
made_by makes.Top items words = Whole command.Top
made_by makes.Exit items words = Whole command.Exit
made_by makes.ExitAll items words = Whole command.ExitAll
made_by (makes.Show form) items words = Whole (command.Show words form)
made_by (makes.Load way) items words = NeedsText way
made_by (makes.LoadJson way) items words = NeedsJson way
made_by makes.Rollback items words = Whole (command.Rollback (number_or 0 words))
made_by makes.CheckOnly items words = Whole command.CheckOnly
made_by (makes.Commit confirmed comment quit) items words = Whole (commit_of confirmed comment quit words)
made_by (makes.Synchronize confirmed comment quit) items words = Synchronize (commit_of confirmed comment quit words)
made_by (makes.CommitAt comment) items words = Whole (command.CommitAt (when_in words) (comment_in comment words))
made_by makes.Update items words = Whole command.Update
made_by makes.Status items words = Whole command.Status

-- where it is a command, or a commit that is synchronized, the command is sound
abbrev pub AsksSound : Option Words0 → Type 0
AsksSound (Some (Whole command)) = IsSound command
AsksSound (Some (Synchronize command)) = IsSound command
AsksSound other = Unit {0}
