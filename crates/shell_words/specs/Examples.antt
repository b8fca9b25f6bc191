-- What lines ask, by example, at least one of each form; and lines that are refused, with the place of their fault.
-- Junos OS CLI User Guide, on the commands of operational and of configuration mode; the places of faults are this project's own.
use Prim.Native.String.{String}
use Rattle.std.specs.Prelude.{ℕ, List, [], ◌∷◌, ◌++◌, map, codes, Bool, true, false, Option, None, Some, Result, Ok, Err}
use Rattle.std.specs.List.{Contains}
use Rattle.commands.specs.declared.command.Command.{Command}
use Rattle.commands.specs.declared.command.Command.TheVariants as command
use Rattle.commands.specs.declared.command.Form.TheVariants.{Curly, SetLines, Inherited}
use Rattle.commands.specs.declared.command.LoadWay.{LoadWay}
use Rattle.commands.specs.declared.command.LoadWay.TheVariants as load
use Rattle.commands.specs.declared.command.Mode.TheVariants as mode
use Rattle.commands.specs.declared.command.Op.{Op}
use Rattle.commands.specs.declared.command.Op.TheVariants as op
use Rattle.commands.specs.declared.when.When.TheVariants.{Today, OnDay}
use Rattle.cfg_lex.specs.declared.token.Token.{Token}
use Rattle.cfg_lex.specs.Tokens.{IsCut}
use Rattle.shell_words.specs.declared.form.CommandForm.{CommandForm}
use Rattle.shell_words.specs.declared.making.Words0.{Words0}
use Rattle.shell_words.specs.declared.making.Words0.TheVariants.{Whole, Synchronize, ShowJson, NeedsText, NeedsJson}
use Rattle.shell_words.specs.Item.{item_in}
use Rattle.shell_words.specs.Form.{IsIn}
use Rattle.shell_words.specs.Reading.{IsReading}

-- a line, and what it asks
pub record Example : Type 0 where
  pub line : List ℕ
  pub asked : Result (Option Words0) ℕ

-- a line that is this command
abbrev pub asks : String → Command → Example
asks line command = record { line = codes line; asked = Ok (Some (Whole command)) }

-- a line that is this commit, which is synchronized
abbrev pub synchronizes : String → Command → Example
synchronizes line command = record { line = codes line; asked = Ok (Some (Synchronize command)) }

-- a line that is this change
abbrev pub changes : String → Op → Example
changes line change = asks line (command.Change change)

-- a line that is a load of the text after it
abbrev pub loads : String → LoadWay → Example
loads line way = record { line = codes line; asked = Ok (Some (NeedsText way)) }

-- a line that is a show of the whole active configuration as JSON
abbrev pub shows_json : String → Example
shows_json line = record { line = codes line; asked = Ok (Some ShowJson) }

-- a line that is a load of the JSON text after it
abbrev pub loads_json : String → LoadWay → Example
loads_json line way = record { line = codes line; asked = Ok (Some (NeedsJson way)) }

-- a line that is refused at this byte
abbrev pub refused : String → ℕ → Example
refused line place = record { line = codes line; asked = Err place }

-- a line that asks nothing
abbrev pub nothing : String → Example
nothing line = record { line = codes line; asked = Ok None }

-- the words of a statement
abbrev pub words : List String → List (List ℕ)
words texts = map codes texts

-- lines of operational mode
abbrev pub operational : List Example
operational =
    nothing ""
    ∷ asks "configure" (command.Configure mode.Shared)
    ∷ asks "configure private" (command.Configure mode.Private)
    ∷ asks "configure exclusive" (command.Configure mode.Exclusive)
    ∷ asks "show configuration" (command.ShowActive [] Curly)
    ∷ asks "show configuration interfaces ge-0/0/0" (command.ShowActive (words ("interfaces" ∷ "ge-0/0/0" ∷ [])) Curly)
    ∷ asks "show configuration | display set" (command.ShowActive [] SetLines)
    ∷ asks "show configuration interfaces | display set" (command.ShowActive (words ("interfaces" ∷ [])) SetLines)
    ∷ asks "show configuration | display inheritance" (command.ShowActive [] Inherited)
    ∷ asks "show configuration interfaces | display inheritance" (command.ShowActive (words ("interfaces" ∷ [])) Inherited)
    ∷ shows_json "show configuration | display json"
    ∷ shows_json "show configuration | display \"json\""
    ∷ asks "show configuration \"|\" display json" (command.ShowActive (words ("|" ∷ "display" ∷ "json" ∷ [])) Curly)
    ∷ refused "show configuration interfaces | display json" 40
    ∷ refused "show configuration | display json interfaces" 34
    ∷ refused "show configuration | json" 21
    ∷ asks "show system commit" command.ShowCommits
    ∷ asks "clear system commit" command.ClearCommit
    ∷ refused "clear system" 12
    ∷ refused "clear commit" 6
    ∷ refused "clear system commit at" 20
    ∷ asks "exit" command.Logout
    ∷ asks "quit" command.Logout
    ∷ refused "set system" 0
    ∷ refused "configure shared" 10
    ∷ refused "show" 4
    ∷ refused "show system" 11
    ∷ refused "show | display set" 5
    ∷ refused "exit configuration-mode" 5
    ∷ []

-- lines of configuration mode that change statements
abbrev pub changing : List Example
changing =
    changes "set interfaces" (op.Set (words ("interfaces" ∷ [])))
    ∷ changes "set system host-name r1" (op.Set (words ("system" ∷ "host-name" ∷ "r1" ∷ [])))
    ∷ changes "set apply-groups [ a b ]" (op.Set (words ("apply-groups" ∷ "a" ∷ "b" ∷ [])))
    ∷ changes "set [ interfaces ]" (op.Set (words ("interfaces" ∷ [])))
    ∷ changes "delete interfaces" (op.Delete (words ("interfaces" ∷ [])))
    ∷ changes "delete system host-name" (op.Delete (words ("system" ∷ "host-name" ∷ [])))
    ∷ changes "delete apply-groups [ a b ]" (op.Delete (words ("apply-groups" ∷ "a" ∷ "b" ∷ [])))
    ∷ changes "activate interfaces" (op.Activate (words ("interfaces" ∷ [])))
    ∷ changes "activate interfaces ge-0/0/0" (op.Activate (words ("interfaces" ∷ "ge-0/0/0" ∷ [])))
    ∷ changes "deactivate interfaces" (op.Deactivate (words ("interfaces" ∷ [])))
    ∷ changes "deactivate interfaces ge-0/0/0" (op.Deactivate (words ("interfaces" ∷ "ge-0/0/0" ∷ [])))
    ∷ changes "protect interfaces" (op.Protect (words ("interfaces" ∷ [])))
    ∷ changes "protect interfaces ge-0/0/0" (op.Protect (words ("interfaces" ∷ "ge-0/0/0" ∷ [])))
    ∷ changes "unprotect interfaces" (op.Unprotect (words ("interfaces" ∷ [])))
    ∷ changes "unprotect interfaces ge-0/0/0" (op.Unprotect (words ("interfaces" ∷ "ge-0/0/0" ∷ [])))
    ∷ changes "rename a to b" (op.Rename (words ("a" ∷ [])) (words ("b" ∷ [])))
    ∷ changes "rename groups a to b to c" (op.Rename (words ("groups" ∷ "a" ∷ [])) (words ("b" ∷ "to" ∷ "c" ∷ [])))
    ∷ changes "rename \"to\" to b" (op.Rename (words ("to" ∷ [])) (words ("b" ∷ [])))
    ∷ changes "copy a to b" (op.Copy (words ("a" ∷ [])) (words ("b" ∷ [])))
    ∷ changes "copy groups a to b to c" (op.Copy (words ("groups" ∷ "a" ∷ [])) (words ("b" ∷ "to" ∷ "c" ∷ [])))
    ∷ changes "insert a before b" (op.Insert (words ("a" ∷ [])) true (words ("b" ∷ [])))
    ∷ changes "insert groups a before b after c" (op.Insert (words ("groups" ∷ "a" ∷ [])) true (words ("b" ∷ "after" ∷ "c" ∷ [])))
    ∷ changes "insert a after b" (op.Insert (words ("a" ∷ [])) false (words ("b" ∷ [])))
    ∷ changes "insert groups a after b before c" (op.Insert (words ("groups" ∷ "a" ∷ [])) false (words ("b" ∷ "before" ∷ "c" ∷ [])))
    ∷ refused "set" 3
    ∷ refused "set apply-groups [ ]" 19
    ∷ refused "activate [ interfaces ]" 9
    ∷ refused "rename a" 8
    ∷ refused "rename to b" 7
    ∷ refused "copy a before b" 15
    ∷ refused "insert a to b" 13
    ∷ []

-- lines of configuration mode that move between levels, show statements, load a text or bring one back
abbrev pub moving : List Example
moving =
    nothing ""
    ∷ asks "edit interfaces" (command.Edit (words ("interfaces" ∷ [])))
    ∷ asks "edit interfaces ge-0/0/0" (command.Edit (words ("interfaces" ∷ "ge-0/0/0" ∷ [])))
    ∷ refused "edit" 4
    ∷ asks "up" (command.Up 1)
    ∷ asks "up 1" (command.Up 1)
    ∷ asks "up 2" (command.Up 2)
    ∷ asks "up 4294967295" (command.Up 4294967295)
    ∷ refused "up 0" 3
    ∷ refused "up 4294967296" 3
    ∷ asks "top" command.Top
    ∷ asks "exit" command.Exit
    ∷ asks "quit" command.Exit
    ∷ asks "exit configuration-mode" command.ExitAll
    ∷ refused "quit configuration-mode" 5
    ∷ asks "show" (command.Show [] Curly)
    ∷ asks "show interfaces ge-0/0/0" (command.Show (words ("interfaces" ∷ "ge-0/0/0" ∷ [])) Curly)
    ∷ asks "show \"|\" display set" (command.Show (words ("|" ∷ "display" ∷ "set" ∷ [])) Curly)
    ∷ asks "show | display set" (command.Show [] SetLines)
    ∷ asks "show interfaces | display set" (command.Show (words ("interfaces" ∷ [])) SetLines)
    ∷ asks "show | display inheritance" (command.Show [] Inherited)
    ∷ asks "show interfaces | display inheritance" (command.Show (words ("interfaces" ∷ [])) Inherited)
    ∷ refused "show | count" 7
    ∷ loads "load merge terminal" load.Merge
    ∷ loads "load override terminal" load.Override
    ∷ loads "load replace terminal" load.Replace
    ∷ loads "load set terminal" load.SetLines
    ∷ refused "load merge" 10
    ∷ loads_json "load json merge terminal" load.Merge
    ∷ loads_json "load json override terminal" load.Override
    ∷ refused "load json replace terminal" 10
    ∷ refused "load json set terminal" 10
    ∷ refused "load json terminal" 10
    ∷ refused "load merge json terminal" 11
    ∷ refused "show | display json" 15
    ∷ asks "rollback" (command.Rollback 0)
    ∷ asks "rollback 0" (command.Rollback 0)
    ∷ asks "rollback 1" (command.Rollback 1)
    ∷ asks "rollback 49" (command.Rollback 49)
    ∷ asks "rollback 4294967295" (command.Rollback 4294967295)
    ∷ refused "rollback 4294967296" 9
    ∷ asks "update" command.Update
    ∷ asks "status" command.Status
    ∷ refused "configure" 0
    ∷ []

-- lines of configuration mode that commit
abbrev pub committing : List Example
committing =
    asks "commit check" command.CheckOnly
    ∷ refused "commit check and-quit" 13
    ∷ asks "commit" (command.Commit 0 [] false)
    ∷ asks "commit and-quit" (command.Commit 0 [] true)
    ∷ asks "commit comment fix" (command.Commit 0 (codes "fix") false)
    ∷ asks "commit comment \"and-quit\"" (command.Commit 0 (codes "and-quit") false)
    ∷ asks "commit comment fix and-quit" (command.Commit 0 (codes "fix") true)
    ∷ asks "commit confirmed" (command.Commit 10 [] false)
    ∷ asks "commit confirmed and-quit" (command.Commit 10 [] true)
    ∷ asks "commit confirmed comment fix" (command.Commit 10 (codes "fix") false)
    ∷ asks "commit confirmed comment fix and-quit" (command.Commit 10 (codes "fix") true)
    ∷ asks "commit confirmed 1" (command.Commit 1 [] false)
    ∷ asks "commit confirmed 65535" (command.Commit 65535 [] false)
    ∷ asks "commit confirmed 1 and-quit" (command.Commit 1 [] true)
    ∷ asks "commit confirmed 65535 and-quit" (command.Commit 65535 [] true)
    ∷ asks "commit confirmed 1 comment fix" (command.Commit 1 (codes "fix") false)
    ∷ asks "commit confirmed 65535 comment fix" (command.Commit 65535 (codes "fix") false)
    ∷ asks "commit confirmed 1 comment fix and-quit" (command.Commit 1 (codes "fix") true)
    ∷ asks "commit confirmed 65535 comment fix and-quit" (command.Commit 65535 (codes "fix") true)
    ∷ synchronizes "commit synchronize" (command.Commit 0 [] false)
    ∷ synchronizes "commit synchronize and-quit" (command.Commit 0 [] true)
    ∷ synchronizes "commit synchronize comment fix" (command.Commit 0 (codes "fix") false)
    ∷ synchronizes "commit synchronize comment fix and-quit" (command.Commit 0 (codes "fix") true)
    ∷ synchronizes "commit synchronize confirmed" (command.Commit 10 [] false)
    ∷ synchronizes "commit synchronize confirmed and-quit" (command.Commit 10 [] true)
    ∷ synchronizes "commit synchronize confirmed comment fix" (command.Commit 10 (codes "fix") false)
    ∷ synchronizes "commit synchronize confirmed comment fix and-quit" (command.Commit 10 (codes "fix") true)
    ∷ synchronizes "commit synchronize confirmed 65535" (command.Commit 65535 [] false)
    ∷ synchronizes "commit synchronize confirmed 1 and-quit" (command.Commit 1 [] true)
    ∷ synchronizes "commit synchronize confirmed 1 comment fix" (command.Commit 1 (codes "fix") false)
    ∷ synchronizes "commit synchronize confirmed 65535 comment fix and-quit" (command.Commit 65535 (codes "fix") true)
    ∷ asks "commit comment synchronize" (command.Commit 0 (codes "synchronize") false)
    ∷ refused "commit synchronize check" 19
    ∷ refused "commit synchronize at 00:17" 19
    ∷ refused "commit synchronize synchronize" 19
    ∷ refused "commit synchronize confirmed 65536" 29
    ∷ refused "commit synchronize comment" 26
    ∷ refused "commit check synchronize" 13
    ∷ refused "commit confirmed synchronize" 17
    ∷ refused "commit and-quit synchronize" 16
    ∷ asks "commit at 00:17" (command.CommitAt (Today 1020) [])
    ∷ asks "commit at 00:17:00" (command.CommitAt (Today 1020) [])
    ∷ asks "commit at 23:59:59" (command.CommitAt (Today 86399) [])
    ∷ asks "commit at 00:00 comment fix" (command.CommitAt (Today 0) (codes "fix"))
    ∷ asks "commit at \"00:00\" comment \"fix it\"" (command.CommitAt (Today 0) (codes "fix it"))
    ∷ asks "commit at \"1970-01-02 00:17\"" (command.CommitAt (OnDay 1 1020) [])
    ∷ asks "commit at \"2000-02-29 00:00:01\" comment fix" (command.CommitAt (OnDay 11016 1) (codes "fix"))
    ∷ asks "commit at \"9998-12-31 23:59:59\"" (command.CommitAt (OnDay 2932531 86399) [])
    ∷ refused "commit at" 9
    ∷ refused "commit at 24:00" 10
    ∷ refused "commit at 23:60" 10
    ∷ refused "commit at 23:59:60" 10
    ∷ refused "commit at 0:17" 10
    ∷ refused "commit at 00-17" 10
    ∷ refused "commit at \"1969-12-31 00:17\"" 10
    ∷ refused "commit at \"9999-01-01 00:17\"" 10
    ∷ refused "commit at \"2001-02-29 00:17\"" 10
    ∷ refused "commit at \"2000-13-01 00:17\"" 10
    ∷ refused "commit at 2000-02-29 00:17" 10
    ∷ refused "commit at \"2000-02-29\"" 10
    ∷ refused "commit at 00:17 and-quit" 16
    ∷ refused "commit at 00:17 comment fix and-quit" 28
    ∷ refused "commit at comment fix" 10
    ∷ refused "commit confirmed 0" 17
    ∷ refused "commit confirmed 65536" 17
    ∷ refused "commit comment" 14
    ∷ refused "commit and-quit comment fix" 16
    ∷ []

-- the examples of configuration mode, or of operational mode
abbrev pub examples : Bool → List Example
examples true = changing ++ (moving ++ committing)
examples false = operational

-- the line asks what its example says
abbrev pub IsShown : Bool → Example → Type 0
IsShown configuring example = IsReading configuring example.line example.asked

-- the line of an example is of this form
pub record HasExample (configuring : Bool) (form : CommandForm) : Type 0 where
  pub example : Example
  pub listed : Contains (examples configuring) example
  pub tokens : List Token
  pub cut : IsCut example.line tokens None
  pub given : List (List ℕ)
  pub is_in : IsIn configuring (map (item_in example.line) tokens) form given
