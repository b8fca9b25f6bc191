-- The texts of replies. The texts are this project's own; each line ends in an LF.
use Rattle.std.specs.Prelude.{ℕ, Bool, true, false, List, [], ◌∷◌, ◌++◌, ◌==◌, if◌then◌else◌, codes, decimal}
use Rattle.std.specs.List.{join_by}
use Rattle.cfg_base.specs.declared.path.Step.{Step}
use Rattle.access_rules.specs.declared.right.Right.{Right}
use Rattle.access_rules.specs.Rights.{word_of}
use Rattle.commands.specs.declared.command.Mode.{Mode}
use Rattle.commands.specs.declared.command.Mode.TheVariants.{Shared, Private, Exclusive}
use Rattle.commit_ledger.specs.Date.{date_text_at}
use Rattle.commit_ledger.specs.declared.synced.Synced.{Synced}
use Rattle.commit_ledger.specs.declared.synced.Synced.TheVariants.{All, Behind, Alone}
use Rattle.config_core.specs.declared.reply.Refusal.{Refusal}
use Rattle.config_core.specs.declared.reply.Refusal.TheVariants.{WrongMode, Locked, Waiting, Unconfirmed, NotLater, NothingWaits, Modified, Unknown, BadValue, Incomplete, Extra, NotNamed, NotOrdered, NotThere, AlreadyThere, NotALevel, Protected, TooMany, Conflict, TooWide, NoRollback, Line, LineEdit, Check, Exhausted, DiskFault}
use Rattle.config_core.specs.declared.reply.Refusal.TheVariants as refusal
use Rattle.config_core.specs.declared.reply.Reply.{Reply}
use Rattle.config_core.specs.declared.reply.Reply.TheVariants.{Done, LoggedOut, Text, Entered, Left, Loaded, Checked, Committed, Scheduled, ClearedCommit, Refused}
use Rattle.curly_grammar.specs.declared.fault.TextFault.{TextFault}
use Rattle.curly_grammar.specs.declared.fault.TextFault.TheVariants as text
use Rattle.edit_ops.specs.declared.fault.EditFault.{EditFault}
use Rattle.edit_ops.specs.declared.fault.EditFault.TheVariants as edit
use Rattle.cfg_lex.specs.Printed.{printed_word}
use Rattle.json_text.specs.declared.fault.JsonFault.{JsonFault}
use Rattle.json_text.specs.declared.fault.JsonFault.TheVariants as json
use Rattle.reply_text.specs.declared.fault.ShellFault.{ShellFault}
use Rattle.reply_text.specs.declared.fault.ShellFault.TheVariants.{Syntax, LineTooLong, TextTooLong, Json}

-- no bytes
abbrev pub is_empty : List ℕ → Bool
is_empty [] = true
is_empty (b ∷ bytes) = false

-- the words of a step
abbrev pub printed_step : Step → List ℕ
printed_step step =
    if is_empty step.name
    then printed_word step.head
    else (if is_empty step.head then printed_word step.name else printed_word step.head ++ 32 ∷ printed_word step.name)

-- the words of a path, joined by spaces; the top is `top`
abbrev pub printed_path : List Step → List ℕ
printed_path [] = codes "top"
printed_path (step ∷ steps) = join_by printed_step (32 ∷ []) (step ∷ steps)

-- a line of an error
abbrev pub error_line : List ℕ → List ℕ
error_line text = codes "error: " ++ (text ++ 10 ∷ [])

-- what is wrong with a change
abbrev pub message_of_edit : EditFault → List ℕ
message_of_edit (edit.Unknown path) = codes "unknown statement: " ++ printed_path path
message_of_edit (edit.BadValue path) = codes "bad value: " ++ printed_path path
message_of_edit (edit.Incomplete path) = codes "incomplete statement: " ++ printed_path path
message_of_edit (edit.Extra path) = codes "unexpected words after: " ++ printed_path path
message_of_edit (edit.NotNamed path) = codes "statement has no such name: " ++ printed_path path
message_of_edit (edit.NotOrdered path) = codes "statements are not ordered: " ++ printed_path path
message_of_edit (edit.NotThere path) = codes "statement not found: " ++ printed_path path
message_of_edit (edit.AlreadyThere path) = codes "statement already exists: " ++ printed_path path
message_of_edit (edit.Protected path) = codes "statement is protected: " ++ printed_path path
message_of_edit edit.TooMany = codes "more than 16384 statements"
message_of_edit edit.NoMemory = codes "out of memory"

-- what is said of a place of a text
abbrev pub at_byte : ℕ → List ℕ → List ℕ
at_byte place words = codes "text at byte " ++ (decimal place ++ (codes ": " ++ words))

-- what is wrong with a curly text
abbrev pub message_of_text : TextFault → List ℕ
message_of_text (text.BadByte place) = at_byte place (codes "bad byte")
message_of_text (text.OpenComment place) = at_byte place (codes "comment not closed")
message_of_text (text.OpenQuote place) = at_byte place (codes "quote not closed")
message_of_text (text.LongWord place) = at_byte place (codes "word too long")
message_of_text (text.Unexpected place) = at_byte place (codes "unexpected")
message_of_text (text.Unknown place) = at_byte place (codes "unknown statement")
message_of_text (text.BadValue place) = at_byte place (codes "bad value")
message_of_text text.TooMany = codes "more than 16384 statements"
message_of_text text.NoMemory = codes "out of memory"

-- what is wrong with a JSON text
abbrev pub message_of_json : JsonFault → List ℕ
message_of_json json.NotJson = codes "not json"
message_of_json (json.Unknown path) = codes "unknown statement: " ++ printed_path path
message_of_json (json.BadValue path) = codes "bad value: " ++ printed_path path
message_of_json (json.Form path) = codes "wrong form: " ++ printed_path path
message_of_json json.TooMany = codes "more than 16384 statements"

-- what is said of a line of a text begins with its number
abbrev pub in_line : ℕ → List ℕ
in_line line = codes "line " ++ (decimal line ++ codes ": ")

-- why a command was refused
abbrev pub message_of : Refusal → List ℕ
message_of WrongMode = codes "not in this mode"
message_of (Locked user) = codes "configuration database locked by: " ++ user
message_of (Waiting at) = codes "commit pending at " ++ (date_text_at at ++ codes " UTC")
message_of (Unconfirmed deadline) = codes "commit not confirmed, deadline " ++ decimal deadline
message_of (NotLater at moment) = codes "time is not after now"
message_of NothingWaits = codes "no commit pending"
message_of Modified = codes "configuration database modified"
message_of (Unknown path) = message_of_edit (edit.Unknown path)
message_of (BadValue path) = message_of_edit (edit.BadValue path)
message_of (Incomplete path) = message_of_edit (edit.Incomplete path)
message_of (Extra path) = message_of_edit (edit.Extra path)
message_of (NotNamed path) = message_of_edit (edit.NotNamed path)
message_of (NotOrdered path) = message_of_edit (edit.NotOrdered path)
message_of (NotThere path) = message_of_edit (edit.NotThere path)
message_of (AlreadyThere path) = message_of_edit (edit.AlreadyThere path)
message_of (NotALevel path) = codes "not a level: " ++ printed_path path
message_of (Protected path) = message_of_edit (edit.Protected path)
message_of TooMany = message_of_edit edit.TooMany
message_of (Conflict path) = codes "conflicting change: " ++ printed_path path
message_of TooWide = codes "more than 65536 expanded statements"
message_of (NoRollback n kept) = codes "no rollback " ++ (decimal n ++ (codes ", " ++ (decimal kept ++ codes " kept")))
message_of (refusal.Text fault) = message_of_text fault
message_of (Line line place) = in_line line ++ (codes "syntax error at byte " ++ decimal place)
message_of (LineEdit line fault) = in_line line ++ message_of_edit fault
message_of (Check number path) = codes "check C" ++ (decimal number ++ (codes " failed: " ++ printed_path path))
message_of Exhausted = codes "no more entries"
message_of DiskFault = codes "journal write failed"

-- the line of a refusal
abbrev pub text_of_refusal : Refusal → List ℕ
text_of_refusal refusal = error_line (message_of refusal)

-- a commit that is to be confirmed says how long that may take
abbrev pub deadline_text : ℕ → List ℕ
deadline_text minutes =
    if minutes == 0
    then []
    else codes "commit confirmed will be automatically rolled back in " ++ (decimal minutes ++ codes " minutes unless confirmed\n")

-- a commit that leaves configuration mode says so
abbrev pub complete_text : Bool → List ℕ
complete_text true = codes "commit complete\nExiting configuration mode\n"
complete_text false = codes "commit complete\n"

-- who edits alone, or a candidate of its own, is told that what isn't committed will be discarded
abbrev pub text_of_entry : Mode → List ℕ
text_of_entry Shared = codes "Entering configuration mode\n"
text_of_entry Private = codes "warning: uncommitted changes will be discarded on exit\nEntering configuration mode\n"
text_of_entry Exclusive = codes "warning: uncommitted changes will be discarded on exit\nEntering configuration mode\n"

-- what is written of a reply
abbrev pub text_of_reply : Reply → List ℕ
text_of_reply Done = []
text_of_reply LoggedOut = []
text_of_reply (Text bytes) = bytes
text_of_reply (Entered mode) = text_of_entry mode
text_of_reply Left = codes "Exiting configuration mode\n"
text_of_reply Loaded = codes "load complete\n"
text_of_reply Checked = codes "configuration check succeeds\n"
text_of_reply (Committed minutes quit) = deadline_text minutes ++ complete_text quit
text_of_reply (Scheduled at) = codes "commit at " ++ (date_text_at at ++ codes " UTC scheduled\n")
text_of_reply ClearedCommit = codes "pending commit cleared\n"
text_of_reply (Refused refusal) = text_of_refusal refusal

-- what is written behind the text of a commit that is synchronized: what is known of the backup's list
abbrev pub text_of_synced : Synced → List ℕ
text_of_synced (All count) = codes "backup synchronized\n"
text_of_synced (Behind acknowledged count) =
    codes "warning: backup has " ++ (decimal acknowledged ++ (codes " of " ++ (decimal count ++ codes " entries\n")))
text_of_synced Alone = codes "warning: no backup engine\n"

-- what is written for a line that was refused without a turn
abbrev pub text_of_fault : ShellFault → List ℕ
text_of_fault (Syntax place) = error_line (codes "syntax error at byte " ++ decimal place)
text_of_fault LineTooLong = error_line (codes "line too long")
text_of_fault TextTooLong = error_line (codes "text too long")
text_of_fault (Json fault) = error_line (codes "json: " ++ message_of_json fault)

-- what is written of a command that its user lacks a right for
abbrev pub text_of_denial : Right → List ℕ
text_of_denial right = error_line (codes "permission denied: " ++ word_of right)

-- what is written of a command for which a disk failed before it was asked: the reply's text to one that a disk failed for
abbrev pub unready_text : List ℕ
unready_text = text_of_reply (Refused DiskFault)

-- what is written for want of memory
abbrev pub no_memory_text : List ℕ
no_memory_text = error_line (codes "out of memory")
