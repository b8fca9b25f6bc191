-- What a session's items came to, one by one. The rules are this project's own.
use Rattle.std.specs.Prelude.{ℕ, List, ◌++◌, Bool, true, false, if◌then◌else◌, Option, None, Some}
use Rattle.access_rules.specs.declared.right.Right.{Right}
use Rattle.commands.specs.declared.command.Command.{Command}
use Rattle.config_core.specs.declared.reply.Reply.{Reply}
use Rattle.config_core.specs.declared.reply.Reply.TheVariants.{Done, LoggedOut, Text, Entered, Left}
use Rattle.config_core.specs.declared.reply.Reply.TheVariants.{Loaded, Checked, Committed, Scheduled, ClearedCommit, Refused as Declined}
use Rattle.reply_text.specs.declared.fault.ShellFault.{ShellFault}
use Rattle.reply_text.specs.Texts.{text_of_denial, text_of_fault, text_of_reply, text_of_synced, no_memory_text, unready_text}
use Rattle.session_shell.specs.declared.door.Given0.{Given0}
use Rattle.session_shell.specs.declared.door.Given0.TheVariants.{Kept, Seen, Denied, Unready, NoMemory}
use Rattle.session_shell.specs.declared.door.SyncedTurn.{SyncedTurn}
use Rattle.session_shell.specs.declared.door.SyncedTurn.TheVariants as sync
use Rattle.session_shell.specs.declared.json_show.Manner.{Manner}
use Rattle.session_shell.specs.declared.json_show.Manner.TheVariants.{Plain, Json, Dry, NoJson, Synchronized, NoCommit}
use Rattle.session_shell.specs.declared.reading.Item.{Item}
use Rattle.session_shell.specs.declared.reading.Item.TheVariants.{Ask, Synchronize, ShowJson, Wrong}
use Rattle.session_shell.specs.declared.reading.Item.TheVariants as item
use Rattle.session_shell.specs.declared.reading.Reading.{Reading}
use Rattle.session_shell.specs.declared.reading.Reading.TheVariants.{Operational, Configuring, Out}
use Rattle.session_shell.specs.declared.turn.Turn.{Turn}
use Rattle.session_shell.specs.declared.turn.Turn.TheVariants as turn
use Rattle.session_shell.specs.Json.{MayBeWritten}

-- the event's place of what was given
abbrev pub place_of : Given0 → Option ℕ
place_of (Kept place reply) = Some place
place_of (Seen front reply) = None
place_of (Denied front right) = None
place_of (Unready front) = None
place_of NoMemory = None

-- on what an answer rests where no event was made, each with how many entries the list of commits had: on a snapshot of the list,
-- on the right that is lacking, or on the fault of a disk
pub data Basis : Type 0 where
  Snapshot : (front : ℕ) → Basis
  Lack : (front : ℕ) (right : Right) → Basis
  Failure : (front : ℕ) → Basis

-- that of what was given
abbrev pub basis_of : Given0 → Option Basis
basis_of (Kept place reply) = None
basis_of (Seen front reply) = Some (Snapshot front)
basis_of (Denied front right) = Some (Lack front right)
basis_of (Unready front) = Some (Failure front)
basis_of NoMemory = None

-- an item with the clock's answer that it took: the command, what the door gave for it, and how that is written; or the fault for
-- which it was refused; or want of memory, before anything was asked
pub data Exchange : Type 0 where
  Asked : (moment : ℕ) (command : Command) (given : Given0) (manner : Manner) → Exchange
  Refused : (moment : ℕ) (fault : ShellFault) → Exchange
  Wanted : (moment : ℕ) → Exchange

-- the answer of the clock that an item took
abbrev pub moment_in : Exchange → ℕ
moment_in (Asked moment command given manner) = moment
moment_in (Refused moment fault) = moment
moment_in (Wanted moment) = moment

-- the item for which a command is asked whose answer is written so
abbrev pub asked_item : Manner → Command → Item
asked_item Plain command = Ask command
asked_item (Json text) command = ShowJson
asked_item Dry command = ShowJson
asked_item NoJson command = ShowJson
asked_item (Synchronized synced) command = Synchronize command
asked_item NoCommit command = Synchronize command

-- the item itself
abbrev pub item_asked : Exchange → Item
item_asked (Asked moment command given manner) = asked_item manner command
item_asked (Refused moment fault) = Wrong fault
item_asked (Wanted moment) = item.NoMemory

-- what was given for an item is written as it may be
abbrev pub IsWrittenIn : Exchange → Type 0
IsWrittenIn (Asked moment command given manner) = MayBeWritten command given manner
IsWrittenIn (Refused moment fault) = Unit {0}
IsWrittenIn (Wanted moment) = Unit {0}

-- memory for JSON was wanting
abbrev pub is_dry : Manner → Bool
is_dry Plain = false
is_dry (Json text) = false
is_dry Dry = true
is_dry NoJson = false
is_dry (Synchronized synced) = false
is_dry NoCommit = false

-- the turn of an event, by how its reply is written
abbrev pub kept_turn : Manner → ℕ → Turn
kept_turn Plain place = turn.Kept place
kept_turn (Json text) place = turn.Kept place
kept_turn Dry place = turn.KeptDry place
kept_turn NoJson place = turn.Kept place
kept_turn (Synchronized synced) place = turn.KeptSynced place synced
kept_turn NoCommit place = turn.Kept place

abbrev pub seen_turn : Bool → ℕ → ℕ → Turn
seen_turn dry front moment = if dry then turn.SeenDry front moment else turn.Seen front moment

-- the turn that stands for what was given at a moment
abbrev pub turn_of_given : Manner → ℕ → Given0 → Turn
turn_of_given manner moment (Kept place reply) = kept_turn manner place
turn_of_given manner moment (Seen front reply) = seen_turn (is_dry manner) front moment
turn_of_given manner moment (Denied front right) = turn.Denied front right moment
turn_of_given manner moment (Unready front) = turn.Unready front moment
turn_of_given manner moment NoMemory = turn.NoMemory

-- the turn that stands for an item
abbrev pub turn_taken : Exchange → Turn
turn_taken (Asked moment command given manner) = turn_of_given manner moment given
turn_taken (Refused moment fault) = turn.Local fault
turn_taken (Wanted moment) = turn.NoMemory

-- the text of what was given
abbrev pub text_of_given : Given0 → List ℕ
text_of_given (Kept place reply) = text_of_reply reply
text_of_given (Seen front reply) = text_of_reply reply
text_of_given (Denied front right) = text_of_denial right
text_of_given (Unready front) = unready_text
text_of_given NoMemory = no_memory_text

-- the line of an answer to `synchronize`
abbrev pub text_of_synced_turn : SyncedTurn → List ℕ
text_of_synced_turn (sync.Synced synced) = text_of_synced synced
text_of_synced_turn sync.NoMemory = no_memory_text

-- the text of what was given, by how it is written
abbrev pub text_by : Manner → Given0 → List ℕ
text_by Plain given = text_of_given given
text_by (Json text) given = text
text_by Dry given = no_memory_text
text_by NoJson given = text_of_given given
text_by (Synchronized synced) given = text_of_given given ++ text_of_synced_turn synced
text_by NoCommit given = text_of_given given

-- the text that answers an item
abbrev pub text_written : Exchange → List ℕ
text_written (Asked moment command given manner) = text_by manner given
text_written (Refused moment fault) = text_of_fault fault
text_written (Wanted moment) = no_memory_text

-- how a session reads on after a reply
abbrev pub after_reply : Reading → Reply → Reading
after_reply reading Done = reading
after_reply reading LoggedOut = Out
after_reply reading (Text bytes) = reading
after_reply reading (Entered mode) = Configuring
after_reply reading Left = Operational
after_reply reading Loaded = reading
after_reply reading Checked = reading
after_reply reading (Committed minutes quit) = if quit then Operational else reading
after_reply reading (Scheduled at) = reading
after_reply reading ClearedCommit = reading
after_reply reading (Declined refusal) = reading

-- how a session reads on after what was given; where no event was made nobody moves
abbrev pub after_given : Reading → Given0 → Reading
after_given reading (Kept place reply) = after_reply reading reply
after_given reading (Seen front reply) = reading
after_given reading (Denied front right) = reading
after_given reading (Unready front) = reading
after_given reading NoMemory = reading

-- how a session reads on after an item
abbrev pub reading_after : Reading → Exchange → Reading
reading_after reading (Asked moment command given manner) = after_given reading given
reading_after reading (Refused moment fault) = reading
reading_after reading (Wanted moment) = reading
