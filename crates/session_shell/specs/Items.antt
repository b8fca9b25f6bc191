-- The items of an input: what its lines ask, each read as the replies before it leave the session.
-- A `load` line, the lines of its text and the line 0x04 that ends them are one item. A JSON text is the load of the curly text of
-- what it says. Junos OS CLI User Guide, on load and its
-- `terminal`, which a ^D ends; the limits and which fault decides are this project's own.
use Rattle.std.specs.Prelude.{◌≡◌, ◌⊎◌, ℕ, List, [], ◌∷◌, ◌++◌, length, Bool, true, false, if◌then◌else◌, nat_eq, nat_lt, MatchBool}
use Rattle.std.specs.Prelude.{Option, None, Some, Result, Ok, Err}
use Rattle.std.specs.Cmp.Lexicographic.{pointwise}
use Rattle.cfg_tree.specs.Statements.{Statements}
use Rattle.commands.specs.Sound.{IsSound}
use Rattle.commands.specs.declared.command.Command.TheVariants.{Load}
use Rattle.commands.specs.declared.command.LoadWay.{LoadWay}
use Rattle.curly_print.specs.Printed.{printed}
use Rattle.io_edge.specs.declared.lines.Line.{Line}
use Rattle.io_edge.specs.declared.lines.Line.TheVariants.{Text, TooLong, End, Failed, InputFull}
use Rattle.json_text.specs.declared.fault.JsonFault.{JsonFault}
use Rattle.json_text.specs.Reading.{IsReadAs, IsTextFault}
use Rattle.shell_words.specs.declared.making.Words0.{Words0}
use Rattle.shell_words.specs.declared.making.Words0.TheVariants.{Whole, NeedsText, NeedsJson}
use Rattle.shell_words.specs.declared.making.Words0.TheVariants as words0
use Rattle.shell_words.specs.Reading.{IsReading}
use Rattle.reply_text.specs.declared.fault.ShellFault.TheVariants.{Syntax, LineTooLong, TextTooLong, Json}
use Rattle.session_shell.specs.declared.reading.TheConstants.{TEXT_LIMIT}
use Rattle.session_shell.specs.declared.reading.Item.{Item}
use Rattle.session_shell.specs.declared.reading.Item.TheVariants.{Ask, Synchronize, ShowJson, Wrong, NoMemory}
use Rattle.session_shell.specs.declared.reading.Reading.{Reading}
use Rattle.session_shell.specs.declared.reading.Reading.TheVariants.{Operational, Configuring, Collecting, Spoilt, Out}
use Rattle.session_shell.specs.Exchange.{Exchange, item_asked, reading_after}

-- a command that an item asks is sound
abbrev pub AsksSound : Option Item → Type 0
AsksSound None = Unit {0}
AsksSound (Some (Ask command)) = IsSound command
AsksSound (Some (Synchronize command)) = IsSound command
AsksSound (Some ShowJson) = Unit {0}
AsksSound (Some (Wrong fault)) = Unit {0}
AsksSound (Some NoMemory) = Unit {0}

-- what a line asks that was read: an item, the text of a load, which is collected from then on, or nothing
abbrev pub asked_by : Reading → Result (Option Words0) ℕ → Option Item × Reading
asked_by reading (Ok None) = (None, reading)
asked_by reading (Ok (Some (Whole command))) = (Some (Ask command), reading)
asked_by reading (Ok (Some (words0.Synchronize command))) = (Some (Synchronize command), reading)
asked_by reading (Ok (Some words0.ShowJson)) = (Some ShowJson, reading)
asked_by reading (Ok (Some (NeedsText way))) = (None, Collecting way false [])
asked_by reading (Ok (Some (NeedsJson way))) = (None, Collecting way true [])
asked_by reading (Err place) = (Some (Wrong (Syntax place)), reading)

-- the line is a command line of that mode, and this results from it
pub record CommandLine (configuring : Bool) (reading : Reading) (line : List ℕ) (came : Option Item × Reading) : Type 0 where
  pub answer : Result (Option Words0) ℕ
  pub is_reading : IsReading configuring line answer
  pub is : came ≡ asked_by reading answer

-- the line holds the byte 0x04 alone
abbrev pub is_end_of_text : List ℕ → Bool
is_end_of_text line = pointwise nat_eq line (4 ∷ [])

-- a text goes on to be collected, unless it is too long
abbrev pub within_limit : LoadWay → Bool → List ℕ → Reading
within_limit way json text = if nat_lt TEXT_LIMIT (length text) then Spoilt TextTooLong else Collecting way json text

-- a text with one more line, which is followed by an LF
abbrev pub with_line : Reading → List ℕ → Reading
with_line (Collecting way json text) line = within_limit way json (text ++ (line ++ 10 ∷ []))
with_line reading line = reading

-- the load of a configuration, by its curly text; or memory for that was wanting
abbrev pub IsLoadOf : LoadWay → Statements → Item → Type 0
IsLoadOf way statements item = (item ≡ Ask (Load way (printed statements []))) ⊎ (item ≡ NoMemory)

-- a JSON text says a configuration, and is the load of that
pub record SaysLoad (way : LoadWay) (text : List ℕ) (item : Item) : Type 0 where
  pub statements : Statements
  pub read : IsReadAs text statements
  pub load : IsLoadOf way statements item

-- a JSON text has a fault, for which its load is refused
pub record HasFault (text : List ℕ) (item : Item) : Type 0 where
  pub fault : JsonFault
  pub has : IsTextFault text fault
  pub is : item ≡ Wrong (Json fault)

-- the item of a JSON text that has ended; or memory was wanting to read it
abbrev pub EndsJson : LoadWay → List ℕ → Item → Type 0
EndsJson way text item = SaysLoad way text item ⊎ (HasFault text item ⊎ (item ≡ NoMemory))

-- the item of a text that has ended
abbrev pub EndsText : LoadWay → Bool → List ℕ → Item → Type 0
EndsText way false text item = item ≡ Ask (Load way text)
EndsText way true text item = EndsJson way text item

-- what results from the end of a text
pub record Ended (way : LoadWay) (json : Bool) (text : List ℕ) (came : Option Item × Reading) : Type 0 where
  pub item : Item
  pub ends : EndsText way json text item
  pub is : came ≡ (Some item, Configuring)

-- what results from a line of a text: its load, where the line ends it
abbrev pub TextLine : LoadWay → Bool → List ℕ → List ℕ → Option Item × Reading → Type 0
TextLine way json text line came =
    MatchBool (is_end_of_text line) (Ended way json text came) (came ≡ (None, with_line (Collecting way json text) line))

-- what results from a line of a text that had a fault: the fault, where the line ends the text
abbrev pub spoilt_line : Reading → Item → List ℕ → Option Item × Reading
spoilt_line reading item line = if is_end_of_text line then (Some item, Configuring) else (None, reading)

-- what results from a line: the item that it ends, if it does, and how the session reads on before any reply
abbrev pub ComesOf : Reading → Line → Option Item × Reading → Type 0
ComesOf Operational (Text line) came = CommandLine false Operational line came
ComesOf Operational TooLong came = came ≡ (Some (Wrong LineTooLong), Operational)
ComesOf Configuring (Text line) came = CommandLine true Configuring line came
ComesOf Configuring TooLong came = came ≡ (Some (Wrong LineTooLong), Configuring)
ComesOf (Collecting way json text) (Text line) came = TextLine way json text line came
ComesOf (Collecting way json text) TooLong came = came ≡ (None, Spoilt LineTooLong)
ComesOf (Collecting way json text) End came = Ended way json text came
ComesOf (Spoilt fault) (Text line) came = came ≡ spoilt_line (Spoilt fault) (Wrong fault) line
ComesOf (Spoilt fault) TooLong came = came ≡ (None, Spoilt fault)
ComesOf (Spoilt fault) End came = came ≡ (Some (Wrong fault), Configuring)
ComesOf reading line came = came ≡ (None, reading)

-- a session that is logged out reads no line, and none is read where no line came
abbrev pub ReadsLine : Reading → Line → Type 0
ReadsLine Out line = ⊥
ReadsLine reading Failed = ⊥
ReadsLine reading InputFull = ⊥
ReadsLine reading line = Unit {0}

-- the item that a line ended came to the first of the exchanges; a line that ends none came to nothing
abbrev pub Continues : (Reading → List Exchange → Type 0) → Option Item × Reading → List Exchange → Type 0
Continues Rest (None, next) exchanges = Rest next exchanges
Continues Rest (Some item, next) [] = ⊥
Continues Rest (Some item, next) (first ∷ exchanges) = (item_asked first ≡ item) × Rest (reading_after next first) exchanges

-- a line was read, and the exchanges begin with what resulted
pub record BeginsByLine (Rest : Reading → List Exchange → Type 0) (reading : Reading) (line : Line)
    (exchanges : List Exchange) : Type 0 where
  pub came : Option Item × Reading
  pub is_read : ReadsLine reading line
  pub comes : ComesOf reading line came
  pub goes : Continues Rest came exchanges

-- the items of these lines came to the exchanges, in order, and they lead from the one reading to the other
abbrev pub ReadsThrough : List Line → Reading → List Exchange → Reading → Type 0
ReadsThrough [] reading exchanges last = (exchanges ≡ []) × (last ≡ reading)
ReadsThrough (line ∷ lines) reading exchanges last = BeginsByLine (λ next rest. ReadsThrough lines next rest last) reading line exchanges
