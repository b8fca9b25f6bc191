-- A session between its steps: what it holds, and what one line, or the stop of its input, does. This project's own.
use Rattle.std.specs.Prelude.{◌≡◌, ◌≤◌, ℕ, List, [], ◌∷◌, ◌++◌, length, Bool, true, false, if◌then◌else◌, ◌⊎◌}
use Rattle.std.specs.Prelude.{Result, Option, None, Some}
use Rattle.std.specs.List.{flat_map}
use Rattle.io_edge.specs.Feed.{LinesView}
use Rattle.io_edge.specs.Ends.{SinkView, held_after}
use Rattle.io_edge.specs.Line.{TellsBoth}
use Rattle.io_edge.specs.Wrote.{Wrote as WroteAs, WrotePart}
use Rattle.io_edge.specs.declared.lines.Line.{Line}
use Rattle.io_edge.specs.declared.lines.Line.TheVariants.{End}
use Rattle.session_shell.specs.declared.turn.How.{How}
use Rattle.session_shell.specs.declared.turn.How.TheVariants.{Clean, SinkFault, NoMemory}
use Rattle.session_shell.specs.declared.turn.Turn.{Turn}
use Rattle.session_shell.specs.declared.reading.Item.{Item}
use Rattle.session_shell.specs.declared.reading.Reading.{Reading}
use Rattle.session_shell.specs.declared.reading.Reading.TheVariants.{Operational, Out}
use Rattle.session_shell.specs.Exchange.{Exchange, item_asked, text_written, reading_after}
use Rattle.session_shell.specs.Items.{ReadsThrough}
use Rattle.session_shell.specs.Cut.{lines_read, AreFirstLines}
use Rattle.session_shell.specs.Transcript.{Following, IsInput, LogsOut, SessionView, Syncing, Texts, TakesTurns, WroteTexts}

-- what a session holds while it is served; `spare` is for how many more turns it has room
pub record ServingView (C : Type 0) : Type 0 where
  pub feed : LinesView
  pub sink : SinkView
  pub clock : C
  pub turns : List Turn
  pub spare : ℕ
  pub reading : Reading

-- its view, as its clock tells it
abbrev pub view_of : {C : Type 0} → (C → Option (ℕ → ℕ)) → ServingView C → SessionView
view_of coming now = record { coming = coming now.clock; held = now.sink.held; faults = now.sink.faults; turns = now.turns }

abbrev pub is_out : Reading → Bool
is_out Out = true
is_out reading = false

abbrev pub is_end : Line → Bool
is_end End = true
is_end line = false

-- a session between two steps: its door, how it reads on, and its view
pub record Standing (D : Type 0) : Type 0 where
  pub door : D
  pub reading : Reading
  pub view : SessionView

abbrev pub standing : {D : Type 0} → D → Reading → SessionView → Standing D
standing door reading view = record { door = door; reading = reading; view = view }

-- an item was served
pub record ServesItem {D T E : Type 0} (follows : Following D) (syncs : Syncing D) (item : Item) (put : Result T E)
    (old new : Standing D) : Type 0 where
  pub exchange : Exchange
  pub is_item : item_asked exchange ≡ item
  pub is_reading : new.reading ≡ reading_after old.reading exchange
  pub turns : TakesTurns follows syncs (exchange ∷ []) old.door new.door old.view new.view
  pub wrote : WroteAs put (text_written exchange) old.view.held new.view.held

-- a session so far: the lines that were served, from its first door and view to where it stands
pub record SoFar {D : Type 0} (follows : Following D) (syncs : Syncing D) (limit : ℕ) (source : Option (List ℕ)) (first : D)
    (from : SessionView) (feed : LinesView) (now : Standing D) : Type 0 where
  pub lines : List Line
  pub exchanges : List Exchange
  pub reads : ReadsThrough lines Operational exchanges now.reading
  pub first_lines : TellsBoth (λ bytes left. AreFirstLines lines (lines_read feed.room left) limit bytes feed.room left) source
      feed.left
  pub within : feed.ahead ≤ feed.room
  pub turns : TakesTurns follows syncs exchanges first now.door from now.view
  pub text : now.view.held ≡ held_after from.held (flat_map text_written exchanges)
  pub going : is_out now.reading ≡ false

-- a line was served: what it came to
pub record ServesLine {D : Type 0} (follows : Following D) (syncs : Syncing D) (line : Line) (exchanges : List Exchange)
    (old new : Standing D) : Type 0 where
  pub reads : ReadsThrough (line ∷ []) old.reading exchanges new.reading
  pub turns : TakesTurns follows syncs exchanges old.door new.door old.view new.view

-- a line was taken, and the session goes on, or ends so by it
abbrev pub TakesLine : {D : Type 0} → Following D → Syncing D → Line → Option How → Standing D → Standing D → Type 0
TakesLine follows syncs line None old new =
    (exchanges : List Exchange) × ServesLine follows syncs line exchanges old new
    × (new.view.held ≡ held_after old.view.held (flat_map text_written exchanges)) × (is_out new.reading ≡ false) × (is_end line ≡ false)
TakesLine follows syncs line (Some Clean) old new =
    (exchanges : List Exchange) × ServesLine follows syncs line exchanges old new
    × (new.view.held ≡ held_after old.view.held (flat_map text_written exchanges)) × ((is_out new.reading ≡ true) ⊎ (is_end line ≡ true))
TakesLine follows syncs line (Some SinkFault) old new =
    (last : Exchange) × ServesLine follows syncs line (last ∷ []) old new × WrotePart (text_written last) old.view.held new.view.held
TakesLine follows syncs line (Some NoMemory) old new = (new.door ≡ old.door) × (new.reading ≡ old.reading) × (new.view ≡ old.view)
TakesLine follows syncs line (Some how) old new = ⊥

-- a session has ended, but for its last logout; what its reader has left was read ahead or is the source's
pub record Ends {D : Type 0} (follows : Following D) (syncs : Syncing D) (limit : ℕ) (how : How) (source : Option (List ℕ)) (first : D)
    (from : SessionView) (feed : LinesView) (now : Standing D) : Type 0 where
  pub lines : List Line
  pub asked : List Exchange
  pub reads : ReadsThrough lines Operational asked now.reading
  pub input : TellsBoth (λ before left. (ahead now' : List ℕ) → left ≡ ahead ++ now' → length ahead ≡ feed.ahead
      → IsInput lines now.reading how limit before now') source feed.left
  pub turns : TakesTurns follows syncs asked first now.door from now.view
  pub texts : Texts how asked [] from now.view

-- whatever a session did before, a step goes on from there or ends it
abbrev pub StepsOn : {D : Type 0} → Following D → Syncing D → Option How → LinesView → LinesView → Standing D → Standing D → Type 0
StepsOn {D} follows syncs None feed feed' old new =
    (limit : ℕ) (source : Option (List ℕ)) (first : D) (from : SessionView)
    → SoFar follows syncs limit source first from feed old → SoFar follows syncs limit source first from feed' new
StepsOn {D} follows syncs (Some how) feed feed' old new =
    (limit : ℕ) (source : Option (List ℕ)) (first : D) (from : SessionView) → from.faults ≤ old.view.faults
    → SoFar follows syncs limit source first from feed old → Ends follows syncs limit how source first from feed' new

-- how a session ends by a line, after its text was written or not
abbrev pub how_next : Line → Reading → Bool → Option How
how_next line reading false = Some SinkFault
how_next line reading true = if is_out reading then Some Clean else (if is_end line then Some Clean else None)

-- the text of the last logout, where one is needed: nothing is written to a sink that failed
abbrev pub LastText : How → List Exchange → SessionView → SessionView → Type 0
LastText SinkFault final old new = new.held ≡ old.held
LastText how final old new = WroteTexts [] (flat_map text_written final) old new

-- the last logout was asked, where one is needed
pub record Finishes {D : Type 0} (follows : Following D) (syncs : Syncing D) (how : How) (d e : D) (reading : Reading)
    (old new : SessionView) : Type 0 where
  pub final : List Exchange
  pub logs_out : LogsOut reading final
  pub turns : TakesTurns follows syncs final d e old new
  pub text : LastText how final old new
  pub later : old.faults ≤ new.faults

-- a command was asked, and its answer not written
pub record AsksOnly {D : Type 0} (follows : Following D) (syncs : Syncing D) (item : Item) (d e : D) (old new : SessionView) : Type 0 where
  pub exchange : Exchange
  pub is_item : item_asked exchange ≡ item
  pub turns : TakesTurns follows syncs (exchange ∷ []) d e old new
  pub same : new.held ≡ old.held
