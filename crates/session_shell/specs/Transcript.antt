-- A session's transcript, from the bytes read to the bytes written. The rules are this project's own.
use Rattle.std.specs.Prelude.{◌≡◌, ◌<◌, ◌+◌, ◌↔◌, ℕ, List, [], ◌∷◌, ◌++◌, length, map, Option, None, Some, ◌⊎◌}
use Rattle.std.specs.List.{AllByRecursion, flat_map}
use Rattle.cfg_base.specs.Counts.{Rose}
use Rattle.commands.specs.declared.command.Command.{Command}
use Rattle.commands.specs.declared.command.Command.TheVariants.{Logout}
use Rattle.io_edge.specs.declared.lines.Line.{Line}
use Rattle.io_edge.specs.declared.lines.Line.TheVariants.{InputFull as Full}
use Rattle.io_edge.specs.Ends.{SinkView, SourceView, held_after}
use Rattle.io_edge.specs.Line.{HasNoLf, TellsBoth}
use Rattle.session_shell.specs.declared.turn.How.{How}
use Rattle.session_shell.specs.declared.turn.How.TheVariants.{Clean, SourceFault, SinkFault, InputFull, NoMemory}
use Rattle.session_shell.specs.declared.turn.Turn.{Turn}
use Rattle.session_shell.specs.declared.door.Given0.{Given0}
use Rattle.session_shell.specs.declared.door.SyncedTurn.{SyncedTurn}
use Rattle.session_shell.specs.declared.json_show.Manner.{Manner}
use Rattle.session_shell.specs.declared.json_show.Manner.TheVariants.{Plain, Json, Dry, NoJson, Synchronized, NoCommit}
use Rattle.session_shell.specs.declared.reading.Reading.{Reading}
use Rattle.session_shell.specs.declared.reading.Reading.TheVariants.{Operational, Out}
use Rattle.session_shell.specs.declared.reading.Item.TheVariants.{Ask}
use Rattle.session_shell.specs.Exchange.{Exchange, Asked, Refused, Wanted, IsWrittenIn, moment_in, item_asked, turn_taken, text_written}
use Rattle.session_shell.specs.Items.{ReadsThrough}
use Rattle.session_shell.specs.Cut.{AreFirstLines}

-- how a door may stand after one command at a moment, for which that was given
abbrev pub Following : Type 0 → Type 1
Following D = D → Command → ℕ → Given0 → D → Type 0

-- how a door may stand after one `synchronize` that gave that answer
abbrev pub Syncing : Type 0 → Type 1
Syncing D = D → SyncedTurn → D → Type 0

-- what a door may give for a command at a moment
abbrev pub Naming : Type 0 → Type 1
Naming D = D → Command → ℕ → Given0 → Type 0

-- what a session's turns change: the answers that its clock has to come, what its sink holds, its sink's count of faults, and
-- its turns
pub record SessionView : Type 0 where
  pub coming : Option (ℕ → ℕ)
  pub held : Option (List ℕ)
  pub faults : ℕ
  pub turns : List Turn

-- these answers are a clock's next ones, in order, and leave those
abbrev pub AnswersAre : (ℕ → ℕ) → List ℕ → (ℕ → ℕ) → Type 0
AnswersAre coming [] left = (k : ℕ) → left k ≡ coming k
AnswersAre coming (answer ∷ answers) left = (answer ≡ coming 0) × AnswersAre (λ k. coming (k + 1)) answers left

-- the same, of a clock that tells its answers or doesn't
abbrev pub TakesAnswers : Option (ℕ → ℕ) → List ℕ → Option (ℕ → ℕ) → Type 0
TakesAnswers None answers None = Unit {0}
TakesAnswers (Some coming) answers (Some left) = AnswersAre coming answers left
TakesAnswers None answers (Some left) = ⊥
TakesAnswers (Some coming) answers None = ⊥

-- behind a command the door went on by one `synchronize` with that answer, where the answer is written, and else not at all
abbrev pub SyncsBy : {D : Type 0} → Syncing D → Manner → D → D → Type 0
SyncsBy syncs Plain d e = e ≡ d
SyncsBy syncs (Json text) d e = e ≡ d
SyncsBy syncs Dry d e = e ≡ d
SyncsBy syncs NoJson d e = e ≡ d
SyncsBy syncs (Synchronized synced) d e = syncs d synced e
SyncsBy syncs NoCommit d e = e ≡ d

-- the door went from one state to another by the commands of the exchanges alone, in order, each asked once, and by one
-- `synchronize` behind each commit that was made and is synchronized
abbrev pub GoesBy : {D : Type 0} → Following D → Syncing D → List Exchange → D → D → Type 0
GoesBy follows syncs [] d e = e ≡ d
GoesBy {D} follows syncs (Asked moment command given manner ∷ exchanges) d e =
    (next : D) × follows d command moment given next × (last : D) × SyncsBy syncs manner next last × GoesBy follows syncs exchanges last e
GoesBy follows syncs (Refused moment fault ∷ exchanges) d e = GoesBy follows syncs exchanges d e
GoesBy follows syncs (Wanted moment ∷ exchanges) d e = GoesBy follows syncs exchanges d e

-- the exchanges took their turns: one answer of the clock each, one turn each, and the commands of the door; what it gave is
-- written as it may be
pub record TakesTurns {D : Type 0} (follows : Following D) (syncs : Syncing D) (exchanges : List Exchange) (d e : D)
    (old new : SessionView) : Type 0 where
  pub moments : TakesAnswers old.coming (map moment_in exchanges) new.coming
  pub turned : new.turns ≡ old.turns ++ map turn_taken exchanges
  pub asked : GoesBy follows syncs exchanges d e
  pub written : AllByRecursion IsWrittenIn exchanges

-- the first text was written whole, and of the second a part from its beginning: less than the whole only where the sink's
-- count of faults rose
pub record WroteTexts (first second : List ℕ) (old new : SessionView) : Type 0 where
  pub part : List ℕ
  pub rest : List ℕ
  pub is_second : second ≡ part ++ rest
  pub held : new.held ≡ held_after old.held (first ++ part)
  pub whole : (rest ≡ []) ⊎ Rose old.faults new.faults

-- the texts of a session: those of all its items, and of its last logout; where its sink failed, none after the text that
-- failed
abbrev pub Texts : How → List Exchange → List Exchange → SessionView → SessionView → Type 0
Texts SinkFault asked final old new =
    (heard : List Exchange) × (last : Exchange) × (asked ≡ heard ++ last ∷ [])
    × WroteTexts (flat_map text_written heard) (text_written last) old new
Texts how asked final old new = WroteTexts (flat_map text_written asked) (flat_map text_written final) old new

-- a session that isn't logged out asks for it once, at its end
abbrev pub LogsOut : Reading → List Exchange → Type 0
LogsOut Out final = final ≡ []
LogsOut reading final = (logout : Exchange) × (final ≡ logout ∷ []) × (item_asked logout ≡ Ask Logout)

-- which lines were not read says how a session ended: clean when it was logged out or nothing is left
abbrev pub EndsBy : How → Reading → List Line → Type 0
EndsBy Clean reading rest = (reading ≡ Out) ⊎ (rest ≡ [])
EndsBy InputFull reading rest = (reading ≡ Out → ⊥) × (rest ≡ Full ∷ [])
EndsBy SourceFault reading rest = reading ≡ Out → ⊥
EndsBy NoMemory reading rest = reading ≡ Out → ⊥
EndsBy SinkFault reading rest = Unit {0}

-- the lines that were read of the bytes that a source had before, of which it has those now, and how that ended
pub record IsInput (lines : List Line) (reading : Reading) (how : How) (limit : ℕ) (before now : List ℕ) : Type 0 where
  pub rest : List Line
  pub room : ℕ
  pub left : List ℕ
  pub first : AreFirstLines lines rest limit before room left
  pub ends : EndsBy how reading rest
  -- what was read after these lines
  pub ahead : List ℕ
  pub is_left : left ≡ ahead ++ now
  -- where the source failed that is no whole line
  pub cut : how ≡ SourceFault → HasNoLf ahead
  -- the input is full exactly where more bytes were read than the limit
  pub full : (how ≡ InputFull) ↔ (limit < length first.taken + length ahead)

-- where a session begins or ends: what its source has left, its door, and its view
pub record Side (D : Type 0) : Type 0 where
  pub source : Option (List ℕ)
  pub door : D
  pub view : SessionView

abbrev pub side : {D : Type 0} → Option (List ℕ) → D → SessionView → Side D
side source door view = record { source = source; door = door; view = view }

-- one session: its items are those of the lines that it read, and one last logout where it needs one; they took its turns,
-- and their texts were written
pub record IsTranscript {D : Type 0} (follows : Following D) (syncs : Syncing D) (limit : ℕ) (how : How) (old new : Side D) : Type 0 where
  pub lines : List Line
  pub asked : List Exchange
  pub final : List Exchange
  pub reading : Reading
  pub reads : ReadsThrough lines Operational asked reading
  pub input : TellsBoth (IsInput lines reading how limit) old.source new.source
  pub logs_out : LogsOut reading final
  pub turns : TakesTurns follows syncs (asked ++ final) old.door new.door old.view new.view
  pub texts : Texts how asked final old.view new.view

-- the ends of a session: whose they are, what is told of its source and its sink, and its clock's answers to come
pub record EndView : Type 0 where
  pub user : List ℕ
  pub source : SourceView
  pub sink : SinkView
  pub coming : Option (ℕ → ℕ)

-- these ends with turns
abbrev pub session_view : EndView → List Turn → SessionView
session_view end turns = record { coming = end.coming; held = end.sink.held; faults = end.sink.faults; turns = turns }

-- one session, from its ends before to its ends after: a fault of its source or its sink is reported only where that count rose
pub record IsSession {D : Type 0} (follows : Following D) (syncs : Syncing D) (limit : ℕ) (how : How) (turns : List Turn)
    (old new : EndView) (d e : D) : Type 0 where
  pub transcript : IsTranscript follows syncs limit how (side old.source.left d (session_view old []))
      (side new.source.left e (session_view new turns))
  pub user : new.user ≡ old.user
  pub source_cause : how ≡ SourceFault → Rose old.source.faults new.source.faults
  pub sink_cause : how ≡ SinkFault → Rose old.sink.faults new.sink.faults
