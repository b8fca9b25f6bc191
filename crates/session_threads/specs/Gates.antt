-- A caller's pass with its reader, before and after what is done with them. This project's own.
use Rattle.std.specs.Prelude.{◌≡◌, ◌⊎◌, ℕ, Bool, true, false, List, [], Option, None, Some, IfSome}
use Rattle.std.specs.List.{AllByRecursion}
use mathlib.Core.List.{IsPrefix}
use Rattle.active_snapshot.specs.States.{ReaderView, first_read}
use Rattle.active_snapshot.specs.Views.{AreViews, IsLast}
use Rattle.commands.specs.declared.command.Command.{Command}
use Rattle.commit_ledger.specs.Kept.{Kept, is_revert_due}
use Rattle.config_core.specs.declared.reply.Reply.{Reply}
use Rattle.config_core.specs.State.{State}
use Rattle.config_db.specs.declared.answer.Answered.TheVariants.{Kept as Done, NoMemory as Wanting}
use Rattle.config_db.specs.View.{DatabaseView, opened}
use Rattle.session_history.specs.declared.history.Happened.{Happened}
use Rattle.session_history.specs.Events.{IsLegal, Leads}
use Rattle.session_history.specs.Kept.{WasKept}
use Rattle.session_shell.specs.declared.door.Given0.{Given0}
use Rattle.session_shell.specs.declared.door.Given0.TheVariants.{Kept as KeptAt, Seen, Denied, Unready, NoMemory}
use Rattle.session_shell.specs.Shows.{IsActiveShow, PrintsWhole}
use Rattle.session_threads.specs.Access.{Asker, IsAllowed, IsDenied, IsJudged}
use Rattle.session_threads.specs.Adding.{answered_of}
use Rattle.session_threads.specs.History.{FollowsTurn, HasEvent, ShowsKept}
use Rattle.session_threads.specs.Passes.{CallerPass, CountsNotes, KnowsOwn, WentOn, events_seen}

-- a caller's pass, what its reader knows, and its user where rights are asked
pub record GateView : Type 0 where
  pub pass : CallerPass
  pub reader : ReaderView
  pub asks : Option (List ℕ)

-- the caller of a pass, over a database that began so
abbrev pub asker_in : DatabaseView → GateView → Asker
asker_in first d = record { opening = opened first; caller = d.pass.caller; asks = d.asks }

-- a reader that was told of the opening's list alone
abbrev pub StartsReading : DatabaseView → ReaderView → Type 0
StartsReading first reader = reader ≡ first_read first.opening

-- after these events the lists of commits that were kept are those, and the last of them is what is kept now
pub record TellsKept (opening : State) (events : List Happened) (list : List Kept) : Type 0 where
  pub after : State
  pub leads : Leads opening events after
  pub views : AreViews list
  pub each : AllByRecursion (WasKept opening events) list
  pub is_last : IsLast list after.kept

-- a reader has at least what it had, and was told at least what it was told
pub record ReadsOn (old new : ReaderView) : Type 0 where
  pub later : IsPrefix old.list new.list
  pub told : IsPrefix old.told new.told

-- a reader that has nothing, and was told of nothing, that isn't among these lists
abbrev pub KnowsNoMore : List Kept → ReaderView → Type 0
KnowsNoMore list reader = IsPrefix reader.list list × IsPrefix reader.told list

-- a command was refused in its turn
abbrev pub IsRefusal : Given0 → Type 0
IsRefusal (Denied front right) = Unit {0}
IsRefusal (Unready front) = Unit {0}
IsRefusal given = ⊥

-- where a turn's command was refused, the reader knew no more than what the turn reported
abbrev pub HadNoMore : Given0 → List Kept → ReaderView → Type 0
HadNoMore (Denied front right) list reader = KnowsNoMore list reader
HadNoMore (Unready front) list reader = KnowsNoMore list reader
HadNoMore given list reader = Unit {0}

-- what is told of what a turn gave: that, or, of a refusal, want of memory
pub record Held (given : Given0) (list : List Kept) (reader : ReaderView) (told : Given0) : Type 0 where
  pub knew : HadNoMore told list reader
  pub is : (told ≡ given) ⊎ (IsRefusal given × (told ≡ NoMemory))

-- a reader is told of the lists that a turn reported; where the turn's command was refused it knew no more before
abbrev pub LearnsOf : Given0 → List Kept → ReaderView → ReaderView → Type 0
LearnsOf (KeptAt place reply) list old new = IsPrefix list new.told
LearnsOf (Seen front reply) list old new = Unit {0}
LearnsOf (Denied front right) list old new = IsPrefix list new.told × KnowsNoMore list old
LearnsOf (Unready front) list old new = IsPrefix list new.told × KnowsNoMore list old
LearnsOf NoMemory list old new = Unit {0}

-- a reader took in what the turn of a command reported
pub record Learns (given : Given0) (list : List Kept) (old new : ReaderView) : Type 0 where
  pub reads : ReadsOn old new
  pub told : LearnsOf given list old new

-- a reader answered from the last list that it has, which reaches all that it was told: whether that has a deadline that has come
pub record ReadsLast (answer : ℕ) (is_due : Bool) (reader : ReaderView) : Type 0 where
  pub view : Kept
  pub reached : IsPrefix reader.told reader.list
  pub is_last : IsLast reader.list view
  pub due : is_revert_due view answer ≡ is_due

-- what is given for a show of a view
abbrev pub GivesView : Option (List ℕ) → Command → ℕ → Kept → Given0 → Type 0
GivesView asks command front view (KeptAt place reply) = ⊥
GivesView asks command front view (Seen shown reply) = (shown ≡ front) × ShowsKept view command reply × IsAllowed asks view [] command
GivesView asks command front view (Denied shown right) = (shown ≡ front) × IsDenied asks view [] command right
GivesView asks command front view (Unready shown) = ⊥
GivesView asks command front view NoMemory = Unit {0}

-- a show was answered by the last list that a reader has
pub record AnswersShow (asks : Option (List ℕ)) (command : Command) (answer : ℕ) (given : Given0) (reader : ReaderView) : Type 0 where
  pub read : ReadsLast answer false reader
  pub gives : GivesView asks command read.view.count read.view given

-- what a reader gave for a show: an answer, or none, since a deadline has come
abbrev pub GivesShow : Option (List ℕ) → Command → ℕ → Option Given0 → ReaderView → Type 0
GivesShow asks command answer None reader = ReadsLast answer true reader
GivesShow asks command answer (Some NoMemory) reader = Unit {0}
GivesShow asks command answer (Some given) reader = AnswersShow asks command answer given reader

-- a reader was asked for a show
pub record ReadsShow (asks : Option (List ℕ)) (command : Command) (answer : ℕ) (given : Option Given0) (old new : ReaderView)
    : Type 0 where
  pub reads : ReadsOn old new
  pub gives : GivesShow asks command answer given new
  pub prints : IfSome given (PrintsWhole command)

-- a command has no answer without a turn: where it is a show, since a deadline has come
abbrev pub NeedsTurn : Command → ℕ → ReaderView → Type 0
NeedsTurn command answer reader = IsActiveShow command → ReadsLast answer true reader

-- a show was answered without a turn; the events that the pass has seen are a legal history, and it has its caller's
pub record SeesAt (d : GateView) (command : Command) (answer : ℕ) (given : Given0) (reader : ReaderView) : Type 0 where
  pub is_show : IsActiveShow command
  pub gives : GivesShow d.asks command answer (Some given) reader
  pub prints : PrintsWhole command given
  pub own : KnowsOwn d.pass
  pub legal : (first : DatabaseView) → d.pass.fixed ≡ Some first → IsLegal (opened first) (events_seen d.pass)

-- what was answered without a turn
abbrev pub LooksAt : GateView → Command → ℕ → Option Given0 → ReaderView → Type 0
LooksAt d command answer None reader = NeedsTurn command answer reader
LooksAt d command answer (Some given) reader = SeesAt d command answer given reader

-- a command was looked at before its turn: a show may be answered without one
pub record LooksIn (d : GateView) (command : Command) (answer : ℕ) (given : Option Given0) (e : GateView)
    : Type 0 where
  pub same : e.pass ≡ d.pass
  pub same_asks : e.asks ≡ d.asks
  pub reads : ReadsOn d.reader e.reader
  pub looks : LooksAt d command answer given e.reader

-- the turn of a caller's command over a database that began so, what was reported after it, and what was found of its rights
pub record TurnsIn (first : DatabaseView) (d : GateView) (command : Command) (answer : ℕ) (given : Given0) (e : GateView)
    : Type 0 where
  pub turn : FollowsTurn (opened first) d.pass.caller (events_seen d.pass) command answer (answered_of given) (events_seen e.pass)
  pub list : List Kept
  pub tells : TellsKept (opened first) (events_seen e.pass) list
  pub told : LearnsOf given list d.reader e.reader
  pub judged : IsJudged (asker_in first d) (events_seen e.pass) command given

-- the same, of the database that the pass is of
abbrev pub TurnsOver : GateView → Command → ℕ → Given0 → GateView → Type 0
TurnsOver d command answer given e = (first : DatabaseView) → d.pass.fixed ≡ Some first → TurnsIn first d command answer given e

-- what a turn may give: it reads no view
abbrev pub IsOfTurn : Given0 → Type 0
IsOfTurn (Seen front reply) = ⊥
IsOfTurn given = Unit {0}

-- a command took its turn
pub record TookIn (d : GateView) (command : Command) (answer : ℕ) (given : Given0) (e : GateView) : Type 0 where
  pub goes : WentOn d.pass e.pass
  pub same_asks : e.asks ≡ d.asks
  pub reads : ReadsOn d.reader e.reader
  pub of_turn : IsOfTurn given
  pub turns : TurnsOver d command answer given e
  pub noted : CountsNotes given d.pass e.pass
  pub prints : PrintsWhole command given

-- a reader found a deadline that has come, on the way from what it knew to what it knows
pub record MissedIn (answer : ℕ) (old new : ReaderView) : Type 0 where
  pub mid : ReaderView
  pub before : ReadsOn old mid
  pub missed : ReadsLast answer true mid
  pub behind : ReadsOn mid new

-- a command was answered in its turn; a show takes one only where a deadline has come
pub record TurnedIn (d : GateView) (command : Command) (answer : ℕ) (given : Given0) (e : GateView) : Type 0 where
  pub turns : TurnsOver d command answer given e
  pub missed : IsActiveShow command → MissedIn answer d.reader e.reader

-- a show was answered without a turn
pub record SeenIn (d : GateView) (command : Command) (answer : ℕ) (given : Given0) (e : GateView) : Type 0 where
  pub same : e.pass ≡ d.pass
  pub is_show : IsActiveShow command
  pub answers : AnswersShow d.asks command answer given e.reader

-- memory ran out for an answer
abbrev pub WantingIn : GateView → Command → ℕ → GateView → Type 0
WantingIn d command answer e =
    (first : DatabaseView) → d.pass.fixed ≡ Some first
    → FollowsTurn (opened first) d.pass.caller (events_seen d.pass) command answer Wanting (events_seen e.pass)

-- by what was given
abbrev pub ComesIn : GateView → Command → ℕ → Given0 → GateView → Type 0
ComesIn d command answer (KeptAt place reply) e = TurnedIn d command answer (KeptAt place reply) e
ComesIn d command answer (Seen front reply) e = SeenIn d command answer (Seen front reply) e
ComesIn d command answer (Denied front right) e =
    TurnedIn d command answer (Denied front right) e ⊎ SeenIn d command answer (Denied front right) e
ComesIn d command answer (Unready front) e = TurnedIn d command answer (Unready front) e
ComesIn d command answer NoMemory e = WantingIn d command answer e

-- how a pass and its reader follow after one ask of their caller
pub record FollowsIn (d : GateView) (command : Command) (answer : ℕ) (given : Given0) (e : GateView)
    : Type 0 where
  pub goes : WentOn d.pass e.pass
  pub same_asks : e.asks ≡ d.asks
  pub reads : ReadsOn d.reader e.reader
  pub comes : ComesIn d command answer given e
  pub noted : CountsNotes given d.pass e.pass
  pub prints : PrintsWhole command given

-- a beginning of the lists that a reader has, whose last one shows this
pub record HasShown (command : Command) (front : ℕ) (reply : Reply) (reader : ReaderView) : Type 0 where
  pub list : List Kept
  pub view : Kept
  pub begins : IsPrefix list reader.list
  pub is_last : IsLast list view
  pub is_front : view.count ≡ front
  pub shows : ShowsKept view command reply

-- what belongs to a command of the pass's caller
abbrev pub NamesIn : GateView → Command → ℕ → Given0 → Type 0
NamesIn d command answer (KeptAt place reply) =
    (first : DatabaseView) → d.pass.fixed ≡ Some first
    → HasEvent (opened first) d.pass.caller (events_seen d.pass) command answer (Done place reply)
NamesIn d command answer (Seen front reply) = HasShown command front reply d.reader
NamesIn d command answer (Denied front right) = Unit {0}
NamesIn d command answer (Unready front) = Unit {0}
NamesIn d command answer NoMemory = Unit {0}
