-- How what is known of a run grows by what a caller asks, and one session over a part of a run. This project's own.
use Rattle.std.specs.Prelude.{◌≡◌, ◌≢◌, ◌≤◌, ◌⊎◌, ℕ, ◌+◌, List, [], ◌∷◌, ◌++◌, length, max, true, false}
use Rattle.std.specs.List.{AllByRecursion}
use Rattle.access_rules.specs.declared.right.Right.{Right}
use Rattle.commands.specs.declared.command.Command.{Command}
use Rattle.commands.specs.declared.command.Command.TheVariants.{ShowActive, ShowCommits}
use Rattle.commit_ledger.specs.Kept.{Kept, active_of, is_revert_due}
use Rattle.commit_ledger.specs.Listing.{IsListing}
use Rattle.config_core.specs.declared.reply.Reply.{Reply}
use Rattle.config_core.specs.declared.reply.Reply.TheVariants.{Text}
use Rattle.config_core.specs.Showing.{IsShow}
use Rattle.config_core.specs.State.{State}
use Rattle.config_db.specs.declared.answer.Answered.{Answered}
use Rattle.config_db.specs.declared.answer.Answered.TheVariants.{Kept as Done, NoMemory as Wanting}
use Rattle.session_history.specs.declared.history.Happened.{Happened}
use Rattle.session_history.specs.Events.{IsAskedAt, Leads, places_of, IsEventOf, NoCommand}
use Rattle.session_history.specs.Kept.{WasKept}
use Rattle.session_shell.specs.declared.door.Given0.{Given0}
use Rattle.session_shell.specs.declared.door.Given0.TheVariants.{Kept as KeptAt, Seen, Denied, Unready, NoMemory}
use Rattle.session_shell.specs.declared.turn.How.{How}
use Rattle.session_shell.specs.declared.turn.Turn.{Turn}
use Rattle.session_shell.specs.Shows.{IsActiveShow}
use Rattle.session_shell.specs.Transcript.{EndView, IsSession}
use Rattle.session_threads.specs.Access.{Asker, IsAllowed, IsAllowedAt, IsDenied, IsDeniedBehind, IsUnreadyBehind}
use Rattle.session_threads.specs.Syncs.{WithoutBackup}

-- what a caller knows of a run: the events up to its last turn, and how many entries the newest list of commits had that it was
-- answered from
pub record Known : Type 0 where
  pub events : List Happened
  pub front : ℕ

-- what is known before the first answer
abbrev pub known_first : State → List Happened → Known
known_first opening events = record { events = events; front = opening.kept.count }

-- others' events came, and then the caller's own, at the greater of the clock's answer and the greatest moment before them
pub record Grows (opening : State) (caller answer : ℕ) (events events' : List Happened) : Type 0 where
  pub others : List Happened
  pub own : List Happened
  pub grown : events' ≡ events ++ (others ++ own)
  pub not_own : AllByRecursion (λ event. event.caller ≢ caller) others
  pub before : State
  pub leads : Leads opening (events ++ others) before
  pub made : AllByRecursion (IsEventOf caller (max answer before.greatest)) own

-- what belongs to a caller's command at a clock's answer: its event at a place of the history, with the machine's reply
abbrev pub HasEvent : State → ℕ → List Happened → Command → ℕ → Answered → Type 0
HasEvent opening caller events command answer (Done place reply) = IsAskedAt opening events place caller answer command reply
HasEvent opening caller events command answer Wanting = Unit {0}

-- a turn's own events are a settling, a revert or a scheduled commit, and then, where it was answered, the command, which is the last
-- event
pub record EndsAtPlace (place : ℕ) (own events : List Happened) : Type 0 where
  pub front : List Happened
  pub last : Happened
  pub is_own : own ≡ front ++ last ∷ []
  pub no_command : NoCommand front
  pub at_end : length events ≡ place + 1

abbrev pub IsTurn : Answered → List Happened → List Happened → Type 0
IsTurn (Done place reply) own events = EndsAtPlace place own events
IsTurn Wanting own events = NoCommand own

-- the places of the events that were answered
abbrev pub places_answered : Answered → List ℕ
places_answered (Done place reply) = place ∷ []
places_answered Wanting = []

-- how a history follows after one turn of a caller
pub record FollowsTurn (opening : State) (caller : ℕ) (events : List Happened) (command : Command) (answer : ℕ)
    (answered : Answered) (events' : List Happened) : Type 0 where
  pub grows : Grows opening caller answer events events'
  pub named : HasEvent opening caller events' command answer answered
  pub turn : IsTurn answered grows.own events'
  pub places : places_of caller events' ≡ places_of caller events ++ places_answered answered

-- what is shown of a list of commits that is kept
abbrev pub ShowsKept : Kept → Command → Reply → Type 0
ShowsKept kept (ShowActive words form) reply = IsShow (active_of kept) [] words form reply
ShowsKept kept ShowCommits reply = (text : List ℕ) × (reply ≡ Text text) × IsListing kept text
ShowsKept kept command reply = ⊥

-- a list of so many entries was kept at some moment of the run
abbrev pub IsKeptThen : State → List Happened → ℕ → Kept → Type 0
IsKeptThen opening final front kept = WasKept opening final kept × (kept.count ≡ front)

-- what belongs to a show that was answered without an event: a list of so many entries that was kept at some moment of the run
pub record HasView (opening : State) (final : List Happened) (command : Command) (front : ℕ) (reply : Reply) : Type 0 where
  pub kept : Kept
  pub was_kept : IsKeptThen opening final front kept
  pub shows : ShowsKept kept command reply

-- at some moment of the run, no earlier than what had been answered from, a list was kept whose deadline has come at the answer
-- of the clock
pub record HasMissed (opening : State) (final : List Happened) (least answer : ℕ) : Type 0 where
  pub kept : Kept
  pub was_kept : WasKept opening final kept
  pub reached : least ≤ kept.count
  pub due : is_revert_due kept answer ≡ true

-- a command was answered by an event, before which it was allowed, and what is kept after it was answered from; a show takes a
-- turn only for a missed deadline
pub record FollowsKept (asker : Asker) (final : List Happened) (d : Known) (command : Command) (answer place : ℕ) (reply : Reply)
    (e : Known) : Type 0 where
  pub turn : FollowsTurn asker.opening asker.caller d.events command answer (Done place reply) e.events
  pub allowed : IsAllowedAt asker e.events place command
  pub after : State
  pub leads : Leads asker.opening e.events after
  pub front : e.front ≡ max d.front after.kept.count
  pub missed : IsActiveShow command → HasMissed asker.opening final d.front answer

-- what was answered without a turn rests on a list that was kept at some moment of the run, no earlier than what had been
-- answered from; it had no deadline that has come at the answer of the clock
pub record FollowsView (opening : State) (final : List Happened) (d : Known) (answer front : ℕ) (e : Known) : Type 0 where
  pub same : e.events ≡ d.events
  pub reached : d.front ≤ front
  pub is_front : e.front ≡ front
  pub kept : Kept
  pub was_kept : IsKeptThen opening final front kept
  pub not_due : is_revert_due kept answer ≡ false

-- a show was answered from such a list, by which it was allowed
pub record FollowsSeen (asker : Asker) (final : List Happened) (d : Known) (command : Command) (answer front : ℕ) (reply : Reply)
    (e : Known) : Type 0 where
  pub view : FollowsView asker.opening final d answer front e
  pub shows : ShowsKept view.kept command reply
  pub allowed : IsAllowed asker.asks view.kept [] command

-- a show was denied by such a list
pub record FollowsHidden (asker : Asker) (final : List Happened) (d : Known) (command : Command) (answer front : ℕ) (right : Right)
    (e : Known) : Type 0 where
  pub is_show : IsActiveShow command
  pub view : FollowsView asker.opening final d answer front e
  pub denied : IsDenied asker.asks view.kept [] command right

-- a command became no event in its turn, which a show takes only for a missed deadline; what is kept after it is what its answer
-- rests on, and reaches what had been answered from
pub record FollowsRefused (asker : Asker) (final : List Happened) (d : Known) (command : Command) (answer front : ℕ) (e : Known)
    : Type 0 where
  pub turn : FollowsTurn asker.opening asker.caller d.events command answer Wanting e.events
  pub reached : d.front ≤ front
  pub is_front : e.front ≡ front
  pub kept : Kept
  pub was_kept : IsKeptThen asker.opening final front kept
  pub missed : IsActiveShow command → HasMissed asker.opening final d.front answer

-- a command was denied in its turn, or it is a show, and was denied without one
abbrev pub FollowsDenied : Asker → List Happened → Known → Command → ℕ → ℕ → Right → Known → Type 0
FollowsDenied asker final d command answer front right e =
    (FollowsRefused asker final d command answer front e × IsDeniedBehind asker e.events command front right)
    ⊎ FollowsHidden asker final d command answer front right e

-- a disk failed in a command's turn, before its rights were asked
abbrev pub FollowsUnready : Asker → List Happened → Known → Command → ℕ → ℕ → Known → Type 0
FollowsUnready asker final d command answer front e =
    FollowsRefused asker final d command answer front e × IsUnreadyBehind asker e.events command front

-- memory ran out for an answer
pub record FollowsWanting (asker : Asker) (d : Known) (command : Command) (answer : ℕ) (e : Known) : Type 0 where
  pub turn : FollowsTurn asker.opening asker.caller d.events command answer Wanting e.events
  pub front : e.front ≡ d.front

-- what a caller knows of a run after one ask, where all the run's events are these
abbrev pub FollowsAsked : Asker → List Happened → Known → Command → ℕ → Given0 → Known → Type 0
FollowsAsked asker final d command answer (KeptAt place reply) e = FollowsKept asker final d command answer place reply e
FollowsAsked asker final d command answer (Seen front reply) e = FollowsSeen asker final d command answer front reply e
FollowsAsked asker final d command answer (Denied front right) e = FollowsDenied asker final d command answer front right e
FollowsAsked asker final d command answer (Unready front) e = FollowsUnready asker final d command answer front e
FollowsAsked asker final d command answer NoMemory e = FollowsWanting asker d command answer e

-- what belongs to a command: its event, or a list that was kept at some moment of the run
abbrev pub Names : State → ℕ → List Happened → Known → Command → ℕ → Given0 → Type 0
Names opening caller final d command answer (KeptAt place reply) =
    HasEvent opening caller d.events command answer (Done place reply)
Names opening caller final d command answer (Seen front reply) = HasView opening final command front reply
Names opening caller final d command answer (Denied front right) = Unit {0}
Names opening caller final d command answer (Unready front) = Unit {0}
Names opening caller final d command answer NoMemory = Unit {0}

-- a session of a caller over a part of the events of a run, which has all events of that caller: its ends and its turns
pub record HasSession (asker : Asker) (limit : ℕ) (events : List Happened) (how : How) (turns : List Turn) (old new : EndView)
    : Type 0 where
  pub before : List Happened
  pub after : Known
  pub later : List Happened
  pub begins : events ≡ after.events ++ later
  pub others_first : AllByRecursion (λ event. event.caller ≢ asker.caller) before
  pub none_later : AllByRecursion (λ event. event.caller ≢ asker.caller) later
  pub session : IsSession (FollowsAsked asker events) WithoutBackup limit how turns old new (known_first asker.opening before) after
