-- A run of mode serve: the start over two disks, the sessions, what happened, and what the disks hold at the end; and what
-- disks each mode needs. This project's own.
use Rattle.std.specs.Prelude.{◌≡◌, ◌≤◌, ◌+◌, ◌⊎◌, ℕ, Bool, true, false, List, [], ◌∷◌, ◌++◌, length, map, slice_get}
use Rattle.std.specs.Prelude.{Some, IsSome, is_some, count_by}
use Rattle.std.specs.List.{AllByRecursion}
use Rattle.command_line.specs.declared.asked.Asked.{Asked}
use Rattle.command_line.specs.declared.asked.RunMode.{RunMode}
use Rattle.command_line.specs.declared.asked.RunMode.TheVariants.{Init, Serve, Check, Gen}
use Rattle.commit_journal.specs.Attach.{IsThere}
use Rattle.commit_ledger.specs.Kept.{Kept}
use Rattle.config_core.specs.declared.event.Outcome.TheVariants.{Fault}
use Rattle.config_core.specs.State.{State, opening_of}
use Rattle.config_db.specs.Answers.{IsOneSettling}
use Rattle.config_db.specs.Crash.{HaveCalled, IsCrashSafe}
use Rattle.config_db.specs.Faults.{FaultsAreCounted, RoseBy, is_failed_command, is_failed_other}
use Rattle.config_db.specs.Numbers.{AreRising, none_called}
use Rattle.config_db.specs.Writing.{entry_in}
use Rattle.disk_model.specs.Disk.{contents_of}
use Rattle.disk_model.specs.Pair.{BothTell, DiskPair, FaultOnEither, NoneFell}
use Rattle.modes.specs.declared.did.StartWhy0.TheVariants.{None as NoWhy, Why}
use Rattle.modes.specs.Modes.{start_status}
use Rattle.session_history.specs.declared.history.Happened.{Happened}
use Rattle.session_history.specs.declared.history.History.{History}
use Rattle.session_history.specs.Events.{Leads, StaysAccepted, IsEventOf}
use Rattle.session_shell.specs.declared.turn.How.{How}
use Rattle.session_shell.specs.declared.turn.Turn.{Turn}
use Rattle.session_shell.specs.declared.turn.Turn.TheVariants.{Kept as KeptAt, KeptDry, KeptSynced}
use Rattle.session_shell.specs.declared.turn.Turn.TheVariants.{Seen, SeenDry, Denied, Unready, Local, NoMemory}
use Rattle.session_shell.specs.Transcript.{EndView}
use Rattle.stored_ledger.specs.declared.why.StartWhy.{StartWhy}
use Rattle.stored_ledger.specs.Starting.{IsFound, IsNotFound}
use Rattle.stored_ledger.specs.Stored.{HoldsKept, SpellsKept}
use Rattle.session_threads.specs.Adding.{unready_in}
use Rattle.session_threads.specs.Looks.{HasTicked, TickerView}
use Rattle.session_threads.specs.Results.{IsResult, SessionResult, status_of_all}
use Rattle.session_threads.specs.Syncs.{SaysAlone}
use Rattle.service.specs.Run.{NothingHappened}
use Rattle.service.specs.World.{Told, Views, World}

-- the start was refused, for a cause that has a status of its own: nothing happened, and the ends and the ticker are as they were
-- given
pub record IsNotStarted {E T D : Type 0} (see : Views E T D) (before after : World E T D) (told : Told) : Type 0 where
  pub cause : StartWhy
  pub why : told.why ≡ Why cause
  pub status_is : told.status ≡ start_status cause
  pub idle : NothingHappened told
  pub ends_same : after.ends ≡ before.ends
  pub ticker_same : after.ticker ≡ before.ticker
  pub disks : IsNotFound (see.disks before.a before.b) cause (see.disks after.a after.b)

-- the sessions of these ends, as callers 1, 2 and so on, over these events: they ended so; their users' rights are asked of each
-- command where the words ask for that
pub record HaveSessions {E : Type 0} (view : E → EndView) (opening : State) (asked : Asked) (ends ends' : List E)
    (turns : List (List Turn)) (events : List Happened) (hows : List How) : Type 0 where
  pub results : List (SessionResult E)
  pub old : map (λ result. result.old) results ≡ ends
  pub new : map (λ result. result.new) results ≡ ends'
  pub turned : map (λ result. result.turns) results ≡ turns
  pub ended : map (λ result. result.how) results ≡ hows
  pub each : (k : ℕ) (result : SessionResult E) → slice_get results k ≡ Some result
      → IsResult view opening asked.limits.input asked.access events (k + 1) result

-- the lists of commits by which turns were answered without an event have no fewer entries from turn to turn, none less than so
-- many, and none more than so many
abbrev pub FrontsGo : ℕ → ℕ → List Turn → Type 0
FrontsGo least most [] = Unit {0}
FrontsGo least most (KeptAt place ∷ turns) = FrontsGo least most turns
FrontsGo least most (KeptDry place ∷ turns) = FrontsGo least most turns
FrontsGo least most (KeptSynced place synced ∷ turns) = FrontsGo least most turns
FrontsGo least most (Seen front moment ∷ turns) = (least ≤ front) × (front ≤ most) × FrontsGo front most turns
FrontsGo least most (SeenDry front moment ∷ turns) = (least ≤ front) × (front ≤ most) × FrontsGo front most turns
FrontsGo least most (Denied front right moment ∷ turns) = (least ≤ front) × (front ≤ most) × FrontsGo front most turns
FrontsGo least most (Unready front moment ∷ turns) = (least ≤ front) × (front ≤ most) × FrontsGo front most turns
FrontsGo least most (Local fault ∷ turns) = FrontsGo least most turns
FrontsGo least most (NoMemory ∷ turns) = FrontsGo least most turns

-- the events are those of callers 1 to count, and of caller 0, which is the ticker; after them nobody settles what is in
-- flight, where something is, at the greatest moment so far
pub record AreTheirs (opening : State) (count : ℕ) (ticker ticker' : TickerView) (events : List Happened) : Type 0 where
  pub asked : List Happened
  pub closing : List Happened
  pub are : events ≡ asked ++ closing
  pub callers : AllByRecursion (λ event. event.caller ≤ count) asked
  pub ticked : HasTicked opening ticker ticker' asked
  pub before : State
  pub leads : Leads opening asked before
  pub settles : (closing ≡ []) ⊎ IsOneSettling closing
  pub made : AllByRecursion (IsEventOf 0 before.greatest) closing

-- what happened: a legal history over this list, for these users, that keeps the active configuration accepted
pub record HasHappened (kept : Kept) (users : List (List ℕ)) (ticker ticker' : TickerView) (history : History) : Type 0 where
  pub opening : history.opening ≡ Some kept
  pub users_are : history.users ≡ users
  pub last : State
  pub leads : Leads (opening_of kept users) history.events.items last
  pub theirs : AreTheirs (opening_of kept users) (length users) ticker ticker' history.events.items
  pub accepted : StaysAccepted (opening_of kept users) history.events.items

-- what the disks hold of a history that ends in this state, where they tell what they hold
pub record AreStored (before start : DiskPair) (opening last : State) (happened : History) (after : DiskPair) : Type 0 where
  pub tells_a : after.a.tells ≡ before.a.tells
  pub tells_b : after.b.tells ≡ before.b.tells
  -- they made the calls since the start that the history reports
  pub called : BothTell before → HaveCalled start after happened.made
  -- the numbers of calls don't fall from event to event
  pub rising : AreRising none_called happened.events.items happened.made
  -- a crash at any moment since the start leaves the list of that moment, with the entry of that moment or without
  pub crash_safe : BothTell before → IsCrashSafe opening happened.events.items happened.made after.a.history after.b.history
  -- they hold the list at the end, and of an entry that is in flight still it isn't known
  pub held : BothTell before → HoldsKept after.a.history after.b.history last.kept (entry_in last.flight)

-- an event has the outcome of a fault only where a disk's count of faults rose in this run, and no count falls; the commands
-- that have it are at most as many as the counts rose by, and so are the other events
pub record HaveCauses (before after : DiskPair) (events : List Happened) (turns : List (List Turn)) : Type 0 where
  pub later : NoneFell before after
  pub causes : AllByRecursion (λ event. event.outcome ≡ Fault → FaultOnEither before after) events
  pub counted : FaultsAreCounted events before after
  -- and so are those commands together with the turns of all sessions that found a disk not ready
  pub unready : RoseBy (count_by is_failed_command events + unready_in turns) before after

-- the status of a run whose sessions ended so, by whether an entry is in flight at its end
abbrev pub status_at_end : Bool → List How → ℕ
status_at_end true hows = 4
status_at_end false hows = status_of_all hows

-- a run that ends in this state: an entry is in flight still only where one call more failed than the events account for
pub record IsEnded (before after : DiskPair) (last : State) (events : List Happened) (hows : List How) (status : ℕ)
    : Type 0 where
  pub commands : IsSome last.flight → RoseBy (count_by is_failed_command events + 1) before after
  pub others : IsSome last.flight → RoseBy (count_by is_failed_other events + 1) before after
  pub status_is : status ≡ status_at_end (is_some last.flight) hows

-- the sessions were served over the list that the disks held, with the ticker beside them
pub record IsServed {E T D : Type 0} (see : Views E T D) (asked : Asked) (before after : World E T D) (told : Told) : Type 0 where
  pub kept : Kept
  -- the disks as the start left them
  pub start : DiskPair
  pub found : IsFound (see.disks before.a before.b) start kept
  pub hows : List How
  pub sessions : HaveSessions see.end (opening_of kept asked.users) asked before.ends after.ends told.turns
      told.history.events.items hows
  pub happened : HasHappened kept asked.users (see.ticker before.ticker) (see.ticker after.ticker) told.history
  -- what each session was shown has no fewer entries than the list at the opening, and no more than that at the end
  pub fronts : AllByRecursion (FrontsGo kept.count happened.last.kept.count) told.turns
  -- each commit that was to be synchronized, and was made, is answered so: there is no backup
  pub synced : AllByRecursion (AllByRecursion SaysAlone) told.turns
  pub stored : AreStored (see.disks before.a before.b) start (opening_of kept asked.users) happened.last told.history
      (see.disks after.a after.b)
  pub causes : HaveCauses (see.disks before.a before.b) (see.disks after.a after.b) told.history.events.items told.turns
  pub ended : IsEnded (see.disks before.a before.b) (see.disks after.a after.b) happened.last told.history.events.items hows
      told.status
  pub why : told.why ≡ NoWhy

-- both disks tell what they hold, their files spell a list, and neither's count of faults rose
pub record HaveNoFault (before after : DiskPair) : Type 0 where
  pub tell : BothTell before
  pub kept : Kept
  pub spelled : SpellsKept (contents_of before.a.history) (contents_of before.b.history) kept
  pub no_fault : FaultOnEither before after → ⊥

-- both disks tell what they hold, no journal is there, and neither's count of faults rose
pub record HaveNoJournal (before after : DiskPair) : Type 0 where
  pub tell : BothTell before
  pub none_there : IsThere (contents_of before.a.history) (contents_of before.b.history) → ⊥
  pub no_fault : FaultOnEither before after → ⊥

-- the disks are such as this mode needs, and neither's count of faults rose; mode gen calls none
abbrev pub HasDisksFor : RunMode → DiskPair → DiskPair → Type 0
HasDisksFor Init before after = HaveNoJournal before after
HasDisksFor Serve before after = HaveNoFault before after
HasDisksFor Check before after = HaveNoFault before after
HasDisksFor Gen before after = Unit {0}
