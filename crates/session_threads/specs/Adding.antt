-- What adds up over the events of a run. This project's own.
use Rattle.std.specs.Prelude.{◌+◌, ℕ, Bool, true, false, List, [], ◌∷◌, count_by, length}
use Rattle.std.specs.List.{AllByRecursion}
use Rattle.commit_journal.specs.Journal.{Tell, disks_of}
use Rattle.config_db.specs.declared.answer.Answered.{Answered}
use Rattle.config_db.specs.declared.answer.Answered.TheVariants.{Kept, NoMemory}
use Rattle.config_db.specs.Crash.{BothCalled}
use Rattle.config_db.specs.Disks.{GoesOn}
use Rattle.config_db.specs.Faults.{FaultsAreCounted, RoseBy, is_failed_command}
use Rattle.config_db.specs.Moves.{HasCause}
use Rattle.config_db.specs.View.{DatabaseView, IsSameRun}
use Rattle.session_history.specs.declared.history.Happened.{Happened}
use Rattle.session_shell.specs.declared.door.Given0.{Given0}
use Rattle.session_shell.specs.declared.door.Given0.TheVariants.{Kept as KeptAt, Seen, Denied, Unready, NoMemory as Wanting}
use Rattle.session_shell.specs.declared.turn.Turn.{Turn}
use Rattle.session_shell.specs.declared.turn.Turn.TheVariants.{Unready as UnreadyTurn}
use Rattle.session_threads.specs.declared.noted.Note.{Note}

-- what adds up over the events of a run: it began over the same list for the same users, its disks went on, and an event has the
-- outcome of a fault only where a disk's count of faults rose, no more of them than it rose by
pub record AddsUp (own : List Happened) (v v' : DatabaseView) : Type 0 where
  pub same : IsSameRun v v'
  pub goes : GoesOn v.journal v'.journal
  pub called : Tell v.journal → BothCalled v.journal v'.journal
  pub causes : AllByRecursion (HasCause v.journal v'.journal) own
  pub counted : FaultsAreCounted own (disks_of v.journal) (disks_of v'.journal)

-- the commands that ended with a fault and the notes are together at most as many as the disks' counts of faults rose by
abbrev pub NotesAreCounted : List Happened → List Note → DatabaseView → DatabaseView → Type 0
NotesAreCounted own notes v v' = RoseBy (count_by is_failed_command own + length notes) (disks_of v.journal) (disks_of v'.journal)

-- what was given, as the database answered
abbrev pub given_of : Answered → Given0
given_of (Kept place reply) = KeptAt place reply
given_of NoMemory = Wanting

-- what the database answered to the command: nothing, where it was refused before it was asked
abbrev pub answered_of : Given0 → Answered
answered_of (KeptAt place reply) = Kept place reply
answered_of (Seen front reply) = NoMemory
answered_of (Denied front right) = NoMemory
answered_of (Unready front) = NoMemory
answered_of Wanting = NoMemory

-- a turn of a command that became no event, since a disk failed before it
abbrev pub is_unready : Turn → Bool
is_unready (UnreadyTurn front moment) = true
is_unready turn = false

-- how many such turns sessions took
abbrev pub unready_in : List (List Turn) → ℕ
unready_in [] = 0
unready_in (turns ∷ more) = count_by is_unready turns + unready_in more

-- the commands that ended with a fault and such turns are together at most as many as the disks' counts of faults rose by
abbrev pub TurnsAreCounted : List Happened → List (List Turn) → DatabaseView → DatabaseView → Type 0
TurnsAreCounted events turns v v' = RoseBy (count_by is_failed_command events + unready_in turns) (disks_of v.journal) (disks_of v'.journal)
