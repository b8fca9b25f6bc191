-- What one ask of a caller makes of the database under the lock. This project's own.
use Rattle.std.specs.Prelude.{◌≡◌, ℕ, List, [], ◌∷◌, ◌++◌, length, Option, IsSome}
use Rattle.commands.specs.declared.command.Command.{Command}
use Rattle.config_db.specs.declared.answer.Ticked.{Ticked}
use Rattle.config_db.specs.declared.answer.Answered.{Answered}
use Rattle.config_db.specs.Answers.{Answers, IsClear, IsNext, MakesWay, moment_at}
use Rattle.config_db.specs.View.{DatabaseView, opened}
use Rattle.session_shell.specs.declared.door.Given0.{Given0}
use Rattle.turn_lock.specs.Histories.{AddsOwn}
use Rattle.session_threads.specs.declared.asking.Readied.{Readied}
use Rattle.session_threads.specs.declared.asking.Readied.TheVariants.{Ready, Unready, NoMemory}
use Rattle.session_threads.specs.declared.noted.Noted.{Noted}
use Rattle.session_threads.specs.Access.{Asker, IsJudged}
use Rattle.session_threads.specs.Adding.{answered_of}
use Rattle.session_threads.specs.Noted.{caller_in, merged, notes_of}
use Rattle.session_threads.specs.Passes.{FollowsAlone, notes_given}
use Rattle.session_threads.specs.Served.{ServedView}

-- the history that the lock shows
abbrev pub history_of : ServedView → List Noted
history_of v = merged 0 v.database.events v.notes

-- a caller over the list that the database began with, with its user where rights are asked
abbrev pub asker_at : DatabaseView → ℕ → Option (List ℕ) → Asker
asker_at first caller asks = record { opening = opened first; caller = caller; asks = asks }

-- a command was asked: what was needed before it was done, and then it was asked where it is allowed
pub record Asks (asker : Asker) (command : Command) (answer : ℕ) (given : Given0) (v v' : ServedView) : Type 0 where
  pub first : v'.first ≡ v.first
  pub follows : FollowsAlone v.first asker.caller v.database.events command answer (answered_of given) v'.database.events
  pub judged : IsJudged asker v'.database.events command given
  pub adds : AddsOwn caller_in asker.caller (history_of v) (history_of v')
  pub noted : notes_of (history_of v') ≡ notes_of (history_of v) ++ notes_given asker.caller given

-- the database was asked a command; nothing else changed
pub record Puts (caller answer : ℕ) (command : Command) (answered : Answered) (v v' : ServedView) : Type 0 where
  pub first : v'.first ≡ v.first
  pub notes : v'.notes ≡ v.notes
  pub answers : Answers caller (moment_at answer v.database) command answered v.database v'.database
  pub next : IsClear (moment_at answer v.database) v.database → IsNext answered v.database.events v'.database.events

-- what was needed before a command at a moment was done, or a disk failed, or memory ran out; of a disk's fault there is a note
abbrev pub ReadiesBy : Readied → ℕ → ℕ → ServedView → ServedView → Type 0
ReadiesBy Ready caller moment v v' = (v'.notes ≡ v.notes) × IsClear moment v'.database
ReadiesBy Unready caller moment v v' =
    (v'.notes ≡ v.notes ++ record { before = length v'.database.events; caller = caller } ∷ []) × IsSome v'.database.state.flight
ReadiesBy NoMemory caller moment v v' = v'.notes ≡ v.notes

pub record Readies (caller answer : ℕ) (readied : Readied) (v v' : ServedView) : Type 0 where
  pub first : v'.first ≡ v.first
  pub ticked : Ticked
  pub way : MakesWay caller (moment_at answer v.database) ticked v.database v'.database
  pub by : ReadiesBy readied caller (moment_at answer v.database) v v'
