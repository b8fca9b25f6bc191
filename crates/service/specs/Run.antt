-- What the words of a run ask, and what it hands back where nothing happened or nothing failed. This project's own.
use Rattle.std.specs.Prelude.{◌≡◌, ◌⊎◌, ◌≤◌, ℕ, List, [], length, slice_get, Option, None, Some}
use Rattle.cfg_base.specs.Counts.{Rose}
use Rattle.command_line.specs.Asked.{Asks}
use Rattle.command_line.specs.declared.asked.Asked.{Asked}
use Rattle.modes.specs.declared.did.StartWhy0.TheVariants.{None as NoWhy}
use Rattle.session_history.specs.declared.history.History.{History}
use Rattle.session_shell.specs.declared.end.End.{End}
use Rattle.session_shell.specs.Transcript.{EndView}
use Rattle.session_threads.specs.Results.{users_of_ends}
use Rattle.service.specs.World.{Told, World}

-- the words ask something
abbrev pub IsAsking : List (List ℕ) → Type 0
IsAsking words = (asked : Asked) × Asks words asked

-- what the words ask, which may be nothing
abbrev pub WordsAsk : List (List ℕ) → Option Asked → Type 0
WordsAsk words None = IsAsking words → ⊥
WordsAsk words (Some asked) = Asks words asked

-- the words ask for these ends: one for each user, in order
abbrev pub AreEnds : {S K C : Type 0} → List (List ℕ) → List (End S K C) → Type 0
AreEnds words ends = (asked : Asked) → Asks words asked → users_of_ends ends ≡ asked.users

-- a history of nothing
pub record IsEmpty (history : History) : Type 0 where
  pub no_opening : history.opening ≡ None
  pub no_events : history.events.items ≡ []
  pub no_users : history.users ≡ []
  pub no_calls : history.made ≡ record { a = 0; b = 0 }

-- nothing happened: no session was begun, and no disk was called
pub record NothingHappened (told : Told) : Type 0 where
  pub no_turns : told.turns ≡ []
  pub nothing : IsEmpty told.history

-- nothing was done: all objects come back as they were given, and no start was refused
pub record NothingWasDone {E T D : Type 0} (before after : World E T D) (told : Told) : Type 0 where
  pub idle : NothingHappened told
  pub why : told.why ≡ NoWhy
  pub same : after ≡ before

-- memory ran out before anything was done
abbrev pub IsUndone : {E T D : Type 0} → World E T D → World E T D → Told → Type 0
IsUndone before after told = (told.status ≡ 9) × NothingWasDone before after told

-- words that ask nothing were refused, or memory ran out for them
abbrev pub IsUsageRefused : {E T D : Type 0} → World E T D → World E T D → Told → Type 0
IsUsageRefused before after told = ((told.status ≡ 1) ⊎ (told.status ≡ 9)) × NothingWasDone before after told

-- an input that is told and no longer than the limit
abbrev pub IsWithinLimit : ℕ → Option (List ℕ) → Type 0
IsWithinLimit limit None = ⊥
IsWithinLimit limit (Some bytes) = length bytes ≤ limit

-- no count of faults of an end rose, and its input is within its limit
pub record IsFaultless (limit : ℕ) (old new : EndView) : Type 0 where
  pub source : Rose old.source.faults new.source.faults → ⊥
  pub sink : Rose old.sink.faults new.sink.faults → ⊥
  pub fits : IsWithinLimit limit old.source.left

-- what holds of each end, before and after
abbrev pub EachEnd : {E : Type 0} → (E → E → Type 0) → List E → List E → Type 0
EachEnd {E} Is ends ends' =
    (k : ℕ) (old new : E) → slice_get ends k ≡ Some old → slice_get ends' k ≡ Some new → Is old new
