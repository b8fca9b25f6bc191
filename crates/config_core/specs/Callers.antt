-- The callers of a state: how each edits, where it stands, and which candidate it edits.
-- Junos OS CLI User Guide, on configure, configure private and configure exclusive.
use Rattle.std.specs.Prelude.{ℕ, ◌-◌, ◌<◌, ◌≤◌, ◌==◌, List, [], length, Bool, false, if◌then◌else◌, Option, None, Some, unwrap_or, slice_get, slice_set}
use Rattle.candidate.specs.Edits.{CandidateView}
use Rattle.commands.specs.declared.command.Mode.{Mode}
use Rattle.commands.specs.declared.command.Mode.TheVariants.{Private, Exclusive}
use Rattle.commit_ledger.specs.Kept.{Kept}
use Rattle.cfg_base.specs.declared.path.Step.{Step}
use Rattle.config_core.specs.declared.caller.Caller.{Caller}
use Rattle.config_core.specs.Levels.{Position, at_top}
use Rattle.config_core.specs.State.{State, fresh_of, operational}

-- callers are numbered from 1
abbrev pub IsCaller : State → ℕ → Type 0
IsCaller s caller = (0 < caller) × (caller ≤ length s.callers)

-- that caller; nobody has the number of none
abbrev pub caller_in : Option Caller → Caller
caller_in None = operational []
caller_in (Some c) = c

abbrev pub caller_of : State → ℕ → Caller
caller_of s caller = caller_in (slice_get s.callers (caller - 1))

-- where that caller stands
abbrev pub position_of : State → ℕ → Position
position_of s caller = (caller_of s caller).position

abbrev pub level_of : State → ℕ → List Step
level_of s caller = (position_of s caller).level

-- the caller edits so from now on, and stands there
abbrev pub with_caller : State → ℕ → Option Mode → Position → State
with_caller s caller mode position =
    record s { callers = slice_set s.callers (caller - 1) (record { user = (caller_of s caller).user; mode = mode; position = position }) }

-- the caller stands there from now on
abbrev pub with_position : State → ℕ → Position → State
with_position s caller position = with_caller s caller (caller_of s caller).mode position

-- the caller's own candidate, which it has in private mode
abbrev pub own_in : Option (Option CandidateView) → Option CandidateView
own_in None = None
own_in (Some own) = own

abbrev pub own_of : State → ℕ → Option CandidateView
own_of s caller = own_in (slice_get s.own (caller - 1))

-- the candidate that the caller edits: its own one, or else the shared one
abbrev pub candidate_of : State → ℕ → CandidateView
candidate_of s caller = unwrap_or (own_of s caller) s.shared

-- the shared candidate, and the private sessions' own, where a caller with such an own candidate, or none, edits another one
-- from now on
abbrev pub shared_with : Option CandidateView → CandidateView → CandidateView → CandidateView
shared_with None shared next = next
shared_with (Some own) shared next = shared

abbrev pub owns_with : Option CandidateView → List (Option CandidateView) → ℕ → CandidateView → List (Option CandidateView)
owns_with None owns caller next = owns
owns_with (Some own) owns caller next = slice_set owns (caller - 1) (Some next)

-- the candidate that the caller edits is another one from now on
abbrev pub with_candidate : State → ℕ → CandidateView → State
with_candidate s caller next =
    record s { shared = shared_with (own_of s caller) s.shared next; own = owns_with (own_of s caller) s.own caller next }

-- the caller is the one that is in exclusive mode
abbrev pub holds : Option ℕ → ℕ → Bool
holds None caller = false
holds (Some holder) caller = holder == caller

-- who is in exclusive mode when a caller enters configuration mode, and when it leaves it
abbrev pub holder_after : Mode → ℕ → Option ℕ → Option ℕ
holder_after Exclusive caller holder = Some caller
holder_after mode caller holder = holder

abbrev pub holder_without : ℕ → Option ℕ → Option ℕ
holder_without caller holder = if holds holder caller then None else holder

-- the own candidate of a session that enters configuration mode: in private mode it is that of the last commit
abbrev pub own_for : Mode → Kept → Option CandidateView
own_for Private kept = Some (fresh_of kept.last)
own_for mode kept = None

-- the caller edits so from now on, at the top
abbrev pub entered : State → ℕ → Mode → State
entered s caller mode = record (with_caller s caller (Some mode) at_top) {
  exclusive = holder_after mode caller s.exclusive;
  own = slice_set s.own (caller - 1) (own_for mode s.kept);
}

-- the caller is in operational mode from now on: others may change the shared candidate, and its own one is gone
abbrev pub out_of_mode : State → ℕ → State
out_of_mode s caller = record (with_caller s caller None at_top) {
  exclusive = holder_without caller s.exclusive;
  own = slice_set s.own (caller - 1) None;
}

-- the caller leaves the mode: what it changed in exclusive mode and didn't commit is discarded
abbrev pub without_mode : State → ℕ → State
without_mode s caller = record (out_of_mode s caller) {
  shared = if holds s.exclusive caller then fresh_of s.kept.last else s.shared;
}
