-- The state of the machine between two events.
use Rattle.std.specs.Prelude.{◌≢◌, ◌<◌, ℕ, List, map, Option, None, IfSome}
use Rattle.candidate.specs.Edits.{CandidateView, fresh}
use Rattle.commit_check.specs.Accepts.{Accepts}
use Rattle.commit_ledger.specs.declared.entry.Commit.{Commit}
use Rattle.commit_ledger.specs.declared.entry.Entry.{Entry}
use Rattle.commit_ledger.specs.Kept.{Kept, active_of}
use Rattle.config_core.specs.declared.caller.Caller.{Caller}
use Rattle.config_core.specs.declared.effect.Maker.{Maker}
use Rattle.config_core.specs.declared.effect.Maker.TheVariants.{Command, Deadline, Schedule}
use Rattle.config_core.specs.Levels.{at_top}

-- an entry that is made, and what made it
pub record Made : Type 0 where
  pub entry : Entry
  pub maker : Maker

pub record State : Type 0 where
  -- what the list of entries leaves
  pub kept : Kept
  -- the candidate of the sessions that edit together or alone
  pub shared : CandidateView
  -- the candidates of the sessions in private mode, a place for each session
  pub own : List (Option CandidateView)
  -- the session that is in exclusive mode
  pub exclusive : Option ℕ
  -- the sessions, numbered from 1
  pub callers : List Caller
  -- the entry in flight: it isn't known to be kept
  pub flight : Option Made
  -- the greatest moment of an event
  pub greatest : ℕ

-- the candidate of a commit, without edits
abbrev pub fresh_of : Commit → CandidateView
fresh_of commit = fresh commit.number commit.tree

-- a session that has not begun to edit; it stands at the top
abbrev pub operational : List ℕ → Caller
operational user = record { user = user; mode = None; position = at_top }

-- such a session has no candidate of its own
abbrev pub nothing_own : List ℕ → Option CandidateView
nothing_own user = None

-- how the service starts over a kept value: everyone in operational mode, the candidate that of the last commit, nothing in
-- flight
abbrev pub opening_of : Kept → List (List ℕ) → State
opening_of kept users = record {
  kept = kept;
  shared = fresh_of kept.last;
  own = map nothing_own users;
  exclusive = None;
  callers = map operational users;
  flight = None;
  greatest = kept.moment;
}

-- the active configuration keeps the rules that a commit asks of it
abbrev pub IsActiveAccepted : State → Type 0
IsActiveAccepted s = Accepts (active_of s.kept)

-- what makes an entry isn't this caller's command
abbrev pub IsNoCommandOf : ℕ → Maker → Type 0
IsNoCommandOf caller (Command maker) = (0 < maker) × (caller ≢ maker)
IsNoCommandOf caller Deadline = Unit {0}
IsNoCommandOf caller (Schedule same) = Unit {0}

-- nothing is in flight that this caller's command made
abbrev pub HasNoneInFlight : State → ℕ → Type 0
HasNoneInFlight s caller = IfSome s.flight (λ made. IsNoCommandOf caller made.maker)
