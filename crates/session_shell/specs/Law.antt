-- What a session's door names, and when two sessions have one text. This project's own.
use Rattle.std.specs.Prelude.{◌≡◌, ℕ, zero, suc, Bool, true, false, List, [], ◌∷◌, Option, None, Some, ◌⊎◌}
use Rattle.std.specs.List.{AllByRecursion}
use Rattle.cfg_base.specs.Counts.{Rose}
use Rattle.commands.specs.declared.command.Command.{Command}
use Rattle.session_shell.specs.declared.turn.How.{How}
use Rattle.session_shell.specs.declared.turn.How.TheVariants.{Clean, InputFull}
use Rattle.session_shell.specs.declared.turn.Turn.{Turn}
use Rattle.session_shell.specs.declared.turn.Turn.TheVariants.{Kept, KeptDry, KeptSynced, Seen, SeenDry, Denied, Unready, Local, NoMemory}
use Rattle.session_shell.specs.declared.door.Given0.{Given0}
use Rattle.session_shell.specs.declared.door.Given0.TheVariants.{NoMemory as Wanting}
use Rattle.session_shell.specs.declared.door.SyncedTurn.{SyncedTurn}
use Rattle.session_shell.specs.declared.door.SyncedTurn.TheVariants as sync
use Rattle.session_shell.specs.Exchange.{Basis, Exchange, Asked, Failure, Lack, Refused, Snapshot, Wanted, basis_of, place_of}
use Rattle.session_shell.specs.Shows.{SeesShow}
use Rattle.session_shell.specs.Transcript.{Following, IsTranscript, Naming, SessionView, Syncing, side}

-- what the door gave for an item is what it names
abbrev pub IsNamed : {D : Type 0} → Naming D → D → Exchange → Type 0
IsNamed names d (Asked moment command given manner) = names d command moment given
IsNamed names d (Refused moment fault) = Unit {0}
IsNamed names d (Wanted moment) = Unit {0}

-- an item that was answered from a snapshot is a show of the active configuration or of the commits
abbrev pub IsShown : Exchange → Type 0
IsShown (Asked moment command given manner) = SeesShow command given
IsShown (Refused moment fault) = Unit {0}
IsShown (Wanted moment) = Unit {0}

-- two doors name the same for a command, a moment and a place, and on the same basis
abbrev pub Agree : {D : Type 0} → Naming D → D → D → Type 0
Agree names d e =
    (command : Command) (moment : ℕ) (given other : Given0) → names d command moment given
    → names e command moment other → place_of given ≡ place_of other → basis_of given ≡ basis_of other → given ≡ other

-- a door that is asked one command at one moment has one way to go on, where memory doesn't run out, and so has one that is
-- synchronized
pub record IsDetermined {D : Type 0} (follows : Following D) (syncs : Syncing D) : Type 0 where
  pub one_ask : (d e e' : D) (command : Command) (moment : ℕ) (given given' : Given0)
      → follows d command moment given e → follows d command moment given' e'
      → (given ≡ Wanting → ⊥) → (given' ≡ Wanting → ⊥) → (given ≡ given') × (e ≡ e')
  pub one_sync : (d e e' : D) (synced synced' : SyncedTurn) → syncs d synced e → syncs d synced' e'
      → (synced ≡ sync.NoMemory → ⊥) → (synced' ≡ sync.NoMemory → ⊥) → (synced ≡ synced') × (e ≡ e')

-- the places of the events among these turns
abbrev pub kept_place : Turn → List ℕ
kept_place (Kept place) = place ∷ []
kept_place (KeptDry place) = place ∷ []
kept_place (KeptSynced place synced) = place ∷ []
kept_place (Seen front moment) = []
kept_place (SeenDry front moment) = []
kept_place (Denied front right moment) = []
kept_place (Unready front moment) = []
kept_place (Local fault) = []
kept_place NoMemory = []

-- on what a turn rests that was answered without an event
abbrev pub turn_basis : Turn → Option Basis
turn_basis (Kept place) = None
turn_basis (KeptDry place) = None
turn_basis (KeptSynced place synced) = None
turn_basis (Seen front moment) = Some (Snapshot front)
turn_basis (SeenDry front moment) = Some (Snapshot front)
turn_basis (Denied front right moment) = Some (Lack front right)
turn_basis (Unready front moment) = Some (Failure front)
turn_basis (Local fault) = None
turn_basis NoMemory = None

-- the same, of the turn with that number, counted from 0
abbrev pub basis_at : List Turn → ℕ → Option Basis
basis_at [] number = None
basis_at (turn ∷ turns) zero = turn_basis turn
basis_at (turn ∷ turns) (suc number) = basis_at turns number

-- the same ones of two sessions' turns were answered without an event, and these rest on the same: on snapshots of as many entries,
-- on the same right that is lacking, or on the fault of a disk
abbrev pub SeeAlike : List Turn → List Turn → Type 0
SeeAlike one other = (number : ℕ) → basis_at one number ≡ basis_at other number

-- what was answered to `synchronize` in these turns
abbrev pub synced_in : Turn → List SyncedTurn
synced_in (KeptSynced place synced) = synced ∷ []
synced_in turn = []

-- memory ran out for a `synchronize`
abbrev pub wants_sync : SyncedTurn → Bool
wants_sync (sync.Synced synced) = false
wants_sync sync.NoMemory = true

-- memory ran out for an item, for the JSON of what was given for it, or for its `synchronize`
abbrev pub is_wanting : Turn → Bool
is_wanting (Kept place) = false
is_wanting (KeptDry place) = true
is_wanting (KeptSynced place synced) = wants_sync synced
is_wanting (Seen front moment) = false
is_wanting (SeenDry front moment) = true
is_wanting (Denied front right moment) = false
is_wanting (Unready front moment) = false
is_wanting (Local fault) = false
is_wanting NoMemory = true

-- one session over told bytes, a told clock and a told sink that is empty at first; no fault ended it, its sink's count of
-- faults didn't rise, and memory ran out for none of its items
pub record Undisturbed {D : Type 0} (follows : Following D) (syncs : Syncing D) (limit : ℕ) (bytes : List ℕ) (coming : ℕ → ℕ) (d e : D)
    (new : SessionView) : Type 0 where
  pub how : How
  pub source : Option (List ℕ)
  pub faults : ℕ
  pub session : IsTranscript follows syncs limit how
      (side (Some bytes) d (record { coming = Some coming; held = Some []; faults = faults; turns = [] })) (side source e new)
  pub ended : (how ≡ Clean) ⊎ (how ≡ InputFull)
  pub no_fault : Rose faults new.faults → ⊥
  pub no_want : AllByRecursion (λ turn. is_wanting turn ≡ false) new.turns
