-- The newest of the entries that were added, as they are held for who asks for them. This project's own.
use Rattle.std.specs.Prelude.{◌≡◌, ◌≤◌, ◌+◌, Bool, true, false, List, [], ◌∷◌, ◌++◌, length, Option, None, Some, IfSome}
use Rattle.commit_ledger.specs.declared.entry.Entry.{Entry}
use Rattle.config_core.specs.declared.event.Outcome.{Outcome}
use Rattle.config_core.specs.declared.event.Outcome.TheVariants.{Done, Fault}
use Rattle.config_core.specs.State.{State, Made}
use Rattle.session_history.specs.declared.history.Happened.{Happened}
use Rattle.config_db.specs.declared.holding.TheConstants.{MOST_HELD}
use Rattle.config_db.specs.View.{DatabaseView, opened}
use Rattle.config_db.specs.Added.{Adds}
use Rattle.config_db.specs.Writing.{entry_in}

-- the entries that are held, oldest first, and a copy of the one in flight, which is held once that is found to be kept
pub record HeldView : Type 0 where
  pub entries : List Entry
  pub waits : Option Entry

-- a list without some of its first ones
abbrev pub IsRest : List Entry → List Entry → Type 0
IsRest all rest = (front : List Entry) × (all ≡ front ++ rest)

-- what is held are the last of the entries that these events added, and what waits is the one in flight
pub record HoldsAdded (first : State) (events : List Happened) (s : State) (held : HeldView) : Type 0 where
  pub added : List Entry
  pub adds : Adds first events s added
  pub rest : IsRest added held.entries
  pub waits : IfSome held.waits (λ copy. entry_in s.flight ≡ Some copy)

-- an entry was written: it is the last one that is held, or none is. Where a disk failed a copy of it waits, or none does
abbrev pub HoldsMade : Option Made → Outcome → HeldView → HeldView → Type 0
HoldsMade None outcome h h' = h' ≡ h
HoldsMade (Some made) Done h h' = IsRest (h.entries ++ made.entry ∷ []) h'.entries × (h'.waits ≡ h.waits)
HoldsMade (Some made) Fault h h' = (h'.entries ≡ h.entries) × IfSome h'.waits (λ copy. copy ≡ made.entry)

-- an entry comes behind those that are held: whichever one it is of which this is a copy, or of which there is none
abbrev pub IsPut : Option Entry → List Entry → List Entry → Type 0
IsPut copy held held' = (entry : Entry) → IfSome copy (λ one. one ≡ entry) → IsRest (held ++ entry ∷ []) held'

-- the entry in flight was found to be kept or not, and nothing waits any more
pub record HoldsSettled (is_kept : Bool) (h h' : HeldView) : Type 0 where
  pub kept : is_kept ≡ true → IsPut h.waits h.entries h'.entries
  pub lost : is_kept ≡ false → h'.entries ≡ h.entries
  pub waits : h'.waits ≡ None

-- these are the last of the entries that were added since the opening, and not too many
pub record AreAppended (v : DatabaseView) (held : List Entry) : Type 0 where
  -- all that were added, of which none was in flight at the end: the list that is kept has so many more than at the opening
  pub added : List Entry
  pub adds : Adds (opened v) v.events v.state added
  pub counted : v.state.kept.count ≡ v.opening.count + length added
  pub rest : IsRest added held
  pub few : length held ≤ MOST_HELD
