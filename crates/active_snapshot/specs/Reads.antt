-- What a read answers. Junos OS CLI User Guide, on commits that require a confirmation; that a read stops at a missed deadline
-- is this project's own.
use Rattle.std.specs.Prelude.{ℕ, ◌≡◌, ◌≤◌, true, false, List, length, Some}
use Rattle.std.specs.Arc.{arc_value}
use Rattle.commit_ledger.specs.Kept.{Kept, Unconfirmed, is_revert_due}
use Rattle.active_snapshot.specs.Views.{IsLast}
use Rattle.active_snapshot.specs.declared.reader.Read.{Read}
use Rattle.active_snapshot.specs.declared.reader.Read.TheVariants.{Due, At}

-- the answer of a view at a moment: its front, and the deadline where it has come, else the view
abbrev pub IsAnswer : Kept → ℕ → Read → Type 0
IsAnswer view moment (Due front deadline) =
    (front ≡ view.count) × (is_revert_due view moment ≡ true)
    × ((run : Unconfirmed) × (view.pending ≡ Some run) × (deadline ≡ run.deadline))
IsAnswer view moment (At front shown) = (front ≡ view.count) × (is_revert_due view moment ≡ false) × (arc_value shown ≡ view)

-- the answer of the last view of a list
abbrev pub IsReadOf : List Kept → ℕ → Read → Type 0
IsReadOf list moment read = (view : Kept) × IsLast list view × IsAnswer view moment read

-- memory may run out for a view that is handed out; the answer that its deadline has come takes none
abbrev pub HandsOut : List Kept → ℕ → Type 0
HandsOut list moment = (view : Kept) → IsLast list view → is_revert_due view moment ≡ false

-- a read needs memory only where not all is there that was reported, or a view is to be handed out
abbrev pub MayWant : List Kept → List Kept → ℕ → Type 0
MayWant list told moment = length told ≤ length list → HandsOut list moment
