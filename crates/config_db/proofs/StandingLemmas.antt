-- The list that a journal holds, with an entry in flight or none.
use Rattle.std.proofs.Common.{ℕ, List, Option, None, Some, ⊎_elim}
use Rattle.std.specs.Prelude.{IfSome, IsSome}
use Rattle.disk_model.specs.Disk.{IsImage, state_of}
use Rattle.commit_check.specs.Accepts.{Accepts}
use Rattle.commit_ledger.specs.declared.entry.Entry.{Entry}
use Rattle.commit_ledger.specs.Kept.{Kept, append_entry}
use Rattle.commit_ledger.specs.Rules.{Follows, IsEntry}
use Rattle.commit_journal.specs.declared.flight.Flight.{Flight}
use Rattle.commit_journal.specs.declared.flight.Flight.TheVariants.{Nothing, Record as InFlight, Image as ImageInFlight}
use Rattle.commit_journal.specs.Journal.{IsImageInFlight, IsInFlight, JournalView, Tell, a_of, b_of}
use Rattle.config_core.specs.State.{Made}
use Rattle.stored_ledger.specs.declared.change.Change.TheVariants.{Entry as EntryMore}
use Rattle.stored_ledger.specs.Stored.{IsNext, SpellsWith}
use Rattle.stored_ledger.proofs.StandingLemmas.{between_now, stands_now}
use Rattle.config_db.specs.Standing.{Stands}
use Rattle.config_db.specs.Writing.{entry_in}

-- what a crash may leave now
pub stands_spelled : (j : JournalView) (kept : Kept) (flight : Option Entry) → Stands j kept flight → Tell j
    → (c d : List ℕ) → IsImage (state_of (a_of j)) c → IsImage (state_of (b_of j)) d → SpellsWith c d kept flight
stands_spelled j kept None stands t c d in_a in_b = stands_now j kept stands.holds t c d in_a in_b
stands_spelled j kept (Some entry) stands t c d in_a in_b = between_now EntryMore j kept (append_entry kept entry) stands.holds t c d in_a in_b

-- the entry in flight may be the next one
pub may_come : (kept : Kept) (flight : Option Entry) → IfSome flight (IsEntry Accepts) → IfSome flight (Follows kept) → IfSome flight (IsNext kept)
may_come kept None is follows = tt
may_come kept (Some entry) is follows = (is, follows)

-- something is in flight of the journal
image_flies : (f : Flight) → IsImageInFlight f → IsInFlight f
image_flies Nothing is = absurd is
image_flies (InFlight next) is = absurd is
image_flies (ImageInFlight next) is = tt

pub stands_flying : (j : JournalView) (kept : Kept) (flight : Option Made) → Stands j kept (entry_in flight) → IsSome flight → IsInFlight j.flight
stands_flying j kept None stands some = absurd (cc)
stands_flying j kept (Some made) stands some = ⊎_elim (λ record_held. record_held.2.0) (λ image. image_flies j.flight image.2.0) stands.holds.holds
