-- A database that ends, put together.
use Rattle.std.proofs.Common.{◌≡◌, inl, inr, ℕ, true, false, IsTrue, List, [], ◌∷◌, refl, sym, ap, subst, ◌∙◌, None, Some, is_some, arith}
use Rattle.disk_model.specs.Pair.{BothTell, DiskPair}
use Rattle.std.specs.Prelude.{IsSome}
use Rattle.disk_model.specs.Disk.{IsImage, state_of}
use Rattle.commit_journal.specs.Journal.{JournalView, a_of, disk_a, disk_b, calls_a, calls_b, disks_of}
use Rattle.commit_ledger.specs.Kept.{Kept}
use Rattle.config_core.specs.declared.event.Event.TheVariants.{Settle}
use Rattle.config_core.specs.declared.event.Outcome.TheVariants.{Done}
use Rattle.config_core.specs.Soundness.{IsSoundKept, IsSoundState}
use Rattle.config_core.specs.State.{State, opening_of}
use Rattle.session_history.specs.declared.history.Happened.{Happened}
use Rattle.session_history.specs.declared.history.History.{History}
use Rattle.session_history.specs.Events.{IsLegal, Leads, StaysAccepted}
use Rattle.stored_ledger.specs.Stored.{HoldsKept}
use Rattle.config_db.specs.View.{DatabaseView, opened}
use Rattle.config_db.specs.Added.{AddsSome}
use Rattle.config_db.specs.Numbers.{calls_of}
use Rattle.config_db.specs.Writing.{entry_in}
use Rattle.config_db.specs.Standing.{Stands}
use Rattle.config_db.specs.Book.{IsBook}
use Rattle.config_db.specs.Moves.{IsUnsettled, Settles, noted}
use Rattle.config_db.specs.Closing.{IsHandedBack, SettlesLast}
use Rattle.config_db.specs.Crash.{IsCrashSafe}
use Rattle.config_db.proofs.CalledLemmas.{history_first, history_second}
use Rattle.config_db.proofs.DiskLemmas.{calls_is, tell_ab}
use Rattle.config_db.proofs.BookLemmas.{flight_follows}
use Rattle.config_db.proofs.StandingLemmas.{may_come, stands_spelled}
use Rattle.config_db.proofs.MoveLemmas.{extends_none, extends_one, extends_unsettled}

-- the active configuration is accepted from the opening on, where it stays so along legal histories
pub stays_accepted : (kept : Kept) (users : List (List ℕ)) (events : List Happened) (last : State)
    → ((s : State) (es : List Happened) → IsSoundState s → IsLegal s es → StaysAccepted s es)
    → IsSoundKept kept → Leads (opening_of kept users) events last → StaysAccepted (opening_of kept users) events
stays_accepted kept users events last law sound leads =
    law (opening_of kept users) events (record { kept = sound; no_later = omega arith; flight = tt }) (last, leads)

-- nothing is in flight
pub last_none : (v : DatabaseView) → v.state.flight ≡ None → SettlesLast false v v
last_none v free = record { own = []; closing = inl refl; extends = extends_none 0 v.state.greatest v; fault_is = sym (ap is_some free); cause = λ is. absurd (cc) }

-- it was settled
pub last_settled : (v w : DatabaseView) → Settles 0 v.state.greatest Done v w → SettlesLast false v w
last_settled v w (is_kept, reply, happens) =
    let e : Happened = noted 0 v.state.greatest (Settle is_kept) Done (calls_of w.journal) in
    record {
      own = e ∷ [];
      closing = inr (record { one = e; is_own = refl; settles = tt; done = refl });
      extends = extends_one 0 v.state.greatest v w (Settle is_kept) Done reply happens (λ is. absurd (cc));
      fault_is = sym (ap is_some (happens.done refl));
      cause = λ is. absurd (cc);
    }

-- a disk failed
pub last_unsettled : (v w : DatabaseView) → IsSome v.state.flight → IsUnsettled v w → SettlesLast true v w
last_unsettled v w some un = record {
  own = [];
  closing = inl refl;
  extends = extends_unsettled 0 v.state.greatest v w un;
  fault_is = sym (ap (λ s. is_some s.flight) un.state ∙ some);
  cause = λ is. (refl, un.rose);
}

is_held : (j : JournalView) (s : State) → IsSoundState s → Stands j s.kept (entry_in s.flight) → IsTrue (disk_a j).tells → IsTrue (disk_b j).tells
    → HoldsKept (disk_a j).history (disk_b j).history s.kept (entry_in s.flight)
is_held j s sound stands a b =
    let follows = flight_follows s.kept s.greatest s.flight sound.flight in
    record {
      each = λ c d in_a in_b. stands_spelled j s.kept (entry_in s.flight) stands (tell_ab j a b) c d
          (subst (λ h. IsImage (state_of h) c) (history_first j.b_counts j.counting j.other) in_a)
          (subst (λ h. IsImage (state_of h) d) (history_second j.b_counts j.counting j.other) in_b);
      next = may_come s.kept (entry_in s.flight) stands.entry follows;
    }

-- what is handed back of a book
pub handed_back : (v : DatabaseView) (happened : History) (disks : DiskPair)
    → ((s : State) (es : List Happened) → IsSoundState s → IsLegal s es → StaysAccepted s es) → IsBook v → AddsSome (opened v) v.events v.state
    → happened.opening ≡ Some v.opening → happened.users ≡ v.users → happened.events.items ≡ v.events
    → happened.made.a ≡ calls_a v.journal → happened.made.b ≡ calls_b v.journal → disks ≡ disks_of v.journal
    → IsHandedBack v happened disks
handed_back v happened disks law book added opening users events made_a made_b are = record {
  opening = opening;
  users = users;
  events = events;
  made = calls_is v.journal happened.made made_a made_b;
  legal = book.leads;
  added = added;
  rising = book.rising;
  accepted = stays_accepted v.opening v.users v.events v.state law book.began book.leads;
  disks_are = are;
  crash_safe = subst (λ (d : DiskPair). BothTell d → IsCrashSafe (opened v) v.events happened.made d.a.history d.b.history) (sym are)
      (subst (λ m. BothTell (disks_of v.journal) → IsCrashSafe (opened v) v.events m (disk_a v.journal).history (disk_b v.journal).history)
      (sym (calls_is v.journal happened.made made_a made_b)) safe);
  held = subst (λ (d : DiskPair). BothTell d → HoldsKept d.a.history d.b.history v.state.kept (entry_in v.state.flight)) (sym are)
      (λ tell. is_held v.journal v.state book.sound book.stands tell.0 tell.1);
}
  where
    safe : BothTell (disks_of v.journal) → IsCrashSafe (opened v) v.events (calls_of v.journal) (disk_a v.journal).history (disk_b v.journal).history
    safe tell =
        subst (λ h. IsCrashSafe (opened v) v.events (calls_of v.journal) h (disk_b v.journal).history)
        (sym (history_first v.journal.b_counts v.journal.counting v.journal.other))
        (subst (λ h. IsCrashSafe (opened v) v.events (calls_of v.journal) (a_of v.journal) h)
        (sym (history_second v.journal.b_counts v.journal.counting v.journal.other))
        (record {
          rising = book.rising;
          safe = λ few_a few_b. (book.safe (tell_ab v.journal tell.0 tell.1) few_a few_b).safe;
        }))
