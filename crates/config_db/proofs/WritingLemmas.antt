-- What the writing of an event's entry comes to, if it makes one.
use Rattle.std.proofs.Common.{◌≡◌, ℕ, List, [], refl, sym, ap, subst, Option, None, Some, Result, Ok, Err, IfOk}
use Rattle.std.specs.Prelude.{IfSome}
use Rattle.std.specs.Option.{option_map}
use Rattle.std.proofs.lemmas.List.{append-nil}
use Rattle.disk_model.specs.declared.disk.DiskDone.{DiskDone}
use Rattle.disk_model.specs.Pair.{FaultOnEither}
use Rattle.commit_ledger.specs.declared.entry.Entry.{Entry}
use Rattle.commit_ledger.specs.Kept.{Kept, append_entry}
use Rattle.commit_journal.specs.Held.{BothCalled, GoesOn}
use Rattle.commit_journal.specs.Journal.{JournalView, LeavesBoth, Tell, a_of, b_of, disks_of}
use Rattle.config_core.specs.declared.event.Outcome.{Outcome}
use Rattle.config_core.specs.declared.event.Outcome.TheVariants.{Done, Fault}
use Rattle.config_core.specs.State.{Made}
use Rattle.stored_ledger.specs.Growing.{AddsEntry, KeepsLimit}
use Rattle.stored_ledger.specs.Stored.{IsNext, SpellsWith}
use Rattle.config_db.specs.Standing.{Stands}
use Rattle.config_db.specs.Writing.{IsEntryWritten, IsWritten, done_by, entry_in, flight_after, kept_after}
use Rattle.config_db.proofs.CalledLemmas.{called_none}
use Rattle.config_db.proofs.DiskLemmas.{goes_nowhere}
use Rattle.config_db.proofs.StandingLemmas.{stands_spelled}

pub record Wrote (kept : Kept) (made : Option Made) (outcome : Outcome) (j j' : JournalView) : Type 0 where
  pub calm : made ≡ None → outcome ≡ Done
  pub next : IfSome made (λ m. IsNext kept m.entry)
  pub stands : Stands j' (kept_after kept made outcome) (entry_in (flight_after made outcome))
  pub goes : GoesOn j j'
  pub cause : outcome ≡ Fault → FaultOnEither (disks_of j) (disks_of j')
  pub called : Tell j → BothCalled j j'
  pub crash : Tell j → LeavesBoth j j' (λ c d. SpellsWith c d kept (entry_in made))
  pub trims : outcome ≡ Done → IfSome made (λ m. KeepsLimit kept m.entry j')

nothing_left : (kept : Kept) (j : JournalView) → Stands j kept None → Tell j → LeavesBoth j j (λ c d. SpellsWith c d kept None)
nothing_left kept j stands t = record {
  a_calls = [];
  b_calls = [];
  a_first = refl;
  b_first = refl;
  a_made = sym (append-nil _);
  b_made = sym (append-nil _);
  each = λ c d in_a in_b. stands_spelled j kept None stands t c d in_a in_b;
}

nothing_written : (kept : Kept) (outcome : Outcome) (j : JournalView) → Stands j kept None → outcome ≡ Done → Wrote kept None outcome j j
nothing_written kept outcome j stands done = record {
  calm = λ none. done;
  next = tt;
  stands = stands;
  goes = goes_nowhere j;
  cause = λ fault. absurd (cc);
  called = λ t. called_none j;
  crash = nothing_left kept j stands;
  trims = λ is. tt;
}

pub wrote : (kept : Kept) (made : Option Made) (outcome : Outcome) (j j' : JournalView) → Stands j kept None → IsWritten kept made outcome j j' → Wrote kept made outcome j j'
wrote kept None outcome j j' stands (done, same) = subst (λ k. Wrote kept None outcome j k) (sym same) (nothing_written kept outcome j stands done)
wrote kept (Some m) Done j j' stands written = record {
  calm = λ none. refl;
  next = written.next;
  stands = record { holds = written.adds.list.stands; entry = tt };
  goes = written.adds.list.goes;
  cause = λ fault. absurd (cc);
  called = written.adds.list.called;
  crash = written.adds.list.crash;
  trims = λ is. written.adds.trims refl;
}
wrote kept (Some m) Fault j j' stands written = record {
  calm = λ none. absurd (cc);
  next = written.next;
  stands = record { holds = written.adds.list.stands; entry = written.next.0 };
  goes = written.adds.list.goes;
  cause = λ fault. written.adds.list.cause refl;
  called = written.adds.list.called;
  crash = written.adds.list.crash;
  trims = λ is. absurd (cc);
}

-- an event that makes no entry, and one that does
pub none_written : (kept : Kept) (j : JournalView) (made : Option Made) → None ≡ option_map (λ (m : Made). m.entry) made → IsWritten kept made Done j j
none_written kept j None is = (refl, refl)
none_written kept j (Some m) is = absurd (cc)

entry_written : (kept : Kept) (j j' : JournalView) (made : Option Made) (entry : Entry) (outcome : Outcome) → Some entry ≡ option_map (λ (m : Made). m.entry) made
    → IsEntryWritten kept entry outcome j j' → IsWritten kept made outcome j j'
entry_written kept j j' None entry outcome is written = absurd (cc)
entry_written kept j j' (Some m) entry outcome is written = let same : entry ≡ m.entry = cc in subst (λ e. IsEntryWritten kept e outcome j j') same written

pub entry_if_written : {E : Type 0} (kept : Kept) (j j' : JournalView) (made : Option Made) (entry : Entry) (r : Result Outcome E) → Some entry ≡ option_map (λ (m : Made). m.entry) made
    → IfOk r (λ outcome. IsEntryWritten kept entry outcome j j') → IfOk r (λ outcome. IsWritten kept made outcome j j')
entry_if_written kept j j' made entry (Ok outcome) is written = entry_written kept j j' made entry outcome is written
entry_if_written kept j j' made entry (Err e) is written = tt
