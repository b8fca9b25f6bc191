-- A journal after a call of its two files: what a settle and an append promise of it.
use Rattle.std.proofs.Common.{◌≡◌, ◌≤◌, ℕ, ◌++◌, List, [], ◌∷◌, IsTrue, true, refl, sym, subst, ap, ◌∙◌}
use Rattle.std.specs.Prelude.{◌↔◌}
use Rattle.disk_model.specs.Disk.{Called, DiskView, MaySync, Sync, contents_of}
use Rattle.record_code.specs.Record.{Record}
use Rattle.record_code.specs.Reading.{byte}
use Rattle.commit_journal.specs.declared.flight.Flight.{Flight}
use Rattle.commit_journal.specs.declared.flight.Flight.TheVariants.{Nothing, Record as InFlight, Image as ImageInFlight}
use Rattle.commit_journal.specs.declared.settling.Settled.{Settled}
use Rattle.commit_journal.specs.declared.settling.Settled.TheVariants.{Kept, NotKept}
use Rattle.commit_journal.specs.Files.{IsSyncedFile}
use Rattle.commit_journal.specs.Journal.{Awaits, CountsCalls, Has, HasSettled, IsImageInFlight, IsRecordInFlight, JournalView, PairCause, Tell, counted, disk_a, disk_b, gate_behind, image_gate, settled_list}
use Rattle.commit_journal.specs.Pair.{FileSettles, IsSettled, SpellsEither, Waits, generation}
use Rattle.commit_journal.specs.Rotation.{WaitsReplaced}
use Rattle.commit_journal.specs.Steps.{Counts, IsSettleFaulted, IsSettleSafe, IsSettledAs, Stays}
use Rattle.commit_journal.proofs.FileLemmas.{may_settles}
use Rattle.commit_journal.proofs.PairLemmas.{rests_only}
use Rattle.commit_journal.proofs.SettleLemmas.{settle_leaves, settle_waits, waits_either, weaker_pair}
use Rattle.commit_journal.proofs.SideLemmas.{side_a, side_b, sides_cause, sides_count, sides_count_b, sides_tell, sides_tell_b}
use Rattle.commit_journal.proofs.TurnLemmas.{turns_either, turns_settles}

-- the list that a settled journal has is the one that it reports
has_settled : (v : JournalView) (rs : List Record) (r : Record) (settled : Settled) → Has v (settled_list rs r settled) → HasSettled v rs r settled
has_settled v rs r Kept has = has
has_settled v rs r NotKept has = has

-- a call that met no fault
pub no_fault : (a a' b b' : ℕ) (failed : Type 0) → (failed → ⊥) → PairCause a a' b b' ⊥ → PairCause a a' b b' failed
no_fault a a' b b' failed never cause = record { later_a = cause.later_a; later_b = cause.later_b; rose = λ is. absurd (never is) }

-- what is in flight is one thing
a_record : (f : Flight) → IsRecordInFlight f → IsImageInFlight f → ⊥
a_record Nothing some other = some
a_record (InFlight next) some other = other
a_record (ImageInFlight next) some other = some

module _ (v : JournalView) (c o : DiskView) (gate : ℕ) (flight : Flight) (n m : ℕ) where
  abbrev pub moved : JournalView
  moved = record v { counting = c; other = o; gate = gate; flight = flight; counting_calls = n; other_calls = m }

  pub moved_stays : c.tells ≡ v.counting.tells → o.tells ≡ v.other.tells → Stays v moved
  moved_stays here there = record {
    limit_is = refl;
    tells_a = side_a (λ (x y : DiskView). y.tells ≡ x.tells) v.b_counts v.counting c v.other o here there;
    tells_b = side_b (λ (x y : DiskView). y.tells ≡ x.tells) v.b_counts v.counting c v.other o here there;
  }

  pub moved_counts : (IsTrue v.counting.tells → CountsCalls v.counting.history c.history v.counting_calls n)
      → (IsTrue v.other.tells → CountsCalls v.other.history o.history v.other_calls m) → v.counting_calls ≤ n → v.other_calls ≤ m → Counts v moved
  moved_counts here there later other_later = record {
    goes_a = sides_count v.b_counts v.counting c v.other o v.counting_calls n v.other_calls m here there;
    goes_b = sides_count_b v.b_counts v.counting c v.other o v.counting_calls n v.other_calls m here there;
    later_a = side_a (λ (x y : ℕ). x ≤ y) v.b_counts v.counting_calls n v.other_calls m later other_later;
    later_b = side_b (λ (x y : ℕ). x ≤ y) v.b_counts v.counting_calls n v.other_calls m later other_later;
  }

  pub moved_cause : (failed : Type 0) → PairCause v.counting.faults c.faults v.other.faults o.faults failed
      → PairCause (disk_a v).faults (disk_a moved).faults (disk_b v).faults (disk_b moved).faults failed
  moved_cause failed cause = sides_cause v.b_counts v.counting c v.other o failed cause

  module _ (done : Type 0) (here : IsSyncedFile v.counting c done) (there : IsSyncedFile v.other o done) where
    of_here : IsTrue v.counting.tells → FileSettles v.counting.history c.history
    of_here t = may_settles v.counting.history c.history (here.may t)

    of_there : IsTrue v.other.tells → FileSettles v.other.history o.history
    of_there t = may_settles v.other.history o.history (there.may t)

    pub still_waits : (rs : List Record) (r : Record) → Tell v → Awaits v rs r → Waits v.b_counts c.history o.history v.gate rs r
    still_waits rs r tell awaits =
        settle_waits v.b_counts v.counting.history c.history v.other.history o.history rs r v.gate (of_here tell.0) (of_there tell.1) awaits.waits

    pub moved_safe : n ≡ counted v.counting_calls 1 → m ≡ counted v.other_calls 1 → IsSettleSafe v moved
    moved_safe one other_one = record {
      crash = λ tell. settle_leaves v.b_counts v.counting.history c.history v.other.history o.history (of_here tell.0) (of_there tell.1);
      either = λ rs r tell awaits.
          weaker_pair _ _ _ _ _ (SpellsEither rs (rs ++ r ∷ [])) (waits_either v.b_counts v.counting.history v.other.history rs r v.gate awaits.waits)
          (settle_leaves v.b_counts v.counting.history c.history v.other.history o.history (of_here tell.0) (of_there tell.1));
      image_either = λ rs image tell awaits.
          weaker_pair _ _ _ _ _ (SpellsEither rs image) (turns_either v.b_counts v.counting.history v.other.history rs image v.gate _ _ awaits.waits)
          (settle_leaves v.b_counts v.counting.history c.history v.other.history o.history (of_here tell.0) (of_there tell.1));
      may_a = sides_tell MaySync v.b_counts v.counting c v.other o here.may there.may;
      may_b = sides_tell_b MaySync v.b_counts v.counting c v.other o here.may there.may;
      one_call = (
        side_a (λ (x y : ℕ). y ≡ counted x 1) v.b_counts v.counting_calls n v.other_calls m one other_one,
        side_b (λ (x y : ℕ). y ≡ counted x 1) v.b_counts v.counting_calls n v.other_calls m one other_one,
      );
    }

    -- nothing is found out
    pub moved_faulted : gate ≡ v.gate → flight ≡ v.flight → IsSettleFaulted v moved
    moved_faulted gate_is flight_is = record {
      awaits = λ rs r tell awaits. record {
        flight = flight_is ∙ awaits.flight ∙ ap (λ (k : ℕ). InFlight (gate_behind k r)) (sym gate_is);
        waits = subst (λ (k : ℕ). Waits v.b_counts c.history o.history k rs r) (sym gate_is) (still_waits rs r tell awaits);
      };
      image_awaits = λ rs image tell awaits. record {
        flight = flight_is ∙ awaits.flight;
        waits = subst (λ (k : ℕ). WaitsReplaced v.b_counts c.history o.history k rs (generation (contents_of c.history)) image (image_gate image)) (sym gate_is)
            (subst (λ (k : ℕ). WaitsReplaced v.b_counts c.history o.history v.gate rs k image (image_gate image)) (ap generation (sym (of_here tell.0).same))
            (turns_settles v.b_counts v.counting.history v.other.history c.history o.history rs image v.gate _ _ awaits.waits (of_here tell.0) (of_there tell.1)));
      };
      flight_is = flight_is;
      gate_is = gate_is;
      choice = refl;
    }

    module _ (is : done) (flies : IsRecordInFlight v.flight) (idle : flight ≡ Nothing) (settled : Settled)
        (spells : (rs : List Record) (r : Record) → Tell v → Awaits v rs r → IsSettled c.history (settled_list rs r settled) gate) where
      has_list : (rs : List Record) (r : Record) → Tell v → Awaits v rs r → Has moved (settled_list rs r settled)
      has_list rs r tell awaits =
          let waits = still_waits rs r tell awaits in
          record {
            idle = idle;
            rests = record { settled = spells rs r tell awaits; other_quiet = waits.other_quiet; chosen = waits.chosen };
          }

      no_image : {next : ℕ} → v.flight ≡ ImageInFlight next → ⊥
      no_image is_image = subst IsRecordInFlight is_image flies

      pub moved_settled : (IsTrue v.counting.tells → (settled ≡ Kept) ↔ (byte (contents_of c.history) v.gate ≡ 1)) → IsSettledAs v settled moved
      moved_settled by_gate = record {
        has = λ rs r tell awaits. has_settled moved rs r settled (has_list rs r tell awaits);
        only = λ rs r tell awaits. rests_only v.b_counts c.history o.history gate (settled_list rs r settled) (has_list rs r tell awaits).rests;
        idle = idle;
        by_gate = λ some. by_gate;
        choice = λ some. refl;
        image_has = λ rs image tell awaits. absurd (no_image awaits.flight);
        image_only = λ rs image tell awaits. absurd (no_image awaits.flight);
        by_header = λ some. absurd (a_record v.flight flies some);
        dropped = λ some. absurd (a_record v.flight flies some);
        synced_a = sides_tell (λ x y. Called x (Sync true) y) v.b_counts v.counting c v.other o (here.synced is) (there.synced is);
        synced_b = sides_tell_b (λ x y. Called x (Sync true) y) v.b_counts v.counting c v.other o (here.synced is) (there.synced is);
      }
