use Rattle.std.proofs.Common.{◌≡◌, ◌++◌, ◌∷◌, [], IsTrue, rules, sym, subst, ap, ◌∙◌, refl, arith}
use Rattle.commit_journal.specs.declared.flight.Flight.{Flight}
use Rattle.commit_journal.specs.declared.flight.Flight.TheVariants.{Nothing}
use Rattle.commit_journal.specs.declared.settling.Settled.TheVariants.{Kept, NotKept}
use Rattle.commit_journal.specs.Journal.{JournalView, IsBeside, IsNumbered, IsWhole, IsRecordInFlight, PairCause, gate_behind, next_of, disk_a, disk_b}
use Rattle.commit_journal.specs.Steps.{IsSettledAs, IsSettleFaulted, IsSettleSafe, Counts, Stays}
use Rattle.commit_journal.proofs.CallLemmas.{counts_calls}
use Rattle.commit_journal.proofs.FileLemmas.{called_quiet, may_settles}
use Rattle.commit_journal.specs.Pair.{generation}
use Rattle.commit_journal.proofs.JournalLemmas.{spare_settles}
use Rattle.commit_journal.proofs.ReadLemmas.{is_one, not_one}
use Rattle.commit_journal.proofs.SettleLemmas.{flight_place, in_flight, settled_kept, settled_left, settle_images}
use Rattle.commit_journal.proofs.StepLemmas.{moved, moved_cause, moved_counts, moved_faulted, moved_safe, moved_settled, moved_stays}
use Rattle.commit_journal.proofs.journal.Journal.settle_record.Goals as goal

pub invariant_of-self : goal.invariant_of-self
invariant_of-self g c =
    let view = g.D.Disk.view in
    let j = c.self.inside in
    let fl = in_flight j.flight (subst (λ (v : JournalView). IsRecordInFlight v.flight) (sym c.self.view_is) c.requires) in
    let old = subst (λ (f : Flight). IsWhole (view j.counting) j.gate f) fl.1 c.self.invariant.0 in
    let place : c.next_or-self-inside.result ≡ fl.0 = c.next_or-self-inside.ensures ∙ ap (λ (f : Flight). next_of f j.gate) fl.1 in (
      (
        omega (arith, old.1, place),
        λ t. let t0 = subst IsTrue c.settle_files.ensures.counting.tells t in
            let stands = old.2 t0 in (
              stands.0 ++ stands.1 ∷ [],
              settled_kept _ _ stands.0 stands.1 j.gate (may_settles _ _ (c.settle_files.ensures.counting.may t0)) stands.3 (called_quiet _ _ (c.in-Some-true.ensures.counting.synced refl t0)) c.next_or-self-inside.result c.in-Some-true.field-0 (place ∙ stands.2) (c.in-Some-true.ensures.gate t0) c.in-Some-true.field-0-test,
            ),
      ),
      (
        (λ t. let t0 = subst IsTrue c.settle_files.ensures.counting.tells t in ap generation (may_settles _ _ (c.settle_files.ensures.counting.may t0)).same ∙ c.self.invariant.1.0 t0),
        λ t. let t0 = subst IsTrue c.settle_files.ensures.other.tells t in
            spare_settles j.generation _ _ (may_settles _ _ (c.settle_files.ensures.other.may t0)) (subst (λ (f : Flight). IsBeside (view j.other) j.generation f) fl.1 c.self.invariant.1.1 t0),
      ),
    )

pub invariant_of-self-in-Some-false : goal.invariant_of-self-in-Some-false
invariant_of-self-in-Some-false g c =
    let view = g.D.Disk.view in
    let j = c.self.inside in
    let fl = in_flight j.flight (subst (λ (v : JournalView). IsRecordInFlight v.flight) (sym c.self.view_is) c.requires) in
    let old = subst (λ (f : Flight). IsWhole (view j.counting) j.gate f) fl.1 c.self.invariant.0 in (
      (
        old.0,
        λ t. let t0 = subst IsTrue c.settle_files.ensures.counting.tells t in
            let stands = old.2 t0 in
            (stands.0, settled_left _ _ stands.0 stands.1 j.gate (may_settles _ _ (c.settle_files.ensures.counting.may t0)) stands.3 (called_quiet _ _ (c.in-Some-false.ensures.counting.synced refl t0)) c.in-Some-false.field-0 (c.in-Some-false.ensures.gate t0) c.in-Some-false.field-0-test),
      ),
      (
        (λ t. let t0 = subst IsTrue c.settle_files.ensures.counting.tells t in ap generation (may_settles _ _ (c.settle_files.ensures.counting.may t0)).same ∙ c.self.invariant.1.0 t0),
        λ t. let t0 = subst IsTrue c.settle_files.ensures.other.tells t in
            spare_settles j.generation _ _ (may_settles _ _ (c.settle_files.ensures.other.may t0)) (subst (λ (f : Flight). IsBeside (view j.other) j.generation f) fl.1 c.self.invariant.1.1 t0),
      ),
    )

pub invariant_of-self-in-None : goal.invariant_of-self-in-None
invariant_of-self-in-None g c =
    let view = g.D.Disk.view in
    let j = c.self.inside in
    let fl = in_flight j.flight (subst (λ (v : JournalView). IsRecordInFlight v.flight) (sym c.self.view_is) c.requires) in
    let old = subst (λ (f : Flight). IsWhole (view j.counting) j.gate f) fl.1 c.self.invariant.0 in
    subst (λ (f : Flight). IsWhole (view c.settle_files.new.counting) j.gate f × (IsNumbered (view c.settle_files.new.counting) j.generation × IsBeside (view c.settle_files.new.other) j.generation f)) (sym fl.1) (
      (
        old.0,
        old.1,
        λ t. let t0 = subst IsTrue c.settle_files.ensures.counting.tells t in
            let stands = old.2 t0 in
            (stands.0, stands.1, stands.2, settle_images _ _ stands.0 stands.1 j.gate (may_settles _ _ (c.settle_files.ensures.counting.may t0)) stands.3),
      ),
      (
        (λ t. let t0 = subst IsTrue c.settle_files.ensures.counting.tells t in ap generation (may_settles _ _ (c.settle_files.ensures.counting.may t0)).same ∙ c.self.invariant.1.0 t0),
        λ t. let t0 = subst IsTrue c.settle_files.ensures.other.tells t in
            spare_settles j.generation _ _ (may_settles _ _ (c.settle_files.ensures.other.may t0)) (subst (λ (f : Flight). IsBeside (view j.other) j.generation f) fl.1 c.self.invariant.1.1 t0),
      ),
    )

pub returns-in-Some-true : goal.returns-in-Some-true
returns-in-Some-true g c =
    let view = g.D.Disk.view in
    let j = c.self.inside in
    let old : JournalView = record { counting = view j.counting; other = view j.other; b_counts = j.b_counts; gate = j.gate; flight = j.flight; limit = j.limit; counting_calls = j.counting_calls; other_calls = j.other_calls } in
    let files = c.in-Some-true.ensures in
    let one = c.saturating_add-self-inside.ensures in
    let c1 = view c.settle_files.new.counting in
    let o1 = view c.settle_files.new.other in
    let n = c.saturating_add-self-inside.result in
    let m = c.saturating_add-self-inside-2.result in
    let other_one = c.saturating_add-self-inside-2.ensures in
    let new : JournalView = moved old c1 o1 c.next_or-self-inside.result Nothing n m in
    record {
      ok = subst (λ (v : JournalView). IsSettledAs v Kept new) c.self.view_is (moved_settled old c1 o1 c.next_or-self-inside.result Nothing n m _ files.counting files.other refl (subst (λ (v : JournalView). IsRecordInFlight v.flight) (sym c.self.view_is) c.requires) refl Kept
          (λ rs r tell awaits.
          let fl = in_flight j.flight (subst (λ (v : JournalView). IsRecordInFlight v.flight) (sym c.self.view_is) c.requires) in
          let place : c.next_or-self-inside.result ≡ gate_behind j.gate r =
          c.next_or-self-inside.ensures ∙ ap (λ (f : Flight). next_of f j.gate) fl.1 ∙ flight_place fl.0 (gate_behind j.gate r) (sym fl.1 ∙ awaits.flight) in
          settled_kept _ _ rs r j.gate (may_settles _ _ (files.counting.may tell.0)) awaits.waits.images (called_quiet _ _ (files.counting.synced refl tell.0)) c.next_or-self-inside.result c.in-Some-true.field-0 place (files.gate tell.0) c.in-Some-true.field-0-test)
          (λ t. let one = is_one _ c.in-Some-true.field-0 (files.gate t) c.in-Some-true.field-0-test in (λ same. one, λ same. refl)));
      err = tt;
      safe = subst (λ (v : JournalView). IsSettleSafe v new) c.self.view_is (moved_safe old c1 o1 c.next_or-self-inside.result Nothing n m _ files.counting files.other one other_one);
      counts = subst (λ (v : JournalView). Counts v new) c.self.view_is (moved_counts old c1 o1 c.next_or-self-inside.result Nothing n m
          (λ t. counts_calls _ _ j.counting_calls 1 _ (files.calls t) one) (λ t. counts_calls _ _ j.other_calls 1 _ (files.other_calls t) other_one)
          (omega (arith, one, c.self.ranges)) (omega (arith, other_one, c.self.ranges)));
      stays = subst (λ (v : JournalView). Stays v new) c.self.view_is (moved_stays old c1 o1 c.next_or-self-inside.result Nothing n m files.counting.tells files.other.tells);
      cause = subst (λ (v : JournalView). PairCause (disk_a v).faults (disk_a new).faults (disk_b v).faults (disk_b new).faults _) c.self.view_is
          (moved_cause old c1 o1 c.next_or-self-inside.result Nothing n m _ (record { later_a = files.cause.later_a; later_b = files.cause.later_b; rose = λ e. absurd (cc) }));
    }

pub returns-in-Some-false : goal.returns-in-Some-false
returns-in-Some-false g c =
    let view = g.D.Disk.view in
    let j = c.self.inside in
    let old : JournalView = record { counting = view j.counting; other = view j.other; b_counts = j.b_counts; gate = j.gate; flight = j.flight; limit = j.limit; counting_calls = j.counting_calls; other_calls = j.other_calls } in
    let files = c.in-Some-false.ensures in
    let one = c.saturating_add-self-inside.ensures in
    let c1 = view c.settle_files.new.counting in
    let o1 = view c.settle_files.new.other in
    let n = c.saturating_add-self-inside.result in
    let m = c.saturating_add-self-inside-2.result in
    let other_one = c.saturating_add-self-inside-2.ensures in
    let new : JournalView = moved old c1 o1 j.gate Nothing n m in
    record {
      ok = subst (λ (v : JournalView). IsSettledAs v NotKept new) c.self.view_is (moved_settled old c1 o1 j.gate Nothing n m _ files.counting files.other refl (subst (λ (v : JournalView). IsRecordInFlight v.flight) (sym c.self.view_is) c.requires) refl NotKept
          (λ rs r tell awaits. settled_left _ _ rs r j.gate (may_settles _ _ (files.counting.may tell.0)) awaits.waits.images (called_quiet _ _ (files.counting.synced refl tell.0)) c.in-Some-false.field-0 (files.gate tell.0) c.in-Some-false.field-0-test)
          (λ t. (λ same. absurd (cc), λ one. absurd (not_one _ c.in-Some-false.field-0 (files.gate t) c.in-Some-false.field-0-test one))));
      err = tt;
      safe = subst (λ (v : JournalView). IsSettleSafe v new) c.self.view_is (moved_safe old c1 o1 j.gate Nothing n m _ files.counting files.other one other_one);
      counts = subst (λ (v : JournalView). Counts v new) c.self.view_is (moved_counts old c1 o1 j.gate Nothing n m
          (λ t. counts_calls _ _ j.counting_calls 1 _ (files.calls t) one) (λ t. counts_calls _ _ j.other_calls 1 _ (files.other_calls t) other_one)
          (omega (arith, one, c.self.ranges)) (omega (arith, other_one, c.self.ranges)));
      stays = subst (λ (v : JournalView). Stays v new) c.self.view_is (moved_stays old c1 o1 j.gate Nothing n m files.counting.tells files.other.tells);
      cause = subst (λ (v : JournalView). PairCause (disk_a v).faults (disk_a new).faults (disk_b v).faults (disk_b new).faults _) c.self.view_is
          (moved_cause old c1 o1 j.gate Nothing n m _ (record { later_a = files.cause.later_a; later_b = files.cause.later_b; rose = λ e. absurd (cc) }));
    }

pub returns-in-None : goal.returns-in-None
returns-in-None g c =
    let view = g.D.Disk.view in
    let j = c.self.inside in
    let old : JournalView = record { counting = view j.counting; other = view j.other; b_counts = j.b_counts; gate = j.gate; flight = j.flight; limit = j.limit; counting_calls = j.counting_calls; other_calls = j.other_calls } in
    let files = c.in-None.ensures in
    let one = c.saturating_add-self-inside.ensures in
    let c1 = view c.settle_files.new.counting in
    let o1 = view c.settle_files.new.other in
    let n = c.saturating_add-self-inside.result in
    let m = c.saturating_add-self-inside-2.result in
    let other_one = c.saturating_add-self-inside-2.ensures in
    let new : JournalView = moved old c1 o1 j.gate j.flight n m in
    record {
      ok = tt;
      err = subst (λ (v : JournalView). IsSettleFaulted v new) c.self.view_is (moved_faulted old c1 o1 j.gate j.flight n m _ files.counting files.other refl refl);
      safe = subst (λ (v : JournalView). IsSettleSafe v new) c.self.view_is (moved_safe old c1 o1 j.gate j.flight n m _ files.counting files.other one other_one);
      counts = subst (λ (v : JournalView). Counts v new) c.self.view_is (moved_counts old c1 o1 j.gate j.flight n m
          (λ t. counts_calls _ _ j.counting_calls 1 _ (files.calls t) one) (λ t. counts_calls _ _ j.other_calls 1 _ (files.other_calls t) other_one)
          (omega (arith, one, c.self.ranges)) (omega (arith, other_one, c.self.ranges)));
      stays = subst (λ (v : JournalView). Stays v new) c.self.view_is (moved_stays old c1 o1 j.gate j.flight n m files.counting.tells files.other.tells);
      cause = subst (λ (v : JournalView). PairCause (disk_a v).faults (disk_a new).faults (disk_b v).faults (disk_b new).faults _) c.self.view_is
          (moved_cause old c1 o1 j.gate j.flight n m _ (record { later_a = files.cause.later_a; later_b = files.cause.later_b; rose = λ e. files.cause.rose (search rules) }));
    }
