use Rattle.std.proofs.Common.{◌≡◌, ◌<◌, ◌+◌, ◌%◌, ◌^◌, not, true≢false, List, ℕ, IsTrue, refl, sym, subst, ap, ◌∙◌, arith, rules}
use Rattle.disk_model.specs.Disk.{contents_of}
use Rattle.record_code.specs.Reading.{Spells}
use Rattle.commit_journal.specs.declared.flight.Flight.{Flight}
use Rattle.commit_journal.specs.declared.flight.Flight.TheVariants.{Nothing, Image as ImageInFlight}
use Rattle.commit_journal.specs.declared.settling.Settled.TheVariants.{NotKept}
use Rattle.commit_journal.specs.Pair.{file_gate, generation, IsSettled}
use Rattle.commit_journal.specs.Journal.{JournalView, IsWhole, IsNumbered, IsBeside, PairCause, disk_a, disk_b}
use Rattle.commit_journal.specs.Steps.{Counts, IsSettleFaulted, IsSettleSafe, IsSettledAs, Stays}
use Rattle.commit_journal.proofs.CallLemmas.{counts_calls}
use Rattle.commit_journal.proofs.FileLemmas.{called_quiet, may_settles}
use Rattle.commit_journal.proofs.JournalLemmas.{back_is, counted_is_spare, from_back, from_over, from_stays, over_is, same_view, swapped_cause, swapped_counts, swapped_safe, swapped_stays, view_of}
use Rattle.commit_journal.proofs.StepLemmas.{moved, moved_cause, moved_counts, moved_faulted, moved_safe, moved_stays, no_fault}
use Rattle.commit_journal.proofs.journal.Journal.settle_image.Goals as goal

pub invariant_of-self : goal.invariant_of-self
invariant_of-self g c =
    let view = g.D.Disk.view in
    let j = c.self.inside in
    let flying : j.flight ≡ ImageInFlight c.args.next = ap (λ (v : JournalView). v.flight) c.self.view_is ∙ c.requires in
    let small : j.generation < 2 ^ 64 = omega (arith, c.self.ranges) in
    let gen : ℕ = (j.generation + 1) % 2 ^ 64 in
    let files = c.in-Some-true.ensures in
    let c1 = view c.choose_anew.new.counting in
    let o1 = view c.choose_anew.new.other in
    let whole = subst (λ (f : Flight). IsWhole (view j.counting) j.gate f) flying c.self.invariant.0 in
    let beside = subst (λ (f : Flight). IsBeside (view j.other) j.generation f) flying c.self.invariant.1.1 in
    let settled = λ (t : IsTrue (view j.counting).tells).
    let old = whole.2 t in
    let same = may_settles _ _ (files.counting.may t) in
    let now : IsSettled c1.history old.0 j.gate = record { spells = subst (λ (l : List ℕ). Spells l old.0 j.gate) (sym same.same) old.1.spells; quiet = same.still_quiet old.1.quiet } in now in
    let number = λ (t : IsTrue (view j.counting).tells). ap generation (may_settles _ _ (files.counting.may t)).same ∙ c.self.invariant.1.0 t in
    let told = λ (t : IsTrue (view j.other).tells). (files.told t).0 c.in-Some-true.field-0-test in
    subst (λ x. IsWhole (view x) c.args.next Nothing × (IsNumbered (view x) gen × IsBeside (view c.swap.new.y) gen Nothing)) (sym c.swap.ensures.x_after)
    (subst (λ y. IsWhole o1 c.args.next Nothing × (IsNumbered o1 gen × IsBeside (view y) gen Nothing)) (sym c.swap.ensures.y_after) (
      (
        whole.1,
        λ t1. let t = subst IsTrue files.other.tells t1 in
            let from = beside t in
            let replaced = from_over j.generation from.0 c.args.next _ _ from.1 (may_settles _ _ (files.other.may t)) (told t).0 (told t).1 in
            (from.0, record { spells = replaced.spells; quiet = called_quiet _ _ (files.other.synced refl t) }),
      ),
      (
        λ t1. let t = subst IsTrue files.other.tells t1 in (told t).1,
        λ t1. let t = subst IsTrue files.counting.tells t1 in counted_is_spare j.generation gen c1.history (whole.2 t).0 j.gate (settled t) (number t) small refl,
      ),
    ))

pub invariant_of-self-in-Some-false : goal.invariant_of-self-in-Some-false
invariant_of-self-in-Some-false g c =
    let view = g.D.Disk.view in
    let j = c.self.inside in
    let flying : j.flight ≡ ImageInFlight c.args.next = ap (λ (v : JournalView). v.flight) c.self.view_is ∙ c.requires in
    let small : j.generation < 2 ^ 64 = omega (arith, c.self.ranges) in
    let gen : ℕ = (j.generation + 1) % 2 ^ 64 in
    let files = c.in-Some-false.ensures in
    let c1 = view c.choose_anew.new.counting in
    let o1 = view c.choose_anew.new.other in
    let whole = subst (λ (f : Flight). IsWhole (view j.counting) j.gate f) flying c.self.invariant.0 in
    let beside = subst (λ (f : Flight). IsBeside (view j.other) j.generation f) flying c.self.invariant.1.1 in
    let settled = λ (t : IsTrue (view j.counting).tells).
    let old = whole.2 t in
    let same = may_settles _ _ (files.counting.may t) in
    let now : IsSettled c1.history old.0 j.gate = record { spells = subst (λ (l : List ℕ). Spells l old.0 j.gate) (sym same.same) old.1.spells; quiet = same.still_quiet old.1.quiet } in now in
    let number = λ (t : IsTrue (view j.counting).tells). ap generation (may_settles _ _ (files.counting.may t)).same ∙ c.self.invariant.1.0 t in
    let told = λ (t : IsTrue (view j.other).tells) (opened : file_gate (contents_of o1.history) ≡ 1) (next_is : generation (contents_of o1.history) ≡ gen).
    true≢false (sym ((files.told t).1 (opened, next_is)) ∙ c.in-Some-false.field-0-test) in (
      (whole.0, λ t1. let t = subst IsTrue files.counting.tells t1 in ((whole.2 t).0, settled t)),
      (
        λ t1. number (subst IsTrue files.counting.tells t1),
        λ t1. let t = subst IsTrue files.other.tells t1 in
            let from = beside t in
            from_back j.generation from.0 c.args.next _ _ from.1 (may_settles _ _ (files.other.may t)) (called_quiet _ _ (files.other.synced refl t)) (told t),
      ),
    )

pub invariant_of-self-in-None : goal.invariant_of-self-in-None
invariant_of-self-in-None g c =
    let view = g.D.Disk.view in
    let j = c.self.inside in
    let flying : j.flight ≡ ImageInFlight c.args.next = ap (λ (v : JournalView). v.flight) c.self.view_is ∙ c.requires in
    let small : j.generation < 2 ^ 64 = omega (arith, c.self.ranges) in
    let gen : ℕ = (j.generation + 1) % 2 ^ 64 in
    let files = c.in-None.ensures in
    let c1 = view c.choose_anew.new.counting in
    let o1 = view c.choose_anew.new.other in
    let whole = subst (λ (f : Flight). IsWhole (view j.counting) j.gate f) flying c.self.invariant.0 in
    let beside = subst (λ (f : Flight). IsBeside (view j.other) j.generation f) flying c.self.invariant.1.1 in
    let settled = λ (t : IsTrue (view j.counting).tells).
    let old = whole.2 t in
    let same = may_settles _ _ (files.counting.may t) in
    let now : IsSettled c1.history old.0 j.gate = record { spells = subst (λ (l : List ℕ). Spells l old.0 j.gate) (sym same.same) old.1.spells; quiet = same.still_quiet old.1.quiet } in now in
    let number = λ (t : IsTrue (view j.counting).tells). ap generation (may_settles _ _ (files.counting.may t)).same ∙ c.self.invariant.1.0 t in
    subst (λ (f : Flight). IsWhole c1 j.gate f × (IsNumbered c1 j.generation × IsBeside o1 j.generation f)) (sym flying) (
      (whole.0, whole.1, λ t1. let t = subst IsTrue files.counting.tells t1 in ((whole.2 t).0, settled t)),
      (
        λ t1. number (subst IsTrue files.counting.tells t1),
        λ t1. let t = subst IsTrue files.other.tells t1 in
            let from = beside t in
            (from.0, from_stays j.generation from.0 c.args.next _ _ from.1 (may_settles _ _ (files.other.may t))),
      ),
    )

pub returns-in-Some-true : goal.returns-in-Some-true
returns-in-Some-true g c =
    let view = g.D.Disk.view in
    let j = c.self.inside in
    let flying : j.flight ≡ ImageInFlight c.args.next = ap (λ (v : JournalView). v.flight) c.self.view_is ∙ c.requires in
    let small : j.generation < 2 ^ 64 = omega (arith, c.self.ranges) in
    let gen : ℕ = (j.generation + 1) % 2 ^ 64 in
    let files = c.in-Some-true.ensures in
    let c1 = view c.choose_anew.new.counting in
    let o1 = view c.choose_anew.new.other in
    let told = λ (t : IsTrue (view j.other).tells). (files.told t).0 c.in-Some-true.field-0-test in
    let n = c.saturating_add-self-inside.result in
    let m = c.saturating_add-self-inside-2.result in
    let one = c.saturating_add-self-inside.ensures in
    let other_one = c.saturating_add-self-inside-2.ensures in
    let old : JournalView = view_of j.b_counts j.gate j.flight j.limit (view j.counting) (view j.other) j.counting_calls j.other_calls in
    let next = c.args.next in
    let b' = not j.b_counts in
    let x = c.swap.new.x in
    let y = c.swap.new.y in
    let k = c.swap-in-Some-true.new.x in
    let l = c.swap-in-Some-true.new.y in
    let new : JournalView = view_of b' next Nothing j.limit (view x) (view y) k l in
    let same : view_of b' next Nothing j.limit o1 c1 m n ≡ new =
    same_view b' next Nothing j.limit o1 (view x) c1 (view y) m k n l (ap view c.swap.ensures.x_after) (ap view c.swap.ensures.y_after) c.swap-in-Some-true.ensures.x_after c.swap-in-Some-true.ensures.y_after in
    record {
      ok = subst (λ (v : JournalView). IsSettledAs v NotKept new) c.self.view_is (subst (λ (w : JournalView). IsSettledAs old NotKept w) same
          (over_is old c1 o1 j.generation n m next flying c.self.invariant.1.0 _ files.counting files.other refl (λ t. (told t).0) (λ t. (told t).1)));
      err = tt;
      safe = subst (λ (v : JournalView). IsSettleSafe v new) c.self.view_is (subst (λ (w : JournalView). IsSettleSafe old w) same
          (swapped_safe old j.gate next j.flight Nothing j.limit c1 o1 n m j.b_counts (moved_safe old c1 o1 j.gate j.flight n m _ files.counting files.other one other_one)));
      counts = subst (λ (v : JournalView). Counts v new) c.self.view_is (subst (λ (w : JournalView). Counts old w) same
          (swapped_counts old j.gate next j.flight Nothing j.limit c1 o1 n m j.b_counts (moved_counts old c1 o1 j.gate j.flight n m
          (λ t. counts_calls _ _ j.counting_calls 1 _ (files.calls t) one) (λ t. counts_calls _ _ j.other_calls 1 _ (files.other_calls t) other_one)
          (omega (arith, one, c.self.ranges)) (omega (arith, other_one, c.self.ranges)))));
      stays = subst (λ (v : JournalView). Stays v new) c.self.view_is (subst (λ (w : JournalView). Stays old w) same
          (swapped_stays old j.gate next j.flight Nothing j.limit c1 o1 n m j.b_counts (moved_stays old c1 o1 j.gate j.flight n m files.counting.tells files.other.tells)));
      cause = subst (λ (v : JournalView). PairCause (disk_a v).faults (disk_a new).faults (disk_b v).faults (disk_b new).faults _) c.self.view_is
          (no_fault _ _ _ _ _ (λ e. absurd (cc)) (subst (λ (w : JournalView). PairCause (disk_a old).faults (disk_a w).faults (disk_b old).faults (disk_b w).faults ⊥) same
          (swapped_cause old j.gate next j.flight Nothing j.limit c1 o1 n m j.b_counts ⊥
          (moved_cause old c1 o1 j.gate j.flight n m ⊥ (record { later_a = files.cause.later_a; later_b = files.cause.later_b; rose = λ e. absurd e })))));
    }

pub returns-in-Some-false : goal.returns-in-Some-false
returns-in-Some-false g c =
    let view = g.D.Disk.view in
    let j = c.self.inside in
    let flying : j.flight ≡ ImageInFlight c.args.next = ap (λ (v : JournalView). v.flight) c.self.view_is ∙ c.requires in
    let small : j.generation < 2 ^ 64 = omega (arith, c.self.ranges) in
    let gen : ℕ = (j.generation + 1) % 2 ^ 64 in
    let files = c.in-Some-false.ensures in
    let c1 = view c.choose_anew.new.counting in
    let o1 = view c.choose_anew.new.other in
    let told = λ (t : IsTrue (view j.other).tells) (opened : file_gate (contents_of o1.history) ≡ 1) (next_is : generation (contents_of o1.history) ≡ gen).
    true≢false (sym ((files.told t).1 (opened, next_is)) ∙ c.in-Some-false.field-0-test) in
    let n = c.saturating_add-self-inside.result in
    let m = c.saturating_add-self-inside-2.result in
    let one = c.saturating_add-self-inside.ensures in
    let other_one = c.saturating_add-self-inside-2.ensures in
    let old : JournalView = view_of j.b_counts j.gate j.flight j.limit (view j.counting) (view j.other) j.counting_calls j.other_calls in
    let new : JournalView = moved old c1 o1 j.gate Nothing n m in
    record {
      ok = subst (λ (v : JournalView). IsSettledAs v NotKept new) c.self.view_is
          (back_is old c1 o1 j.generation n m c.args.next flying c.self.invariant.1.0 _ files.counting files.other refl told);
      err = tt;
      safe = subst (λ (v : JournalView). IsSettleSafe v new) c.self.view_is (moved_safe old c1 o1 j.gate Nothing n m _ files.counting files.other one other_one);
      counts = subst (λ (v : JournalView). Counts v new) c.self.view_is (moved_counts old c1 o1 j.gate Nothing n m
          (λ t. counts_calls _ _ j.counting_calls 1 _ (files.calls t) one) (λ t. counts_calls _ _ j.other_calls 1 _ (files.other_calls t) other_one)
          (omega (arith, one, c.self.ranges)) (omega (arith, other_one, c.self.ranges)));
      stays = subst (λ (v : JournalView). Stays v new) c.self.view_is (moved_stays old c1 o1 j.gate Nothing n m files.counting.tells files.other.tells);
      cause = subst (λ (v : JournalView). PairCause (disk_a v).faults (disk_a new).faults (disk_b v).faults (disk_b new).faults _) c.self.view_is
          (moved_cause old c1 o1 j.gate Nothing n m _ (record { later_a = files.cause.later_a; later_b = files.cause.later_b; rose = λ e. absurd (cc) }));
    }

pub returns-in-None : goal.returns-in-None
returns-in-None g c =
    let view = g.D.Disk.view in
    let j = c.self.inside in
    let flying : j.flight ≡ ImageInFlight c.args.next = ap (λ (v : JournalView). v.flight) c.self.view_is ∙ c.requires in
    let small : j.generation < 2 ^ 64 = omega (arith, c.self.ranges) in
    let gen : ℕ = (j.generation + 1) % 2 ^ 64 in
    let files = c.in-None.ensures in
    let c1 = view c.choose_anew.new.counting in
    let o1 = view c.choose_anew.new.other in
    let n = c.saturating_add-self-inside.result in
    let m = c.saturating_add-self-inside-2.result in
    let one = c.saturating_add-self-inside.ensures in
    let other_one = c.saturating_add-self-inside-2.ensures in
    let old : JournalView = view_of j.b_counts j.gate j.flight j.limit (view j.counting) (view j.other) j.counting_calls j.other_calls in
    let new : JournalView = moved old c1 o1 j.gate j.flight n m in
    record {
      ok = tt;
      err = subst (λ (v : JournalView). IsSettleFaulted v new) c.self.view_is (moved_faulted old c1 o1 j.gate j.flight n m _ files.counting files.other refl refl);
      safe = subst (λ (v : JournalView). IsSettleSafe v new) c.self.view_is (moved_safe old c1 o1 j.gate j.flight n m _ files.counting files.other one other_one);
      counts = subst (λ (v : JournalView). Counts v new) c.self.view_is (moved_counts old c1 o1 j.gate j.flight n m
          (λ t. counts_calls _ _ j.counting_calls 1 _ (files.calls t) one) (λ t. counts_calls _ _ j.other_calls 1 _ (files.other_calls t) other_one)
          (omega (arith, one, c.self.ranges)) (omega (arith, other_one, c.self.ranges)));
      stays = subst (λ (v : JournalView). Stays v new) c.self.view_is (moved_stays old c1 o1 j.gate j.flight n m files.counting.tells files.other.tells);
      cause = subst (λ (v : JournalView). PairCause (disk_a v).faults (disk_a new).faults (disk_b v).faults (disk_b new).faults _) c.self.view_is
          (moved_cause old c1 o1 j.gate j.flight n m _ (record { later_a = files.cause.later_a; later_b = files.cause.later_b; rose = λ e. files.cause.rose (search rules) }));
    }
