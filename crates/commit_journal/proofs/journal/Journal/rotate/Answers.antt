use Rattle.std.proofs.Common.{◌≡◌, ◌<◌, ◌≤◌, ◌+◌, ◌%◌, ◌^◌, inl, inr, ⊎_elim, not, List, ℕ, length, IsTrue, refl, sym, subst, ap, ◌∙◌, arith}
use Rattle.std.specs.Int.{w64, to_be_bytes}
use Rattle.disk_model.specs.Disk.{contents_of}
use Rattle.disk_model.proofs.Images.{leaves_now}
use Rattle.record_code.specs.Record.{Record, bodies}
use Rattle.record_code.specs.Reading.{Spells}
use Rattle.commit_journal.specs.declared.flight.Flight.{Flight}
use Rattle.commit_journal.specs.declared.flight.Flight.TheVariants.{Nothing, Image as ImageInFlight}
use Rattle.commit_journal.specs.Pair.{IsQuiet}
use Rattle.commit_journal.specs.Journal.{JournalView, IsWhole, IsNumbered, IsBeside, PairCause, counted, disk_a, disk_b, image_gate}
use Rattle.commit_journal.specs.Rotation.{IsImageOf, IsReplacing}
use Rattle.commit_journal.specs.Rotated.{IsRotated, IsRotateFaulted, IsRotateSafe}
use Rattle.commit_journal.specs.Steps.{Counts, Stays}
use Rattle.commit_journal.proofs.CallLemmas.{counts_calls, no_calls}
use Rattle.commit_journal.proofs.JournalLemmas.{counted_is_spare, done_is, failed_is, failed_safe, image_of, same_view, swapped_cause, swapped_counts, swapped_rotate, swapped_stays, view_of}
use Rattle.commit_journal.proofs.StepLemmas.{moved_cause, moved_counts, moved_stays, no_fault}
use Rattle.commit_journal.proofs.journal.Journal.rotate.Goals as goal

pub invariant_of-self : goal.invariant_of-self
invariant_of-self g c =
    let view = g.D.Disk.view in
    let j = c.self.inside in
    let o1 = view c.rotate_to-tried.new.disk in
    let idle : j.flight ≡ Nothing = ap (λ (v : JournalView). v.flight) c.self.view_is ∙ c.requires in
    let small : j.generation < 2 ^ 64 = omega (arith, c.self.ranges) in
    let image : List Record = c.args.image.now in
    let bytes : List ℕ = c.with_gate-records.result.now in
    let gen : ℕ = (j.generation + 1) % 2 ^ 64 in
    let tried = c.rotate_to-tried.ensures in
    let is_of : 17 + length bytes ≤ 2 ^ 62 → IsImageOf j.generation image (image_gate image) (to_be_bytes w64 gen) bytes = λ bound.
    image_of j.generation image gen (image_gate image) bytes c.with_gate-records.ensures.sound c.with_gate-records.ensures.some c.with_gate-records.ensures.bytes refl refl bound in
    let size : length bytes ≡ 1 + length (bodies image) = omega (arith, ap length c.with_gate-records.ensures.bytes) in
    let leaves = λ (t : IsTrue (view j.other).tells) (quiet : IsQuiet (view j.other).history). tried.any_moment t quiet j.generation (image_gate image) image is_of in
    let beside = subst (λ (f : Flight). IsBeside (view j.other) j.generation f) idle c.self.invariant.1.1 in
    let whole = subst (λ (f : Flight). IsWhole (view j.counting) j.gate f) idle c.self.invariant.0 in
    let bound : 17 + length bytes ≤ 2 ^ 62 = tried.bound c.in-Done.is in
    let replaced = λ (t : IsTrue (view j.other).tells) (quiet : IsQuiet (view j.other).history). tried.done c.in-Done.is t quiet j.generation (image_gate image) image (is_of bound) in
    let quiet = λ (t : IsTrue (view j.other).tells). tried.quiet c.in-Done.is t in
    let at_is : 16 + length bytes ≡ image_gate image = omega (arith, size, bound) in
    subst (λ x. IsWhole (view x) (16 + length bytes) j.flight × (IsNumbered (view x) gen × IsBeside (view c.swap.new.y) gen j.flight)) (sym c.swap.ensures.x_after)
    (subst (λ y. IsWhole o1 (16 + length bytes) j.flight × (IsNumbered o1 gen × IsBeside (view y) gen j.flight)) (sym c.swap.ensures.y_after)
    (subst (λ (f : Flight). IsWhole o1 (16 + length bytes) f × (IsNumbered o1 gen × IsBeside (view j.counting) gen f)) (sym idle) (
      (
        omega (arith, bound),
        λ t1. let t = subst IsTrue tried.file.tells t1 in
            (image, record { spells = subst (λ (k : ℕ). Spells (contents_of o1.history) image k) (sym at_is) (replaced t (beside t).quiet).spells; quiet = quiet t }),
      ),
      (
        λ t1. let t = subst IsTrue tried.file.tells t1 in (replaced t (beside t).quiet).number_is,
        λ t. counted_is_spare j.generation gen (view j.counting).history (whole.1 t).0 j.gate (whole.1 t).1 (c.self.invariant.1.0 t) small refl,
      ),
    )))

pub invariant_of-self-in-Failed : goal.invariant_of-self-in-Failed
invariant_of-self-in-Failed g c =
    let view = g.D.Disk.view in
    let j = c.self.inside in
    let o1 = view c.rotate_to-tried.new.disk in
    let idle : j.flight ≡ Nothing = ap (λ (v : JournalView). v.flight) c.self.view_is ∙ c.requires in
    let small : j.generation < 2 ^ 64 = omega (arith, c.self.ranges) in
    let image : List Record = c.args.image.now in
    let bytes : List ℕ = c.with_gate-records.result.now in
    let gen : ℕ = (j.generation + 1) % 2 ^ 64 in
    let tried = c.rotate_to-tried.ensures in
    let is_of : 17 + length bytes ≤ 2 ^ 62 → IsImageOf j.generation image (image_gate image) (to_be_bytes w64 gen) bytes = λ bound.
    image_of j.generation image gen (image_gate image) bytes c.with_gate-records.ensures.sound c.with_gate-records.ensures.some c.with_gate-records.ensures.bytes refl refl bound in
    let size : length bytes ≡ 1 + length (bodies image) = omega (arith, ap length c.with_gate-records.ensures.bytes) in
    let leaves = λ (t : IsTrue (view j.other).tells) (quiet : IsQuiet (view j.other).history). tried.any_moment t quiet j.generation (image_gate image) image is_of in
    let beside = subst (λ (f : Flight). IsBeside (view j.other) j.generation f) idle c.self.invariant.1.1 in
    let whole = subst (λ (f : Flight). IsWhole (view j.counting) j.gate f) idle c.self.invariant.0 in
    let next_is : c.min.result ≡ image_gate image = omega (arith, c.min.ensures, size) in (
      (whole.0, omega (arith, c.min.ensures), whole.1),
      (
        c.self.invariant.1.0,
        λ t1. let t = subst IsTrue tried.file.tells t1 in (
          image,
          record {
            file = contents_of (view j.other).history;
            stale = (beside t).stale;
            images = λ d im. subst (λ (k : ℕ). IsReplacing (contents_of (view j.other).history) j.generation image k d) (sym next_is) (leaves_now _ _ _ (leaves t (beside t).quiet) d im);
          },
        ),
      ),
    )

pub returns-in-Done : goal.returns-in-Done
returns-in-Done g c =
    let view = g.D.Disk.view in
    let j = c.self.inside in
    let o1 = view c.rotate_to-tried.new.disk in
    let idle : j.flight ≡ Nothing = ap (λ (v : JournalView). v.flight) c.self.view_is ∙ c.requires in
    let small : j.generation < 2 ^ 64 = omega (arith, c.self.ranges) in
    let image : List Record = c.args.image.now in
    let bytes : List ℕ = c.with_gate-records.result.now in
    let gen : ℕ = (j.generation + 1) % 2 ^ 64 in
    let tried = c.rotate_to-tried.ensures in
    let is_of : 17 + length bytes ≤ 2 ^ 62 → IsImageOf j.generation image (image_gate image) (to_be_bytes w64 gen) bytes = λ bound.
    image_of j.generation image gen (image_gate image) bytes c.with_gate-records.ensures.sound c.with_gate-records.ensures.some c.with_gate-records.ensures.bytes refl refl bound in
    let size : length bytes ≡ 1 + length (bodies image) = omega (arith, ap length c.with_gate-records.ensures.bytes) in
    let leaves = λ (t : IsTrue (view j.other).tells) (quiet : IsQuiet (view j.other).history). tried.any_moment t quiet j.generation (image_gate image) image is_of in
    let bound : 17 + length bytes ≤ 2 ^ 62 = tried.bound c.in-Done.is in
    let replaced = λ (t : IsTrue (view j.other).tells) (quiet : IsQuiet (view j.other).history). tried.done c.in-Done.is t quiet j.generation (image_gate image) image (is_of bound) in
    let quiet = λ (t : IsTrue (view j.other).tells). tried.quiet c.in-Done.is t in
    let at_is : 16 + length bytes ≡ image_gate image = omega (arith, size, bound) in
    let n = j.counting_calls in
    let m = c.saturating_add-self-inside.result in
    let more = c.saturating_add-self-inside.ensures in
    let old : JournalView = view_of j.b_counts j.gate j.flight j.limit (view j.counting) (view j.other) n j.other_calls in
    let at : ℕ = 16 + length bytes in
    let b' = not j.b_counts in
    let x = c.swap.new.x in
    let y = c.swap.new.y in
    let k = c.swap-in-Done.new.x in
    let l = c.swap-in-Done.new.y in
    let new : JournalView = view_of b' at j.flight j.limit (view x) (view y) k l in
    let same : view_of b' at j.flight j.limit o1 (view j.counting) m n ≡ new =
    same_view b' at j.flight j.limit o1 (view x) (view j.counting) (view y) m k n l (ap view c.swap.ensures.x_after) (ap view c.swap.ensures.y_after) c.swap-in-Done.ensures.x_after c.swap-in-Done.ensures.y_after in
    record {
      ok = subst (λ (v : JournalView). IsRotated v image new) c.self.view_is (subst (λ (w : JournalView). IsRotated old image w) same
          (done_is j.b_counts (view j.counting) (view j.other) o1 j.gate j.generation j.limit n j.other_calls m j.flight image bytes idle small c.self.invariant.1.0 c.with_gate-records.ensures.bytes leaves at at_is (omega (arith, size)) replaced quiet
          (λ t. tried.file.made c.in-Done.is t)
          (⊎_elim (λ five. inl (more ∙ ap (counted j.other_calls) five)) (λ seven. inr (more ∙ ap (counted j.other_calls) seven)) (tried.few c.in-Done.is))));
      err = tt;
      safe = subst (λ (v : JournalView). IsRotateSafe v image new) c.self.view_is (subst (λ (w : JournalView). IsRotateSafe old image w) same
          (swapped_rotate old j.gate at (ImageInFlight at) j.flight j.limit (view j.counting) o1 n m image j.b_counts
          (failed_safe j.b_counts (view j.counting) (view j.other) o1 j.gate j.generation j.limit n j.other_calls m j.flight image bytes idle small c.self.invariant.1.0 c.with_gate-records.ensures.bytes leaves at)));
      counts = subst (λ (v : JournalView). Counts v new) c.self.view_is (subst (λ (w : JournalView). Counts old w) same
          (swapped_counts old j.gate at j.flight j.flight j.limit (view j.counting) o1 n m j.b_counts
          (moved_counts old (view j.counting) o1 j.gate j.flight n m (λ t. no_calls (view j.counting).history n (omega (arith, c.self.ranges)))
          (λ t. counts_calls _ _ j.other_calls c.rotate_to-tried.result.calls _ (tried.calls t) more) (omega arith) (omega (arith, more, c.self.ranges)))));
      stays = subst (λ (v : JournalView). Stays v new) c.self.view_is (subst (λ (w : JournalView). Stays old w) same
          (swapped_stays old j.gate at j.flight j.flight j.limit (view j.counting) o1 n m j.b_counts
          (moved_stays old (view j.counting) o1 j.gate j.flight n m refl tried.file.tells)));
      cause = subst (λ (v : JournalView). PairCause (disk_a v).faults (disk_a new).faults (disk_b v).faults (disk_b new).faults _) c.self.view_is
          (no_fault _ _ _ _ _ (λ e. absurd (cc)) (subst (λ (w : JournalView). PairCause (disk_a old).faults (disk_a w).faults (disk_b old).faults (disk_b w).faults ⊥) same
          (swapped_cause old j.gate at j.flight j.flight j.limit (view j.counting) o1 n m j.b_counts ⊥
          (moved_cause old (view j.counting) o1 j.gate j.flight n m ⊥ (record { later_a = omega arith; later_b = tried.cause.later; rose = λ e. absurd e })))));
    }

pub returns-in-Failed : goal.returns-in-Failed
returns-in-Failed g c =
    let view = g.D.Disk.view in
    let j = c.self.inside in
    let o1 = view c.rotate_to-tried.new.disk in
    let idle : j.flight ≡ Nothing = ap (λ (v : JournalView). v.flight) c.self.view_is ∙ c.requires in
    let small : j.generation < 2 ^ 64 = omega (arith, c.self.ranges) in
    let image : List Record = c.args.image.now in
    let bytes : List ℕ = c.with_gate-records.result.now in
    let gen : ℕ = (j.generation + 1) % 2 ^ 64 in
    let tried = c.rotate_to-tried.ensures in
    let is_of : 17 + length bytes ≤ 2 ^ 62 → IsImageOf j.generation image (image_gate image) (to_be_bytes w64 gen) bytes = λ bound.
    image_of j.generation image gen (image_gate image) bytes c.with_gate-records.ensures.sound c.with_gate-records.ensures.some c.with_gate-records.ensures.bytes refl refl bound in
    let size : length bytes ≡ 1 + length (bodies image) = omega (arith, ap length c.with_gate-records.ensures.bytes) in
    let leaves = λ (t : IsTrue (view j.other).tells) (quiet : IsQuiet (view j.other).history). tried.any_moment t quiet j.generation (image_gate image) image is_of in
    let n = j.counting_calls in
    let m = c.saturating_add-self-inside.result in
    let more = c.saturating_add-self-inside.ensures in
    let old : JournalView = view_of j.b_counts j.gate j.flight j.limit (view j.counting) (view j.other) n j.other_calls in
    let next_is : c.min.result ≡ image_gate image = omega (arith, c.min.ensures, size) in
    let new : JournalView = view_of j.b_counts j.gate (ImageInFlight c.min.result) j.limit (view j.counting) o1 n m in
    record {
      ok = tt;
      err = subst (λ (v : JournalView). IsRotateFaulted v image new) c.self.view_is
          (failed_is j.b_counts (view j.counting) (view j.other) o1 j.gate j.generation j.limit n j.other_calls m j.flight image bytes idle small c.self.invariant.1.0 c.with_gate-records.ensures.bytes leaves c.min.result next_is
          (λ t. tried.file.part t));
      safe = subst (λ (v : JournalView). IsRotateSafe v image new) c.self.view_is
          (failed_safe j.b_counts (view j.counting) (view j.other) o1 j.gate j.generation j.limit n j.other_calls m j.flight image bytes idle small c.self.invariant.1.0 c.with_gate-records.ensures.bytes leaves c.min.result);
      counts = subst (λ (v : JournalView). Counts v new) c.self.view_is
          (moved_counts old (view j.counting) o1 j.gate (ImageInFlight c.min.result) n m (λ t. no_calls (view j.counting).history n (omega (arith, c.self.ranges)))
          (λ t. counts_calls _ _ j.other_calls c.rotate_to-tried.result.calls _ (tried.calls t) more) (omega arith) (omega (arith, more, c.self.ranges)));
      stays = subst (λ (v : JournalView). Stays v new) c.self.view_is (moved_stays old (view j.counting) o1 j.gate (ImageInFlight c.min.result) n m refl tried.file.tells);
      cause = subst (λ (v : JournalView). PairCause (disk_a v).faults (disk_a new).faults (disk_b v).faults (disk_b new).faults _) c.self.view_is
          (moved_cause old (view j.counting) o1 j.gate (ImageInFlight c.min.result) n m _ (record { later_a = omega arith; later_b = tried.cause.later; rose = λ e. inr (tried.cause.rose c.in-Failed.is) }));
    }
