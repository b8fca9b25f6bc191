-- What calls of a journal leave of its disks.
use Rattle.std.proofs.Common.{◌≡◌, ◌≤◌, inl, inr, ⊎_elim, ℕ, Bool, true, false, IsTrue, refl, sym, ap, subst, ◌∙◌, arith}
use Rattle.disk_model.specs.Pair.{FaultOnEither}
use Rattle.std.proofs.lemmas.Bool.{cases_lt}
use Rattle.cfg_base.specs.Counts.{Rose}
use Rattle.cfg_base.specs.declared.calls.Calls.{Calls}
use Rattle.disk_model.specs.Disk.{DiskView}
use Rattle.commit_journal.specs.Journal.{JournalView, Tell, PairCause, calls_a, calls_b, disk_a, disk_b, disks_of}
use Rattle.commit_journal.specs.Pair.{first_of, second_of}
use Rattle.commit_journal.specs.Steps.{Counts, Stays}
use Rattle.commit_journal.specs.Held.{GoesOn, calls_of}
use Rattle.commit_journal.proofs.RisingLemmas.{at_most_same, at_most_trans}

tell_sides : (b : Bool) (x y : DiskView) → IsTrue x.tells × IsTrue y.tells → IsTrue (first_of b x y).tells × IsTrue (second_of b x y).tells
tell_sides true x y t = (t.1, t.0)
tell_sides false x y t = t

tell_whole : (b : Bool) (x y : DiskView) → IsTrue (first_of b x y).tells × IsTrue (second_of b x y).tells → IsTrue x.tells × IsTrue y.tells
tell_whole true x y t = (t.1, t.0)
tell_whole false x y t = t

-- both disks tell, A and B
pub tell_ab : (j : JournalView) → IsTrue (disk_a j).tells → IsTrue (disk_b j).tells → Tell j
tell_ab j a b = tell_whole j.b_counts j.counting j.other (a, b)

-- they told before, where they tell now
tell_before : (j j' : JournalView) → (disk_a j').tells ≡ (disk_a j).tells → (disk_b j').tells ≡ (disk_b j).tells → Tell j' → Tell j
tell_before j j' same_a same_b t =
    let now = tell_sides j'.b_counts j'.counting j'.other t in
    tell_ab j (subst IsTrue same_a now.0) (subst IsTrue same_b now.1)

pub tell_back : (j j' : JournalView) → Stays j j' → Tell j' → Tell j
tell_back j j' stays t = tell_before j j' stays.tells_a stays.tells_b t

pub tell_since : (j j' : JournalView) → GoesOn j j' → Tell j' → Tell j
tell_since j j' goes t = tell_before j j' goes.tells_a goes.tells_b t

-- they tell now, where they told before
pub tell_on : (j j' : JournalView) → GoesOn j j' → Tell j → Tell j'
tell_on j j' goes t =
    let before = tell_sides j.b_counts j.counting j.other t in
    tell_ab j' (subst IsTrue (sym goes.tells_a) before.0) (subst IsTrue (sym goes.tells_b) before.1)

pub tell_each : (j : JournalView) → Tell j → IsTrue (disk_a j).tells × IsTrue (disk_b j).tells
tell_each j t = tell_sides j.b_counts j.counting j.other t

pub goes_on : (j j' : JournalView) (failed : Type 0) → Stays j j' → Counts j j'
    → PairCause (disk_a j).faults (disk_a j').faults (disk_b j).faults (disk_b j').faults failed → GoesOn j j'
goes_on j j' failed stays counts cause = record {
  calls = record { a = counts.later_a; b = counts.later_b };
  tells_a = stays.tells_a;
  tells_b = stays.tells_b;
  faults_a = cause.later_a;
  faults_b = cause.later_b;
  limit_is = stays.limit_is;
}

pub goes_nowhere : (j : JournalView) → GoesOn j j
goes_nowhere j = record { calls = at_most_same _; tells_a = refl; tells_b = refl; faults_a = omega arith; faults_b = omega arith; limit_is = refl }

pub goes_further : (i j k : JournalView) → GoesOn i j → GoesOn j k → GoesOn i k
goes_further i j k first then_on = record {
  calls = at_most_trans _ _ _ first.calls then_on.calls;
  tells_a = then_on.tells_a ∙ first.tells_a;
  tells_b = then_on.tells_b ∙ first.tells_b;
  faults_a = omega (arith, first.faults_a, then_on.faults_a);
  faults_b = omega (arith, first.faults_b, then_on.faults_b);
  limit_is = then_on.limit_is ∙ first.limit_is;
}

rose_more : (a b c : ℕ) → Rose a b → b ≤ c → Rose a c
rose_more a b c (inl rose) le = inl (omega (arith, rose, le))
rose_more a b c (inr full) le = inr full

rose_since : (a b c : ℕ) → a ≤ b → b ≤ c → Rose b c → Rose a c
rose_since a b c le more (inl rose) = inl (omega (arith, rose, le))
rose_since a b c le more (inr full) = ⊎_elim (λ below. inl (omega (arith, below, more))) (λ same. inr (omega (arith, same, full))) (cases_lt a b)

-- a count that rose in a part of the calls rose in all
pub rose_first : (i j k : JournalView) → FaultOnEither (disks_of i) (disks_of j) → GoesOn j k → FaultOnEither (disks_of i) (disks_of k)
rose_first i j k (inl rose) on = inl (rose_more _ _ _ rose on.faults_a)
rose_first i j k (inr rose) on = inr (rose_more _ _ _ rose on.faults_b)

pub rose_last : (i j k : JournalView) → GoesOn i j → GoesOn j k → FaultOnEither (disks_of j) (disks_of k) → FaultOnEither (disks_of i) (disks_of k)
rose_last i j k on more (inl rose) = inl (rose_since _ _ _ on.faults_a more.faults_a rose)
rose_last i j k on more (inr rose) = inr (rose_since _ _ _ on.faults_b more.faults_b rose)

-- what the journal reports
pub calls_is : (j : JournalView) (made : Calls) → made.a ≡ calls_a j → made.b ≡ calls_b j → made ≡ calls_of j
calls_is j made p q = ap (λ (n : ℕ). record { a = n; b = made.b }) p ∙ ap (λ (n : ℕ). record { a = calls_a j; b = n }) q
