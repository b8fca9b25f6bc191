-- Counts of events that failed, one call after another, from the opening to the end.
use Rattle.std.proofs.Common.{◌≡◌, ◌≤◌, ◌+◌, ◌&&◌, inl, inr, ⊎_elim, ℕ, Bool, true, false, cond, not, List, [], ◌∷◌, ◌++◌, refl, sym, ap, subst, ◌∙◌, arith}
use Rattle.disk_model.specs.Pair.{FaultOnEither, DiskPair, NoneFell}
use Rattle.std.specs.Prelude.{count_by}
use Rattle.std.specs.List.{AllByRecursion}
use Rattle.std.proofs.lemmas.List.Sums.{sum_by-append, sum_by-cons}
use Rattle.commit_journal.specs.Journal.{JournalView, disks_of}
use Rattle.config_core.specs.declared.event.Outcome.{Outcome}
use Rattle.config_core.specs.declared.event.Outcome.TheVariants.{Done, Fault}
use Rattle.session_history.specs.declared.history.Happened.{Happened}
use Rattle.session_history.specs.Events.{is_command, NoCommand}
use Rattle.config_db.specs.Disks.{GoesOn}
use Rattle.config_db.specs.Faults.{FaultsAreCounted, RoseBy, is_failed_command, is_failed_other, is_fault}

abbrev once : Bool → ℕ
once b = cond b 1 0

count-append : (p : Happened → Bool) (own more : List Happened) → count_by p (own ++ more) ≡ count_by p own + count_by p more
count-append p own more = sum_by-append (λ x. cond (p x) 1 0) own more

count-cons : (p : Happened → Bool) (e : Happened) (own : List Happened) → count_by p (e ∷ own) ≡ cond (p e) 1 0 + count_by p own
count-cons p e own = sum_by-cons (λ x. cond (p x) 1 0) e own

count-one : (p : Happened → Bool) (e : Happened) → count_by p (e ∷ []) ≡ cond (p e) 1 0
count-one p e =
    let none : count_by p [] ≡ 0 = refl in
    omega (arith, count-cons p e [], none)

none_passes : (p : Happened → Bool) (own : List Happened) → AllByRecursion (λ e. p e ≡ false) own → count_by p own ≡ 0
none_passes p [] all = refl
none_passes p (e ∷ own) all =
    let here : cond (p e) 1 0 ≡ 0 = ap once all.0 in
    let rest = none_passes p own all.1 in
    omega (arith, count-cons p e own, here, rest)

never : (o : Outcome) → is_fault o && false ≡ false
never Done = refl
never Fault = refl

no_failed_command : (own : List Happened) → NoCommand own → AllByRecursion (λ e. is_failed_command e ≡ false) own
no_failed_command [] none = tt
no_failed_command (e ∷ own) none = (ap (λ b. is_fault e.outcome && b) none.0 ∙ never e.outcome, no_failed_command own none.1)

failed_by_fault : (o : Outcome) (b : Bool) → is_fault o && b ≡ true → o ≡ Fault
failed_by_fault Done b is = absurd (cc)
failed_by_fault Fault b is = refl

none_fell : (j k : JournalView) → GoesOn j k → NoneFell (disks_of j) (disks_of k)
none_fell j k goes = (goes.faults_a, goes.faults_b)

-- counts that rose in a part of the calls, and then more
rose_on : (many more : ℕ) (p q r : DiskPair) → NoneFell q r → RoseBy many p q → RoseBy more q r → RoseBy (many + more) p r
rose_on many more p q r on (inl full) next = inl (omega (arith, full, on.0))
rose_on many more p q r on (inr (inl full)) next = inr (inl (omega (arith, full, on.1)))
rose_on many more p q r on (inr (inr rose)) (inl full) = inl full
rose_on many more p q r on (inr (inr rose)) (inr (inl full)) = inr (inl full)
rose_on many more p q r on (inr (inr rose)) (inr (inr risen)) = inr (inr (omega (arith, rose, risen)))

rose_none : (p q : DiskPair) → NoneFell p q → RoseBy 0 p q
rose_none p q on = inr (inr (omega (arith, on.0, on.1)))

-- no event, and no count fell
none_counted : (p q : DiskPair) → NoneFell p q → FaultsAreCounted [] p q
none_counted p q on = record { commands = rose_none p q on; others = rose_none p q on }

pub counted_none : (p q : DiskPair) → p.a.faults ≤ q.a.faults → p.b.faults ≤ q.b.faults → FaultsAreCounted [] p q
counted_none p q on_a on_b = none_counted p q (on_a, on_b)

-- events, and then more
pub counted_more : (own more : List Happened) (p q r : DiskPair) → q.a.faults ≤ r.a.faults → q.b.faults ≤ r.b.faults
    → FaultsAreCounted own p q → FaultsAreCounted more q r → FaultsAreCounted (own ++ more) p r
counted_more own more p q r on_a on_b first next = record {
  commands = subst (λ n. RoseBy n p r) (sym (count-append is_failed_command own more))
      (rose_on _ _ p q r (on_a, on_b) first.commands next.commands);
  others = subst (λ n. RoseBy n p r) (sym (count-append is_failed_other own more))
      (rose_on _ _ p q r (on_a, on_b) first.others next.others);
}

-- one that may have failed
rose_once : (b : Bool) (p q : DiskPair) → NoneFell p q → (b ≡ true → FaultOnEither p q) → RoseBy (cond b 1 0) p q
rose_once false p q on rose = rose_none p q on
rose_once true p q on rose =
    ⊎_elim (λ r. ⊎_elim (λ up. inr (inr (omega (arith, up, on.1)))) (λ full. inl (omega (arith, full, on.0))) r)
    (λ r. ⊎_elim (λ up. inr (inr (omega (arith, up, on.0)))) (λ full. inr (inl (omega (arith, full, on.1)))) r) (rose refl)

-- one event
pub counted_one : (j k : JournalView) (e : Happened) → GoesOn j k → (e.outcome ≡ Fault → FaultOnEither (disks_of j) (disks_of k))
    → FaultsAreCounted (e ∷ []) (disks_of j) (disks_of k)
counted_one j k e goes cause = record {
  commands = by is_failed_command (λ is. cause (failed_by_fault e.outcome (is_command e.event) is));
  others = by is_failed_other (λ is. cause (failed_by_fault e.outcome (not (is_command e.event)) is));
}
  where
    by : (p : Happened → Bool) → (p e ≡ true → FaultOnEither (disks_of j) (disks_of k))
        → RoseBy (count_by p (e ∷ [])) (disks_of j) (disks_of k)
    by p rose = subst (λ n. RoseBy n (disks_of j) (disks_of k)) (sym (count-one p e))
        (rose_once (p e) (disks_of j) (disks_of k) (none_fell j k goes) rose)

-- a command after events of which none is one: a fault before it may be its cause
pub counted_command : (i j k : JournalView) (own : List Happened) (e : Happened) → GoesOn i j → GoesOn j k → NoCommand own
    → is_command e.event ≡ true → FaultsAreCounted own (disks_of i) (disks_of j)
    → (e.outcome ≡ Fault → FaultOnEither (disks_of i) (disks_of k)) → FaultsAreCounted (own ++ e ∷ []) (disks_of i) (disks_of k)
counted_command i j k own e on more none asks before cause = record {
  commands = subst (λ n. RoseBy n (disks_of i) (disks_of k)) (sym only)
      (rose_once (is_failed_command e) (disks_of i) (disks_of k) fell (λ is. cause (failed_by_fault e.outcome (is_command e.event) is)));
  others = subst (λ n. RoseBy n (disks_of i) (disks_of k))
      (sym (count-append is_failed_other own (e ∷ []) ∙ ap (λ m. count_by is_failed_other own + m) no_other))
      (rose_on (count_by is_failed_other own) 0 (disks_of i) (disks_of j) (disks_of k) (none_fell j k more) before.others
      (rose_none (disks_of j) (disks_of k) (none_fell j k more)));
}
  where
    fell : NoneFell (disks_of i) (disks_of k)
    fell = (omega (arith, on.faults_a, more.faults_a), omega (arith, on.faults_b, more.faults_b))

    only : count_by is_failed_command (own ++ e ∷ []) ≡ cond (is_failed_command e) 1 0
    only = omega (arith, count-append is_failed_command own (e ∷ []), none_passes is_failed_command own (no_failed_command own none), count-one is_failed_command e)

    no_other : count_by is_failed_other (e ∷ []) ≡ 0
    no_other = count-one is_failed_other e ∙ ap (λ b. once (is_fault e.outcome && not b)) asks ∙ ap once (never e.outcome)
