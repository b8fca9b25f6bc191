-- What holds of every list that was read or grew from one that was: so its checkpoint is read as what it keeps.
use Rattle.std.proofs.Common.{◌≡◌, ◌≢◌, ◌≤◌, ◌<◌, ◌⊎◌, inl, inr, ⊎_elim, ℕ, zero, suc, ◌+◌, ◌-◌, ◌==◌, Bool, true, false, cond, nat_lt, List, [], ◌∷◌, ◌++◌, length, map, take, drop, Option, Some, None, refl, sym, ◌∙◌, ap, subst, arith, append_assoc, length-append, length-drop, take-append-drop, true≢false}
use Rattle.std.specs.Prelude.{IfSome, IsSome, is_some}
use Rattle.std.specs.List.{AllByRecursion}
use Rattle.std.proofs.lemmas.Bool.Decides.{nat_tests}
use Rattle.std.proofs.lemmas.List.{drop-append-le}
use Rattle.cfg_tree.specs.Statements.{Statements}
use Rattle.confirm_timer.specs.Deadline.{after_minutes}
use Rattle.commit_ledger.specs.declared.entry.Commit.{Commit}
use Rattle.commit_ledger.specs.declared.entry.Confirm.{Confirm}
use Rattle.commit_ledger.specs.declared.entry.Entry.{Entry}
use Rattle.commit_ledger.specs.declared.entry.Cleared.{Cleared}
use Rattle.commit_ledger.specs.declared.entry.Scheduled.{Scheduled}
use Rattle.commit_ledger.specs.declared.entry.Entry.TheVariants.{Commit as CommitOf, Confirm as ConfirmOf, Scheduled as ScheduledOf, Cleared as ClearedOf}
use Rattle.commit_ledger.specs.declared.limit.TheConstants.{MAX_ENTRIES}
use Rattle.commit_ledger.specs.Kept.{Kept, Unconfirmed, opened, commits_of, append_entry, append_commit, append_confirm, append_scheduled, append_cleared, target_in, target_of}
use Rattle.commit_ledger.specs.Rules.{IsCommit, IsEntry, IsScheduled, IsWaiting, Follows, new_after}
use Rattle.commit_ledger.specs.Checkpoint.{first_of, first_number, far_target, listed, checkpoint, plain_checkpoint, commit_record, told_by, waiting_records, without, AreConsecutive, AreInTime, IsAmong, IsRunAmong, IsRestorable, Restores, Agrees, as_read}
use Rattle.commit_ledger.specs.Payload.{entry_record}
use Rattle.commit_ledger.specs.Reading.{GoesOn, ReadsAs}
use Rattle.commit_ledger.proofs.RecordLemmas.{all_written}

-- numbers that rise and moments that don't fall
abbrev AreRising : List Commit → Type 0
AreRising [] = Unit {0}
AreRising (c ∷ []) = Unit {0}
AreRising (c ∷ (d ∷ commits)) = (c.number < d.number) × ((c.moment ≤ d.moment) × AreRising (d ∷ commits))

-- a list that grew: the commits that are kept, after others of which one may be what a run goes back to
pub record IsGrown (accepted : Statements → Type 0) (kept : Kept) : Type 0 where
  pub early : List Commit
  pub each : AllByRecursion (IsCommit accepted) (early ++ commits_of kept)
  pub rising : AreRising (early ++ commits_of kept)
  pub numbers : AreConsecutive (commits_of kept)
  pub few : length kept.older ≤ 49
  pub whole : (length kept.older ≡ 49) ⊎ (first_number kept ≡ 1)
  pub number : kept.last.number ≤ kept.count
  pub room : kept.count ≤ MAX_ENTRIES + 1
  pub no_later : kept.last.moment ≤ kept.moment
  pub run : IfSome kept.pending (IsRunAmong (early ++ commits_of kept) kept)
  pub waits : IfSome kept.scheduled (IsWaiting accepted kept)

pub below : (m n : ℕ) → nat_lt m n ≡ true → m < n
below m n told = grind (arith, nat_tests)

pub not_below : (m n : ℕ) → nat_lt m n ≡ false → n ≤ m
not_below m n told = grind (arith, nat_tests)

-- commits after others
rising_push : (xs : List Commit) (l c : Commit) → AreRising (xs ++ l ∷ []) → l.number < c.number → l.moment ≤ c.moment → AreRising ((xs ++ l ∷ []) ++ c ∷ [])
rising_push [] l c r number moment = (number, (moment, tt))
rising_push (x ∷ []) l c r number moment = (r.0, (r.1.0, rising_push [] l c r.1.1 number moment))
rising_push (x ∷ (y ∷ xs)) l c r number moment = (r.0, (r.1.0, rising_push (y ∷ xs) l c r.1.1 number moment))

consecutive_push : (xs : List Commit) (l c : Commit) → AreConsecutive (xs ++ l ∷ []) → c.number ≡ l.number + 1 → AreConsecutive ((xs ++ l ∷ []) ++ c ∷ [])
consecutive_push [] l c r number = (number, tt)
consecutive_push (x ∷ []) l c r number = (r.0, consecutive_push [] l c r.1 number)
consecutive_push (x ∷ (y ∷ xs)) l c r number = (r.0, consecutive_push (y ∷ xs) l c r.1 number)

consecutive_tail : (x : Commit) (xs : List Commit) → AreConsecutive (x ∷ xs) → AreConsecutive xs
consecutive_tail x [] r = tt
consecutive_tail x (y ∷ xs) r = r.1

consecutive_drop : (n : ℕ) (xs : List Commit) → AreConsecutive xs → AreConsecutive (drop n xs)
consecutive_drop zero xs r = r
consecutive_drop (suc n) [] r = tt
consecutive_drop (suc n) (x ∷ xs) r = consecutive_drop n xs (consecutive_tail x xs r)

rising_tail : (x : Commit) (xs : List Commit) → AreRising (x ∷ xs) → AreRising xs
rising_tail x [] r = tt
rising_tail x (y ∷ xs) r = r.1.1

rising_back : (xs ys : List Commit) → AreRising (xs ++ ys) → AreRising ys
rising_back [] ys r = r
rising_back (x ∷ xs) ys r = rising_back xs ys (rising_tail x (xs ++ ys) r)

in_time : (xs : List Commit) → AreRising xs → AreInTime xs
in_time [] r = tt
in_time (x ∷ []) r = tt
in_time (x ∷ (y ∷ xs)) r = (r.1.0, in_time (y ∷ xs) r.1.1)

all_push : (P : Commit → Type 0) (xs : List Commit) (c : Commit) → AllByRecursion P xs → P c → AllByRecursion P (xs ++ c ∷ [])
all_push P [] c each is = (is, tt)
all_push P (x ∷ xs) c each is = (each.0, all_push P xs c each.1 is)

pub all_back : (P : Commit → Type 0) (xs ys : List Commit) → AllByRecursion P (xs ++ ys) → AllByRecursion P ys
all_back P [] ys each = each
all_back P (x ∷ xs) ys each = all_back P xs ys each.1

pub all_among : (P : Commit → Type 0) (xs : List Commit) (c : Commit) → AllByRecursion P xs → IsAmong c xs → P c
all_among P [] c each is = absurd is
all_among P (x ∷ xs) c each is = ⊎_elim (λ same. subst P (sym same) each.0) (λ rest. all_among P xs c each.1 rest) is

pub among_front : (c : Commit) (xs ys : List Commit) → IsAmong c xs → IsAmong c (xs ++ ys)
among_front c [] ys is = absurd is
among_front c (x ∷ xs) ys is = ⊎_elim (λ same. inl same) (λ rest. inr (among_front c xs ys rest)) is

pub among_back : (c : Commit) (xs ys : List Commit) → IsAmong c ys → IsAmong c (xs ++ ys)
among_back c [] ys is = is
among_back c (x ∷ xs) ys is = inr (among_back c xs ys is)

-- one commit in a rising row, and another one after it
before_in : (x : Commit) (xs : List Commit) (y : Commit) (ys : List Commit) → AreRising (x ∷ (xs ++ y ∷ ys)) → (x.number < y.number) × (x.moment ≤ y.moment)
before_in x [] y ys r = (r.0, r.1.0)
before_in x (z ∷ xs) y ys r = let later = before_in z xs y ys r.1.1 in (omega (arith, r.0, later.0), omega (arith, r.1.0, later.1))

behind_in : (y : Commit) (ys : List Commit) (c : Commit) → AreRising (y ∷ ys) → IsAmong c ys → y.number < c.number
behind_in y [] c r is = absurd is
behind_in y (z ∷ ys) c r is = ⊎_elim (λ same. let e = ap (λ (d : Commit). d.number) same in omega (arith, r.0, e)) (λ rest. omega (arith, r.0, behind_in z ys c r.1.1 rest)) is

-- a commit of a lower number than one of the row isn't later than that
earlier_in : (xs : List Commit) (y : Commit) (ys : List Commit) (c : Commit) → AreRising (xs ++ y ∷ ys) → IsAmong c (xs ++ y ∷ ys) → c.number < y.number → c.moment ≤ y.moment
earlier_in [] y ys c r is low = ⊎_elim (λ same. absurd (let e = ap (λ (d : Commit). d.number) same in omega (arith, low, e))) (λ rest. absurd (omega (arith, low, behind_in y ys c r rest))) is
earlier_in (x ∷ xs) y ys c r is low =
    ⊎_elim (λ same. let e = ap (λ (d : Commit). d.moment) same in omega (arith, (before_in x xs y ys r).1, e)) (λ rest. earlier_in xs y ys c (rising_tail x (xs ++ y ∷ ys) r) rest low) is

-- and one of no lower number stands there or after it
later_in : (xs : List Commit) (y : Commit) (ys : List Commit) (c : Commit) → AreRising (xs ++ y ∷ ys) → IsAmong c (xs ++ y ∷ ys) → y.number ≤ c.number → IsAmong c (y ∷ ys)
later_in [] y ys c r is high = is
later_in (x ∷ xs) y ys c r is high =
    ⊎_elim (λ same. absurd (let e = ap (λ (d : Commit). d.number) same in omega (arith, (before_in x xs y ys r).0, e, high))) (λ rest. later_in xs y ys c (rising_tail x (xs ++ y ∷ ys) r) rest high) is

-- the commits that are kept, from the oldest on
pub record Oldest (kept : Kept) : Type 0 where
  pub first : Commit
  pub rest : List Commit
  pub is : commits_of kept ≡ first ∷ rest
  pub number : first.number ≡ first_number kept

pub oldest : (kept : Kept) → Oldest kept
oldest kept = of kept.older refl
  where
    of : (older : List Commit) → kept.older ≡ older → Oldest kept
    of [] is = record { first = kept.last; rest = []; is = ap (λ (l : List Commit). l ++ kept.last ∷ []) is; number = ap (λ (l : List Commit). first_of l kept.last.number) (sym is) }
    of (c ∷ older) is = record { first = c; rest = older ++ kept.last ∷ []; is = ap (λ (l : List Commit). l ++ kept.last ∷ []) is; number = ap (λ (l : List Commit). first_of l kept.last.number) (sym is) }

-- the last one of consecutive numbers
last_number : (first : Commit) (rest : List Commit) (last : Commit) → AreConsecutive (first ∷ rest) → (xs : List Commit) → first ∷ rest ≡ xs ++ last ∷ [] → last.number ≡ first.number + length rest
last_number first [] last r [] is = let e : first ≡ last = cc in omega (arith, ap (λ (d : Commit). d.number) e)
last_number first [] last r (x ∷ xs) is = absurd (let e = ap length is in omega (arith, e, length-append xs (last ∷ [])))
last_number first (y ∷ rest) last r [] is = absurd (let e = ap length is in omega (arith, e))
last_number first (y ∷ rest) last r (x ∷ xs) is =
    let tails : y ∷ rest ≡ xs ++ last ∷ [] = cc in
    omega (arith, r.0, last_number y rest last r.1 xs tails)

module _ (P : Statements → Type 0) (kept : Kept) (grown : IsGrown P kept) where
  o : Oldest kept
  o = oldest kept

  shown : List Commit → List Commit
  shown xs = grown.early ++ xs

  rising_at : AreRising (grown.early ++ (o.first ∷ o.rest))
  rising_at = subst (λ (l : List Commit). AreRising (grown.early ++ l)) o.is grown.rising

  first_at_least : 1 ≤ o.first.number
  first_at_least = (all_among (IsCommit P) (commits_of kept) o.first (all_back (IsCommit P) grown.early (commits_of kept) grown.each) (subst (λ (l : List Commit). IsAmong o.first l) (sym o.is) (inl refl))).number.0

  length_shown : length (commits_of kept) ≡ length kept.older + 1
  length_shown = length-append kept.older (kept.last ∷ [])

  last_is : kept.last.number ≡ o.first.number + length kept.older
  last_is = omega (arith, last_number o.first o.rest kept.last (subst AreConsecutive o.is grown.numbers) kept.older (sym o.is), ap length o.is, length_shown)

  module _ (run : Unconfirmed) (is : IsRunAmong (grown.early ++ commits_of kept) kept run) where
    among_at : IsAmong run.target (grown.early ++ (o.first ∷ o.rest))
    among_at = subst (λ (l : List Commit). IsAmong run.target (grown.early ++ l)) o.is is.among

  -- what a checkpoint lists besides
  record Lists (far : List Commit) : Type 0 where
    each : AllByRecursion (IsCommit P) (far ++ commits_of kept)
    moments : AreInTime (far ++ commits_of kept)
    counted : length (far ++ commits_of kept) ≤ kept.count
    run : IfSome kept.pending (IsRunAmong (far ++ commits_of kept) kept)

  each_kept : AllByRecursion (IsCommit P) (commits_of kept)
  each_kept = all_back (IsCommit P) grown.early (commits_of kept) grown.each

  times_kept : AreInTime (commits_of kept)
  times_kept = in_time (commits_of kept) (rising_back grown.early (commits_of kept) grown.rising)

  counted_kept : length (commits_of kept) ≤ kept.count
  counted_kept = omega (arith, length_shown, last_is, first_at_least, grown.number)

  lists : (pending : Option Unconfirmed) → kept.pending ≡ pending → IfSome pending (IsRunAmong (grown.early ++ commits_of kept) kept) → Lists (far_target (first_number kept) pending)
  lists None is run = record { each = each_kept; moments = times_kept; counted = counted_kept; run = subst (λ p. IfSome p (IsRunAmong (commits_of kept) kept)) (sym is) tt }
  lists (Some run) is it = by (nat_lt run.target.number (first_number kept)) refl
    where
      moved : (far : List Commit) → IsAmong run.target (far ++ commits_of kept) → IfSome kept.pending (IsRunAmong (far ++ commits_of kept) kept)
      moved far among = subst (λ p. IfSome p (IsRunAmong (far ++ commits_of kept) kept)) (sym is) (record { deadline = it.deadline; among = among; before = it.before; waits = it.waits; room = it.room })

      by : (test : Bool) → nat_lt run.target.number (first_number kept) ≡ test → Lists (cond test (run.target ∷ []) [])
      by true told = record {
        each = (all_among (IsCommit P) (grown.early ++ commits_of kept) run.target grown.each it.among, each_kept);
        moments = subst (λ (l : List Commit). AreInTime (run.target ∷ l)) (sym o.is) (earlier_in grown.early o.first o.rest run.target rising_at (among_at run it) low, subst AreInTime o.is times_kept);
        counted = omega (arith, length_shown, last_is, grown.number, low, (all_among (IsCommit P) (grown.early ++ commits_of kept) run.target grown.each it.among).number.0);
        run = moved (run.target ∷ []) (inl refl);
      }
        where
          low : run.target.number < o.first.number
          low = omega (arith, o.number, below run.target.number (first_number kept) told)
      by false told = record {
        each = each_kept;
        moments = times_kept;
        counted = counted_kept;
        run = moved [] (subst (λ (l : List Commit). IsAmong run.target l) (sym o.is) (later_in grown.early o.first o.rest run.target rising_at (among_at run it) high));
      }
        where
          high : o.first.number ≤ run.target.number
          high = omega (arith, o.number, not_below run.target.number (first_number kept) told)

  -- each commit that a checkpoint lists keeps to its own rules
  pub listed_each : AllByRecursion (IsCommit P) (listed kept)
  listed_each = (lists kept.pending refl grown.run).each

  pub is_restorable : kept.scheduled ≡ None → IsRestorable P kept
  is_restorable unscheduled =
      let l = lists kept.pending refl grown.run in
      record {
        each = l.each;
        numbers = grown.numbers;
        few = omega (arith, length_shown, grown.few);
        whole = ⊎_elim (λ full. inl (omega (arith, length_shown, full))) (λ one. inr one) grown.whole;
        moments = l.moments;
        counted = l.counted;
        number = grown.number;
        room = grown.room;
        run = l.run;
        unscheduled = unscheduled;
      }

-- a checkpoint's values
rising_of : (xs : List Commit) → AreConsecutive xs → AreInTime xs → AreRising xs
rising_of [] numbers moments = tt
rising_of (x ∷ []) numbers moments = tt
rising_of (x ∷ (y ∷ xs)) numbers moments = (omega (arith, numbers.0), (moments.0, rising_of (y ∷ xs) numbers.1 moments.1))

in_time_back : (xs ys : List Commit) → AreInTime (xs ++ ys) → AreInTime ys
in_time_back [] ys r = r
in_time_back (x ∷ xs) ys r = in_time_back xs ys (tail (xs ++ ys) r)
  where
    tail : (zs : List Commit) → AreInTime (x ∷ zs) → AreInTime zs
    tail [] r = tt
    tail (z ∷ zs) r = r.1

pub restored_is_grown : (P : Statements → Type 0) (kept : Kept) → IsRestorable P kept → kept.last.moment ≤ kept.moment → IsGrown P kept
restored_is_grown P kept rules later = record {
  early = far_target (first_number kept) kept.pending;
  each = rules.each;
  rising = rising kept.pending refl;
  numbers = rules.numbers;
  few = omega (arith, size, rules.few);
  whole = ⊎_elim (λ full. inl (omega (arith, size, full))) (λ one. inr one) rules.whole;
  number = rules.number;
  room = rules.room;
  no_later = later;
  run = rules.run;
  waits = subst (λ o. IfSome o (IsWaiting P kept)) (sym rules.unscheduled) tt;
}
  where
    size : length (commits_of kept) ≡ length kept.older + 1
    size = length-append kept.older (kept.last ∷ [])

    first : Oldest kept
    first = oldest kept

    kept_rising : AreRising (commits_of kept)
    kept_rising = rising_of (commits_of kept) rules.numbers (in_time_back (far_target (first_number kept) kept.pending) (commits_of kept) rules.moments)

    rising : (pending : Option Unconfirmed) → kept.pending ≡ pending → AreRising (far_target (first_number kept) kept.pending ++ commits_of kept)
    rising None is = subst (λ p. AreRising (far_target (first_number kept) p ++ commits_of kept)) (sym is) kept_rising
    rising (Some run) is = subst (λ p. AreRising (far_target (first_number kept) p ++ commits_of kept)) (sym is) (by (nat_lt run.target.number (first_number kept)) refl)
      where
        by : (test : Bool) → nat_lt run.target.number (first_number kept) ≡ test → AreRising (cond test (run.target ∷ []) [] ++ commits_of kept)
        by true told =
            let moments : AreInTime ((run.target ∷ []) ++ commits_of kept) =
            subst (λ t. AreInTime (cond t (run.target ∷ []) [] ++ commits_of kept)) told (subst (λ p. AreInTime (far_target (first_number kept) p ++ commits_of kept)) is rules.moments) in
            let low : run.target.number < first.first.number = omega (arith, first.number, below run.target.number (first_number kept) told) in
            let at : AreInTime (run.target ∷ (first.first ∷ first.rest)) = subst (λ (l : List Commit). AreInTime (run.target ∷ l)) first.is moments in
            subst (λ (l : List Commit). AreRising (run.target ∷ l)) (sym first.is) (low, (at.0, subst AreRising first.is kept_rising))
        by false told = kept_rising

pub opened_is_grown : (P : Statements → Type 0) (commit : Commit) → IsCommit P commit → commit.number ≡ 1 → IsGrown P (opened commit)
opened_is_grown P commit is number = record {
  early = [];
  each = (is, tt);
  rising = tt;
  numbers = tt;
  few = omega arith;
  whole = inr number;
  number = omega (arith, number);
  room = omega arith;
  no_later = omega arith;
  run = tt;
  waits = tt;
}

-- one more commit
module _ (P : Statements → Type 0) (kept : Kept) (grown : IsGrown P kept) (commit : Commit) where
  abbrev gone : ℕ
  gone = length (commits_of kept) - 49

  all_then : (grown.early ++ take gone (commits_of kept)) ++ (drop gone (commits_of kept) ++ commit ∷ []) ≡ (grown.early ++ commits_of kept) ++ commit ∷ []
  all_then =
      append_assoc grown.early (take gone (commits_of kept)) (drop gone (commits_of kept) ++ commit ∷ [])
      ∙ ap (λ (l : List Commit). grown.early ++ l) (sym (append_assoc (take gone (commits_of kept)) (drop gone (commits_of kept)) (commit ∷ [])) ∙ ap (λ (l : List Commit). l ++ commit ∷ []) (take-append-drop gone (commits_of kept)))
      ∙ sym (append_assoc grown.early (commits_of kept) (commit ∷ []))

  last_first : (grown.early ++ commits_of kept) ++ commit ∷ [] ≡ ((grown.early ++ kept.older) ++ kept.last ∷ []) ++ commit ∷ []
  last_first = ap (λ (l : List Commit). l ++ commit ∷ []) (sym (append_assoc grown.early kept.older (kept.last ∷ [])))

  last_among : IsAmong kept.last (grown.early ++ commits_of kept)
  last_among = among_back kept.last grown.early (commits_of kept) (among_back kept.last kept.older (kept.last ∷ []) (inl refl))

  target_is : (pending : Option Unconfirmed) → IfSome pending (IsRunAmong (grown.early ++ commits_of kept) kept)
      → IsAmong (target_in pending kept.last) (grown.early ++ commits_of kept) × ((target_in pending kept.last).number ≤ kept.last.number)
  target_is None run = (last_among, omega arith)
  target_is (Some run) is = (is.among, omega (arith, is.before))

  pub commit_grows : IsCommit P commit → Follows kept (CommitOf commit) → IsGrown P (append_commit kept commit)
  commit_grows is follows = record {
    early = grown.early ++ take gone (commits_of kept);
    each = subst (AllByRecursion (IsCommit P)) (sym all_then) (all_push (IsCommit P) (grown.early ++ commits_of kept) commit grown.each is);
    rising = subst AreRising (sym (all_then ∙ last_first))
        (rising_push (grown.early ++ kept.older) kept.last commit (subst AreRising (sym (append_assoc grown.early kept.older (kept.last ∷ []))) grown.rising) (omega (arith, follows.number)) (omega (arith, grown.no_later, follows.moment)));
    numbers = close;
    few = omega (arith, length-drop gone (commits_of kept));
    whole = full_or_not;
    number = omega (arith, follows.number, grown.number);
    room = omega (arith, follows.room.0);
    no_later = omega arith;
    run = run (commit.minutes == 0) refl;
    waits = tt;
  }
    where
      size : length (commits_of kept) ≡ length kept.older + 1
      size = length-append kept.older (kept.last ∷ [])

      le_or_eq : (length kept.older ≤ 48) ⊎ (length kept.older ≡ 49)
      le_or_eq = let f = grown.few in grind arith

      full_or_not : (length (drop gone (commits_of kept)) ≡ 49) ⊎ (first_of (drop gone (commits_of kept)) commit.number ≡ 1)
      full_or_not = ⊎_elim not_yet (λ full. inl (omega (arith, length-drop gone (commits_of kept), size, full))) le_or_eq
        where
          not_yet : length kept.older ≤ 48 → (length (drop gone (commits_of kept)) ≡ 49) ⊎ (first_of (drop gone (commits_of kept)) commit.number ≡ 1)
          not_yet few =
              let none : gone ≡ 0 = omega (arith, size, few) in
              ⊎_elim (λ full. absurd (omega (arith, full, few)))
              (λ one. inr (ap (λ (n : ℕ). first_of (drop n (commits_of kept)) commit.number) none ∙ ap (λ (l : List Commit). first_of l commit.number) (oldest kept).is ∙ (oldest kept).number ∙ one)) grown.whole

      close : AreConsecutive (drop gone (commits_of kept) ++ commit ∷ [])
      close =
          let short : gone ≤ length kept.older = omega (arith, size, grown.few) in
          let cut : drop gone (commits_of kept) ≡ drop gone kept.older ++ kept.last ∷ [] = drop-append-le gone kept.older (kept.last ∷ []) short in
          subst (λ (l : List Commit). AreConsecutive (l ++ commit ∷ [])) (sym cut)
          (consecutive_push (drop gone kept.older) kept.last commit (subst AreConsecutive cut (consecutive_drop gone (commits_of kept) grown.numbers)) follows.number)

      equal : (n : ℕ) → n ≡ 0 → (n == 0) ≡ true
      equal n is_zero = grind (arith, nat_tests)

      target : IsAmong (target_of kept) (grown.early ++ commits_of kept) × ((target_of kept).number ≤ kept.last.number)
      target = target_is kept.pending grown.run

      run : (plain : Bool) → (commit.minutes == 0) ≡ plain
          → IfSome (cond plain None (Some (record { deadline = after_minutes commit.moment commit.minutes; target = target_of kept }))) (IsRunAmong ((grown.early ++ take gone (commits_of kept)) ++ (drop gone (commits_of kept) ++ commit ∷ [])) (append_commit kept commit))
      run true told = tt
      run false told = record {
        deadline = refl;
        among = subst (IsAmong (target_of kept)) (sym all_then) (among_front (target_of kept) (grown.early ++ commits_of kept) (commit ∷ []) target.0);
        before = omega (arith, follows.number, target.1);
        waits = waits;
        room = omega (arith, follows.room.1 waits);
      }
        where
          waits : commit.minutes ≢ 0
          waits none = absurd (true≢false (sym (equal commit.minutes none) ∙ told))

some_or_none : {A : Type 0} (o : Option A) → o ≡ None → IsSome o → ⊥
some_or_none {A} o none some = let e : false ≡ true = ap (λ (p : Option A). is_some p) (sym none) ∙ some in cc

-- where no run waits, nothing is asked of it
no_run_is : (Q : Unconfirmed → Type 0) (kept : Kept) → kept.pending ≡ None → IfSome kept.pending Q
no_run_is Q kept none = subst (λ p. IfSome p Q) (sym none) tt

-- other entries
module _ (P : Statements → Type 0) (kept : Kept) (grown : IsGrown P kept) where
  confirm_grows : (confirm : Confirm) → Follows kept (ConfirmOf confirm) → IsGrown P (append_confirm kept confirm)
  confirm_grows confirm follows = record {
    early = grown.early;
    each = grown.each;
    rising = grown.rising;
    numbers = grown.numbers;
    few = grown.few;
    whole = grown.whole;
    number = omega (arith, grown.number);
    room = omega (arith, room kept.pending follows.waits grown.run);
    no_later = omega (arith, grown.no_later, follows.moment);
    run = tt;
    waits = waits kept.scheduled grown.waits;
  }
    where
      room : (pending : Option Unconfirmed) → IsSome pending → IfSome pending (IsRunAmong (grown.early ++ commits_of kept) kept) → kept.count ≤ MAX_ENTRIES
      room None some run = absurd (cc)
      room (Some r) some run = run.room

      waits : (scheduled : Option Scheduled) → IfSome scheduled (IsWaiting P kept) → IfSome scheduled (IsWaiting P (append_confirm kept confirm))
      waits None is = tt
      waits (Some w) is = absurd (some_or_none kept.pending is.no_run follows.waits)

  scheduled_grows : (waiting : Scheduled) → IsScheduled P waiting → Follows kept (ScheduledOf waiting) → IsGrown P (append_scheduled kept waiting)
  scheduled_grows waiting own follows = record {
    early = grown.early;
    each = grown.each;
    rising = grown.rising;
    numbers = grown.numbers;
    few = grown.few;
    whole = grown.whole;
    number = omega (arith, grown.number);
    room = omega (arith, follows.room);
    no_later = omega (arith, grown.no_later, follows.moment);
    run = no_run_is _ kept follows.no_run;
    waits = record {
      is_scheduled = own;
      number = follows.number;
      last = refl;
      later = follows.later;
      within = follows.within;
      no_run = follows.no_run;
      room = omega (arith, follows.room);
      counted = omega (arith, grown.number);
    };
  }

  cleared_grows : (cleared : Cleared) → Follows kept (ClearedOf cleared) → IsGrown P (append_cleared kept cleared)
  cleared_grows cleared follows = by kept.scheduled follows.waits grown.waits
    where
      by : (scheduled : Option Scheduled) → IsSome scheduled → IfSome scheduled (IsWaiting P kept) → IsGrown P (append_cleared kept cleared)
      by None some is = absurd (cc)
      by (Some w) some is = record {
        early = grown.early;
        each = grown.each;
        rising = grown.rising;
        numbers = grown.numbers;
        few = grown.few;
        whole = grown.whole;
        number = omega (arith, grown.number);
        room = omega (arith, is.room);
        no_later = omega (arith, grown.no_later, follows.moment);
        run = no_run_is _ kept is.no_run;
        waits = tt;
      }

pub entry_grows : (P : Statements → Type 0) (kept : Kept) (entry : Entry) → IsGrown P kept → IsEntry P entry → Follows kept entry → IsGrown P (append_entry kept entry)
entry_grows P kept (CommitOf commit) grown is follows = commit_grows P kept grown commit is follows
entry_grows P kept (ConfirmOf confirm) grown is follows = confirm_grows P kept grown confirm follows
entry_grows P kept (ScheduledOf waiting) grown is follows = scheduled_grows P kept grown waiting is follows
entry_grows P kept (ClearedOf cleared) grown is follows = cleared_grows P kept grown cleared follows

-- a value that agrees
pub agreeing_is_grown : (P : Statements → Type 0) (one other : Kept) → Agrees one other → IsGrown P one → IsGrown P other
agreeing_is_grown P one other agrees grown = subst (IsGrown P) (sym agrees.is) (record {
  early = grown.early;
  each = grown.each;
  rising = grown.rising;
  numbers = grown.numbers;
  few = grown.few;
  whole = grown.whole;
  number = grown.number;
  room = grown.room;
  no_later = omega (arith, grown.no_later, agrees.no_later);
  run = run one.pending grown.run;
  waits = waits one.scheduled agrees.exact grown.waits;
})
  where
    run : (pending : Option Unconfirmed) → IfSome pending (IsRunAmong (grown.early ++ commits_of one) one) → IfSome pending (IsRunAmong (grown.early ++ commits_of one) (record one { moment = other.moment }))
    run None is = tt
    run (Some r) is = record { deadline = is.deadline; among = is.among; before = is.before; waits = is.waits; room = is.room }

    waits : (scheduled : Option Scheduled) → (IsSome scheduled → one.moment ≡ other.moment) → IfSome scheduled (IsWaiting P one) → IfSome scheduled (IsWaiting P (record one { moment = other.moment }))
    waits None exact is = tt
    waits (Some w) exact is = record {
      is_scheduled = is.is_scheduled;
      number = is.number;
      last = omega (arith, exact refl, is.last);
      later = is.later;
      within = is.within;
      no_run = is.no_run;
      room = is.room;
      counted = is.counted;
    }

-- the checkpoint of a list that grew, where no commit is scheduled, is read as what the list keeps, but for the last moment
plain_is_read : (P : Statements → Type 0) (kept : Kept) → IsGrown P kept → kept.scheduled ≡ None → Restores P (plain_checkpoint kept) (record kept { moment = kept.last.moment })
plain_is_read P kept grown unscheduled =
    let rules = is_restorable P kept grown unscheduled in
    record {
      commits = map commit_record (listed kept);
      is = refl;
      are = all_written false (listed kept);
      rules = record { each = rules.each; numbers = rules.numbers; few = rules.few; whole = rules.whole; moments = rules.moments; counted = rules.counted; number = rules.number; room = rules.room; run = run kept.pending rules.run; unscheduled = unscheduled };
      moment = refl;
    }
  where
    run : (pending : Option Unconfirmed) → IfSome pending (IsRunAmong (listed kept) kept) → IfSome pending (IsRunAmong (listed kept) (record kept { moment = kept.last.moment }))
    run None is = tt
    run (Some r) is = record { deadline = is.deadline; among = is.among; before = is.before; waits = is.waits; room = is.room }

-- a list with a scheduled commit
module _ (P : Statements → Type 0) (kept : Kept) (grown : IsGrown P kept) (waiting : Scheduled) (is : IsWaiting P kept waiting) where
  -- without that entry
  bare_is_grown : IsGrown P (without (Some waiting) kept)
  bare_is_grown = record {
    early = grown.early;
    each = grown.each;
    rising = grown.rising;
    numbers = grown.numbers;
    few = grown.few;
    whole = grown.whole;
    number = omega (arith, is.counted);
    room = omega (arith, grown.room);
    no_later = grown.no_later;
    run = no_run_is _ kept is.no_run;
    waits = tt;
  }

  -- that entry comes next, and leaves the list
  comes_next : kept.scheduled ≡ Some waiting → GoesOn P (new_after false (plain_checkpoint (without (Some waiting) kept))) (record kept { count = kept.count - 1; scheduled = None; moment = kept.last.moment }) (entry_record (ScheduledOf waiting)) (record kept { moment = waiting.moment })
  comes_next same = record {
    entry = ScheduledOf waiting;
    is_record = record { is = refl; is_entry = is.is_scheduled };
    follows = record {
      number = is.number;
      moment = omega (arith, grown.no_later, is.last);
      later = is.later;
      within = is.within;
      no_run = is.no_run;
      alone = refl;
      room = omega (arith, is.room, is.counted);
    };
    is =
        let count : kept.count ≡ kept.count - 1 + 1 = omega (arith, is.counted) in
        let path : record kept { moment = waiting.moment } ≡ append_scheduled (record kept { count = kept.count - 1; scheduled = None; moment = kept.last.moment }) waiting =
        ap (λ (n : ℕ). record kept { count = n; moment = waiting.moment }) count
        ∙ ap (λ (o : Option Scheduled). record kept { count = kept.count - 1 + 1; scheduled = o; moment = waiting.moment }) same in
        path;
  }

-- the checkpoint of a list that grew is read as what the list keeps, but for the last moment where no commit is scheduled
pub checkpoint_is_read : (P : Statements → Type 0) (kept : Kept) → IsGrown P kept → ReadsAs P (checkpoint kept) (as_read kept)
checkpoint_is_read P kept grown = by kept.scheduled refl grown.waits
  where
    by : (scheduled : Option Scheduled) → kept.scheduled ≡ scheduled → IfSome scheduled (IsWaiting P kept)
        → ReadsAs P (plain_checkpoint (without scheduled kept) ++ waiting_records scheduled) (record kept { moment = told_by scheduled kept.last.moment })
    by None same is = record {
      front = plain_checkpoint kept;
      rest = [];
      cut = refl;
      first = record kept { moment = kept.last.moment };
      begins = inr (plain_is_read P kept grown same);
      reads = refl;
    }
    by (Some w) same is = record {
      front = plain_checkpoint (without (Some w) kept);
      rest = entry_record (ScheduledOf w) ∷ [];
      cut = refl;
      first = record kept { count = kept.count - 1; scheduled = None; moment = kept.last.moment };
      begins = inr (plain_is_read P (without (Some w) kept) (bare_is_grown P kept grown w is) refl);
      reads = (record kept { moment = w.moment }, comes_next P kept grown w is same, refl);
    }

pub reads_agree : (P : Statements → Type 0) (kept : Kept) → IsGrown P kept → Agrees (as_read kept) kept
reads_agree P kept grown = record { is = refl; no_later = no_later kept.scheduled grown.waits; exact = exact kept.scheduled grown.waits }
  where
    no_later : (scheduled : Option Scheduled) → IfSome scheduled (IsWaiting P kept) → told_by scheduled kept.last.moment ≤ kept.moment
    no_later None is = grown.no_later
    no_later (Some w) is = omega (arith, is.last)

    exact : (scheduled : Option Scheduled) → IfSome scheduled (IsWaiting P kept) → IsSome scheduled → told_by scheduled kept.last.moment ≡ kept.moment
    exact None is some = absurd (cc)
    exact (Some w) is some = sym is.last

-- of a number there is one commit
one_number : (xs : List Commit) → AreRising xs → (c d : Commit) → IsAmong c xs → IsAmong d xs → c.number ≡ d.number → c ≡ d
one_number [] r c d a b is = absurd a
one_number (x ∷ xs) r c d (inl a) (inl b) is = a ∙ sym b
one_number (x ∷ xs) r c d (inl a) (inr b) is = absurd (omega (arith, is, ap (λ (e : Commit). e.number) a, behind_in x xs d r b))
one_number (x ∷ xs) r c d (inr a) (inl b) is = absurd (omega (arith, is, ap (λ (e : Commit). e.number) b, behind_in x xs c r a))
one_number (x ∷ xs) r c d (inr a) (inr b) is = one_number xs (rising_tail x xs r) c d a b is

pub one_by_number : (P : Statements → Type 0) (kept : Kept) → IsRestorable P kept → kept.last.moment ≤ kept.moment → (c d : Commit) → IsAmong c (listed kept) → IsAmong d (listed kept) → c.number ≡ d.number → c ≡ d
unfolding restored_is_grown
one_by_number P kept rules later c d a b is = one_number (listed kept) (restored_is_grown P kept rules later).rising c d a b is

pub most_entries : MAX_ENTRIES ≡ 4611686018427387904
most_entries = refl
