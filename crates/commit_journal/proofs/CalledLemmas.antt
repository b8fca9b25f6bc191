-- Calls that the disks of a journal made, and the numbers that are reported of them.
use Rattle.std.proofs.Common.{◌≡◌, ◌+◌, ℕ, Bool, true, false, List, [], ◌++◌, length, refl, sym, ap, subst, ◌∙◌, append_assoc, arith, length-append}
use Rattle.std.proofs.lemmas.List.{append-nil}
use Rattle.disk_model.specs.Disk.{Call, DiskView, History}
use Rattle.commit_journal.specs.Journal.{CountsCalls, JournalView, LeavesBoth, Tell, a_of, b_of, calls_a, calls_b, disk_a, disk_b}
use Rattle.commit_journal.specs.Pair.{first_of, second_of}
use Rattle.commit_journal.specs.Steps.{Counts}
use Rattle.commit_journal.specs.Held.{BothCalled, CallsOn, CountsAgree, CountsOn}
use Rattle.commit_journal.proofs.HeldLemmas.{tell_each}

-- the history of the disk of A, and that of B
pub history_first : (b : Bool) (x y : DiskView) → (first_of b x y).history ≡ first_of b x.history y.history
history_first true x y = refl
history_first false x y = refl

pub history_second : (b : Bool) (x y : DiskView) → (second_of b x y).history ≡ second_of b x.history y.history
history_second true x y = refl
history_second false x y = refl

-- no call
none_on : (h : History) (m : ℕ) → CallsOn h h m m
none_on h m = ([], record { first = refl; calls = sym (append-nil h.calls) }, λ few within. omega arith)

-- calls, and then more
then_on : (h k l : History) (m n o : ℕ) → CallsOn h k m n → CallsOn k l n o → CallsOn h l m o
then_on h k l m n o (one, first, told) (two, next, more) = (
  one ++ two,
  record { first = next.first ∙ first.first; calls = next.calls ∙ ap (λ c. c ++ two) first.calls ∙ append_assoc h.calls one two },
  λ few within.
      let size : length k.calls ≡ length h.calls + length one = ap length first.calls ∙ length-append h.calls one in
      let size' : length l.calls ≡ length k.calls + length two = ap length next.calls ∙ length-append k.calls two in
      let here : n ≡ m + length one = told (omega (arith, few, size')) within in
      let there : o ≡ n + length two = more few (omega (arith, here, within, size)) in
      omega (arith, here, there, length-append one two),
)

-- calls of which the number is reported
told_on : (h h' : History) (m m' : ℕ) (more : List Call) → h'.first ≡ h.first → h'.calls ≡ h.calls ++ more → CountsAgree h h' m m'
    → CallsOn h h' m m'
told_on h h' m m' more first calls told =
    let size : length h'.calls ≡ length h.calls + length more = ap length calls ∙ length-append h.calls more in
    (more, record { first = first; calls = calls }, λ few within. let is = told few within (omega (arith, size)) in omega (arith, is, size))

pub called_none : (j : JournalView) → BothCalled j j
called_none j = record { a = none_on (disk_a j).history (calls_a j); b = none_on (disk_b j).history (calls_b j) }

pub called_then : (i j k : JournalView) → BothCalled i j → BothCalled j k → BothCalled i k
called_then i j k first next = record {
  a = then_on (disk_a i).history (disk_a j).history (disk_a k).history (calls_a i) (calls_a j) (calls_a k) first.a next.a;
  b = then_on (disk_b i).history (disk_b j).history (disk_b k).history (calls_b i) (calls_b j) (calls_b k) first.b next.b;
}

-- calls that left images behind, where their numbers agree
pub called_left : (i j : JournalView) (P : List ℕ → List ℕ → Type 0) → Tell i → CountsOn i j → LeavesBoth i j P → BothCalled i j
called_left i j P tell counts left =
    record {
      a = subst (λ h. CallsOn h (disk_a j).history (calls_a i) (calls_a j)) (sym (history_first i.b_counts i.counting i.other))
          (subst (λ h. CallsOn (a_of i) h (calls_a i) (calls_a j)) (sym (history_first j.b_counts j.counting j.other))
          (told_on (a_of i) (a_of j) (calls_a i) (calls_a j) left.a_calls left.a_first left.a_made (counts.told_a tell)));
      b = subst (λ h. CallsOn h (disk_b j).history (calls_b i) (calls_b j)) (sym (history_second i.b_counts i.counting i.other))
          (subst (λ h. CallsOn (b_of i) h (calls_b i) (calls_b j)) (sym (history_second j.b_counts j.counting j.other))
          (told_on (b_of i) (b_of j) (calls_b i) (calls_b j) left.b_calls left.b_first left.b_made (counts.told_b tell)));
    }

-- numbers that went on with the calls
agree_of : (h h' : History) (m m' : ℕ) → CallsOn h h' m m' → CountsAgree h h' m m'
agree_of h h' m m' (more, goes, told) few within longer =
    let size : length h'.calls ≡ length h.calls + length more = ap length goes.calls ∙ length-append h.calls more in
    omega (arith, told few within, size)

pub agrees_a : (j j' : JournalView) → BothCalled j j' → CountsAgree (a_of j) (a_of j') (calls_a j) (calls_a j')
agrees_a j j' called =
    agree_of (a_of j) (a_of j') (calls_a j) (calls_a j')
    (subst (λ h. CallsOn h (a_of j') (calls_a j) (calls_a j')) (history_first j.b_counts j.counting j.other)
    (subst (λ h. CallsOn (disk_a j).history h (calls_a j) (calls_a j')) (history_first j'.b_counts j'.counting j'.other) called.a))

pub agrees_b : (j j' : JournalView) → BothCalled j j' → CountsAgree (b_of j) (b_of j') (calls_b j) (calls_b j')
agrees_b j j' called =
    agree_of (b_of j) (b_of j') (calls_b j) (calls_b j')
    (subst (λ h. CallsOn h (b_of j') (calls_b j) (calls_b j')) (history_second j.b_counts j.counting j.other)
    (subst (λ h. CallsOn (disk_b j).history h (calls_b j) (calls_b j')) (history_second j'.b_counts j'.counting j'.other) called.b))

-- the counts of one call of the journal
pub told_counts : (h h' : History) (m m' : ℕ) → CountsCalls h h' m m' → CountsAgree h h' m m'
told_counts h h' m m' is few within longer = omega (arith, is few, few, within, longer)

pub counts_on : (j j' : JournalView) → Counts j j' → CountsOn j j'
counts_on j j' counts = record {
  told_a = λ t. told_counts (a_of j) (a_of j') (calls_a j) (calls_a j') (counts.goes_a (tell_each j t).0);
  told_b = λ t. told_counts (b_of j) (b_of j') (calls_b j) (calls_b j') (counts.goes_b (tell_each j t).1);
}
