-- A checkpoint is read as one value.
use Rattle.std.proofs.Common.{◌≡◌, ◌≤◌, ◌<◌, ⊎_elim, ℕ, ◌^◌, Bool, true, false, cond, nat_lt, List, [], ◌∷◌, ◌++◌, length, Option, Some, None, refl, sym, ◌∙◌, ap, subst, arith, length-append}
use Rattle.std.specs.Prelude.{IfSome}
use Rattle.std.specs.List.{AllByRecursion}
use Rattle.std.specs.Int.{w32, w64, to_be_bytes, from_be_bytes}
use Rattle.std.proofs.lemmas.Nat.{from_be_bytes-to_be_bytes_4, from_be_bytes-to_be_bytes_8}
use Rattle.cfg_tree.specs.Statements.{Statements}
use Rattle.confirm_timer.specs.Deadline.{after_minutes}
use Rattle.record_code.specs.Record.{Record}
use Rattle.commit_ledger.specs.declared.entry.Commit.{Commit}
use Rattle.commit_ledger.specs.declared.entry.Scheduled.{Scheduled}
use Rattle.commit_ledger.specs.declared.entry.Entry.TheVariants.{Commit as CommitOf}
use Rattle.commit_ledger.specs.Kept.{Kept, Unconfirmed, commits_of}
use Rattle.commit_ledger.specs.Rules.{IsCommit, new_after}
use Rattle.commit_ledger.specs.Checkpoint.{KeepForm, keep_bytes, keep_record, keep_form, first_number, far_target, listed, target_number, AreWritten, IsAmong, IsRunAmong, IsRestorable, Restores}
use Rattle.commit_ledger.proofs.FieldLemmas.{same_cut}
use Rattle.commit_ledger.proofs.RecordLemmas.{one_entry}
use Rattle.commit_ledger.proofs.GrownLemmas.{all_among, below as is_below, most_entries, one_by_number}

number_64 : (m n : ℕ) → m < 2 ^ 64 → n < 2 ^ 64 → to_be_bytes w64 m ≡ to_be_bytes w64 n → m ≡ n
number_64 m n lm ln is = sym (from_be_bytes-to_be_bytes_8 m lm) ∙ ap (from_be_bytes w64) is ∙ from_be_bytes-to_be_bytes_8 n ln

-- a Keep of one form
pub record OneKeep (f g : KeepForm) : Type 0 where
  pub count : f.count ≡ g.count
  pub target : f.target ≡ g.target

pub one_keep : (f g : KeepForm) → f.count < 2 ^ 64 → g.count < 2 ^ 64 → f.target < 2 ^ 64 → g.target < 2 ^ 64 → keep_bytes f ≡ keep_bytes g → OneKeep f g
one_keep f g fc gc ft gt is =
    let first = same_cut (to_be_bytes w64 f.count) (to_be_bytes w64 g.count) _ _ refl is in
    let second = same_cut (to_be_bytes w64 f.target) (to_be_bytes w64 g.target) _ _ refl first.1 in
    record { count = number_64 f.count g.count fc gc first.0; target = number_64 f.target g.target ft gt second.0 }

entry_commit : (c d : Commit) → CommitOf c ≡ CommitOf d → c ≡ d
entry_commit c d is = cc

-- records of commits are of one list of commits
pub one_list : (P : Statements → Type 0) (new : Bool) (rs : List Record) (xs ys : List Commit) → AllByRecursion (IsCommit P) xs → AllByRecursion (IsCommit P) ys → AreWritten new rs xs → AreWritten new rs ys
    → xs ≡ ys
one_list P new [] [] [] each other are are' = refl
one_list P new [] [] (y ∷ ys) each other are are' = absurd are'
one_list P new [] (x ∷ xs) ys each other are are' = absurd are
one_list P new (r ∷ rs) [] ys each other are are' = absurd are
one_list P new (r ∷ rs) (x ∷ xs) [] each other are are' = absurd are'
one_list P new (r ∷ rs) (x ∷ xs) (y ∷ ys) each other are are' =
    let same : x ≡ y = entry_commit x y (one_entry P new r (CommitOf x) (CommitOf y) (record { is = are.0; is_entry = each.0 }) (record { is = are'.0; is_entry = other.0 })) in
    ap (λ (l : List Commit). x ∷ l) (one_list P (new_after new (r ∷ [])) rs xs ys each.1 other.1 are.1 are'.1) ∙ ap (λ (c : Commit). c ∷ ys) same

-- there are as many records as commits
pub as_many : (new : Bool) (rs : List Record) (cs : List Commit) → AreWritten new rs cs → length rs ≡ length cs
as_many new [] [] are = refl
as_many new [] (c ∷ cs) are = absurd are
as_many new (r ∷ rs) [] are = absurd are
as_many new (r ∷ rs) (c ∷ cs) are = let e = as_many (new_after new (r ∷ [])) rs cs are.1 in omega (arith, e)

-- a row with one commit before the others or none
same_ends : (fs gs xs ys : List Commit) → length fs ≤ 1 → length gs ≤ 1 → (length fs ≡ 1 → length xs ≡ 50) → (length gs ≡ 1 → length ys ≡ 50) → length xs ≤ 50 → length ys ≤ 50
    → fs ++ xs ≡ gs ++ ys → xs ≡ ys
same_ends [] [] xs ys a b p q few other is = is
same_ends (f ∷ []) (g ∷ []) xs ys a b p q few other is = cc
same_ends [] (g ∷ []) xs ys a b p q few other is = absurd (let e = ap length is in omega (arith, e, q refl, few))
same_ends (f ∷ []) [] xs ys a b p q few other is = absurd (let e = ap length is in omega (arith, e, p refl, other))
same_ends (f ∷ (g ∷ fs)) gs xs ys a b p q few other is = absurd (omega (arith, a))
same_ends [] (g ∷ (h ∷ gs)) xs ys a b p q few other is = absurd (omega (arith, b))
same_ends (f ∷ []) (g ∷ (h ∷ gs)) xs ys a b p q few other is = absurd (omega (arith, b))

pub one_end : (xs ys : List Commit) (x y : Commit) → xs ++ x ∷ [] ≡ ys ++ y ∷ [] → (xs ≡ ys) × (x ≡ y)
one_end [] [] x y is = (refl, cc)
one_end [] (z ∷ ys) x y is = absurd (let e = ap length is in omega (arith, e, length-append ys (y ∷ [])))
one_end (z ∷ xs) [] x y is = absurd (let e = ap length is in omega (arith, e, length-append xs (x ∷ [])))
one_end (z ∷ xs) (w ∷ ys) x y is =
    let head : z ≡ w = cc in
    let tail : xs ++ x ∷ [] ≡ ys ++ y ∷ [] = cc in
    let rest = one_end xs ys x y tail in
    (ap (λ (l : List Commit). z ∷ l) rest.0 ∙ ap (λ (c : Commit). c ∷ ys) head, rest.1)

module _ (P : Statements → Type 0) (kept : Kept) (rules : IsRestorable P kept) where
  pub few_far : (pending : Option Unconfirmed) → length (far_target (first_number kept) pending) ≤ 1
  few_far None = omega arith
  few_far (Some run) = by (nat_lt run.target.number (first_number kept))
    where
      by : (test : Bool) → length (cond test (run.target ∷ []) []) ≤ 1
      by true = omega arith
      by false = omega arith

  far_low : (pending : Option Unconfirmed) → IfSome pending (IsRunAmong (listed kept) kept) → AllByRecursion (IsCommit P) (far_target (first_number kept) pending) → length (far_target (first_number kept) pending) ≡ 1 → 2 ≤ first_number kept
  far_low None run each some = absurd (omega (arith, some))
  far_low (Some run) it each some = by (nat_lt run.target.number (first_number kept)) refl each some
    where
      below : nat_lt run.target.number (first_number kept) ≡ true → run.target.number < first_number kept
      below told = is_below run.target.number (first_number kept) told

      by : (test : Bool) → nat_lt run.target.number (first_number kept) ≡ test → AllByRecursion (IsCommit P) (cond test (run.target ∷ []) []) → length (cond test (run.target ∷ []) []) ≡ 1 → 2 ≤ first_number kept
      by true told is one = omega (arith, below told, is.0.number.0)
      by false told is one = absurd (omega (arith, one))

  pub all_front : (xs ys : List Commit) → AllByRecursion (IsCommit P) (xs ++ ys) → AllByRecursion (IsCommit P) xs
  all_front [] ys each = tt
  all_front (x ∷ xs) ys each = (each.0, all_front xs ys each.1)

  pub full_far : length (far_target (first_number kept) kept.pending) ≡ 1 → length (commits_of kept) ≡ 50
  full_far some =
      let low = far_low kept.pending rules.run (all_front (far_target (first_number kept) kept.pending) (commits_of kept) rules.each) some in
      ⊎_elim (λ full. full) (λ one. absurd (omega (arith, low, one))) rules.whole

  pub target_small : (pending : Option Unconfirmed) → IfSome pending (IsRunAmong (listed kept) kept) → target_number pending < 2 ^ 64
  target_small None run = omega arith
  target_small (Some run) it = omega (arith, it.before, rules.number, rules.room, most_entries)

module _ (P : Statements → Type 0) (rs : List Record) (one other : Kept) (first : Restores P rs one) (second : Restores P rs other) where
  same : keep_record (keep_form one) ∷ first.commits ≡ keep_record (keep_form other) ∷ second.commits
  same = sym first.is ∙ second.is

  keeps : OneKeep (keep_form one) (keep_form other)
  keeps =
      let head : keep_record (keep_form one) ≡ keep_record (keep_form other) = cc in
      one_keep (keep_form one) (keep_form other) (omega (arith, first.rules.room, most_entries)) (omega (arith, second.rules.room, most_entries))
      (target_small P one first.rules one.pending first.rules.run) (target_small P other second.rules other.pending second.rules.run) (ap (λ (r : Record). r.payload) head)

  lists : listed one ≡ listed other
  lists =
      let tail : first.commits ≡ second.commits = cc in
      one_list P false first.commits (listed one) (listed other) first.rules.each second.rules.each first.are
      (subst (λ (l : List Record). AreWritten false l (listed other)) (sym tail) second.are)

  commits : commits_of one ≡ commits_of other
  commits = same_ends (far_target (first_number one) one.pending) (far_target (first_number other) other.pending) (commits_of one) (commits_of other)
      (few_far P one first.rules one.pending) (few_far P other second.rules other.pending) (full_far P one first.rules) (full_far P other second.rules) first.rules.few second.rules.few lists

  last : one.last ≡ other.last
  last = (one_end one.older other.older one.last other.last commits).1

  same_run : (r s : Unconfirmed) → IsRunAmong (listed one) one r → IsRunAmong (listed other) other s → r.target.number ≡ s.target.number → r ≡ s
  same_run r s a b number =
      let deadline : r.deadline ≡ s.deadline = a.deadline ∙ ap (λ (c : Commit). after_minutes c.moment c.minutes) last ∙ sym b.deadline in
      let target : r.target ≡ s.target = one_by_number P one first.rules (omega (arith, first.moment)) r.target s.target a.among (subst (IsAmong s.target) (sym lists) b.among) number in
      let path : r ≡ s = ap (λ (n : ℕ). record { deadline = n; target = r.target }) deadline ∙ ap (λ (c : Commit). record { deadline = s.deadline; target = c }) target in path

  pendings : (p q : Option Unconfirmed) → IfSome p (IsRunAmong (listed one) one) → IfSome q (IsRunAmong (listed other) other) → target_number p ≡ target_number q → p ≡ q
  pendings None None a b is = refl
  pendings (Some r) (Some s) a b is = ap Some (same_run r s a b is)
  pendings None (Some s) a b is = absurd (omega (arith, is, (all_among (IsCommit P) (listed other) s.target second.rules.each b.among).number.0))
  pendings (Some r) None a b is = absurd (omega (arith, is, (all_among (IsCommit P) (listed one) r.target first.rules.each a.among).number.0))

  -- records are a checkpoint of one value
  pub one_restored : one ≡ other
  one_restored =
      let moment : one.moment ≡ other.moment = first.moment ∙ ap (λ (c : Commit). c.moment) last ∙ sym second.moment in
      let pending : one.pending ≡ other.pending = pendings one.pending other.pending first.rules.run second.rules.run keeps.target in
      let older : one.older ≡ other.older = (one_end one.older other.older one.last other.last commits).0 in
      let scheduled : one.scheduled ≡ other.scheduled = first.rules.unscheduled ∙ sym second.rules.unscheduled in
      let path : one ≡ other =
      ap (λ (n : ℕ). record one { count = n }) keeps.count
      ∙ ap (λ (c : Commit). record one { count = other.count; last = c }) last
      ∙ ap (λ (l : List Commit). record one { count = other.count; last = other.last; older = l }) older
      ∙ ap (λ (p : Option Unconfirmed). record one { count = other.count; last = other.last; older = other.older; pending = p }) pending
      ∙ ap (λ (w : Option Scheduled). record other { scheduled = w; moment = one.moment }) scheduled
      ∙ ap (λ (n : ℕ). record other { moment = n }) moment in path

pub number_32 : (m n : ℕ) → m < 2 ^ 32 → n < 2 ^ 32 → to_be_bytes w32 m ≡ to_be_bytes w32 n → m ≡ n
number_32 m n lm ln is = sym (from_be_bytes-to_be_bytes_4 m lm) ∙ ap (from_be_bytes w32) is ∙ from_be_bytes-to_be_bytes_4 n ln

-- a Keep states how many commits follow it
pub same_size : (P : Statements → Type 0) (k l : Kept) → IsRestorable P k → IsRestorable P l → keep_record (keep_form k) ≡ keep_record (keep_form l) → length (listed k) ≡ length (listed l)
same_size P k l one other is =
    let payload : keep_bytes (keep_form k) ≡ keep_bytes (keep_form l) = ap (λ (r : Record). r.payload) is in
    let first = same_cut (to_be_bytes w64 (keep_form k).count) (to_be_bytes w64 (keep_form l).count) _ _ refl payload in
    let second = same_cut (to_be_bytes w64 (keep_form k).target) (to_be_bytes w64 (keep_form l).target) _ _ refl first.1 in
    number_32 (length (listed k)) (length (listed l)) (small k one) (small l other) second.1
  where
    small : (m : Kept) → IsRestorable P m → length (listed m) < 2 ^ 32
    small m rules = omega (arith, length-append (far_target (first_number m) m.pending) (commits_of m), few_far P m rules m.pending, rules.few)
