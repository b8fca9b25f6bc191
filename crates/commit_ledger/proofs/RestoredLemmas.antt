-- A checkpoint's commits, taken apart and put together as what is kept.
use Rattle.std.proofs.Common.{◌≡◌, ◌≢◌, ◌≤◌, ◌<◌, inl, inr, ⊎_elim, ℕ, ◌+◌, Bool, true, false, cond, nat_lt, List, [], ◌∷◌, ◌++◌, length, Option, Some, None, refl, sym, ◌∙◌, ap, subst, arith, length-append}
use Rattle.std.specs.Prelude.{IfSome}
use Rattle.confirm_timer.specs.Deadline.{after_minutes}
use Rattle.commit_ledger.specs.declared.entry.Commit.{Commit}
use Rattle.commit_ledger.specs.declared.limit.TheConstants.{MAX_ENTRIES}
use Rattle.commit_ledger.specs.Kept.{Kept, Unconfirmed, commits_of}
use Rattle.commit_ledger.specs.Checkpoint.{KeepForm, first_of, first_number, far_target, target_number, AreConsecutive, IsAmong, IsRunAmong}
use Rattle.commit_ledger.specs.Restored.{IsRestored, IsApart}
use Rattle.commit_ledger.proofs.GrownLemmas.{below, not_below, among_back, among_front}
use Rattle.commit_ledger.proofs.RestoreLemmas.{one_end}

-- two rows of commits, each with one before the others or none
record SameParts (fs gs xs ys : List Commit) : Type 0 where
  far : fs ≡ gs
  kept : xs ≡ ys

same_parts : (fs gs xs ys : List Commit) → length fs ≤ 1 → length gs ≤ 1 → (length fs ≡ 1 → length xs ≡ 50) → (length gs ≡ 1 → length ys ≡ 50) → length xs ≤ 50 → length ys ≤ 50
    → fs ++ xs ≡ gs ++ ys → SameParts fs gs xs ys
same_parts [] [] xs ys a b p q few other is = record { far = refl; kept = is }
same_parts (f ∷ []) (g ∷ []) xs ys a b p q few other is =
    let head : f ≡ g = cc in
    let tail : xs ≡ ys = cc in
    record { far = ap (λ (c : Commit). c ∷ []) head; kept = tail }
same_parts [] (g ∷ []) xs ys a b p q few other is = absurd (let e = ap length is in omega (arith, e, q refl, few))
same_parts (f ∷ []) [] xs ys a b p q few other is = absurd (let e = ap length is in omega (arith, e, p refl, other))
same_parts (f ∷ (g ∷ fs)) gs xs ys a b p q few other is = absurd (omega (arith, a))
same_parts [] (g ∷ (h ∷ gs)) xs ys a b p q few other is = absurd (omega (arith, b))
same_parts (f ∷ []) (g ∷ (h ∷ gs)) xs ys a b p q few other is = absurd (omega (arith, b))

few_far : (first : ℕ) (pending : Option Unconfirmed) → length (far_target first pending) ≤ 1
few_far first None = omega arith
few_far first (Some run) = by (nat_lt run.target.number first)
  where
    by : (test : Bool) → length (cond test (run.target ∷ []) []) ≤ 1
    by true = omega arith
    by false = omega arith

-- the first number of a row
pub first_in : (xs : List Commit) (x : Commit) (ys : List Commit) (y : Commit) (n : ℕ) → xs ++ x ∷ [] ≡ y ∷ ys → first_of xs x.number ≡ y.number
first_in [] x ys y n is = let e : x ≡ y = cc in ap (λ (c : Commit). c.number) e
first_in (z ∷ xs) x ys y n is = let e : z ≡ y = cc in ap (λ (c : Commit). c.number) e

-- a row of consecutive numbers: each one before the last is lower, and none is below the first
lower : (xs : List Commit) (x : Commit) → AreConsecutive (xs ++ x ∷ []) → (c : Commit) → IsAmong c xs → c.number < x.number
lower [] x r c is = absurd is
lower (y ∷ []) x r c (inl same) = omega (arith, r.0, ap (λ (d : Commit). d.number) same)
lower (y ∷ []) x r c (inr rest) = absurd rest
lower (y ∷ (z ∷ xs)) x r c (inl same) = omega (arith, r.0, ap (λ (d : Commit). d.number) same, lower (z ∷ xs) x r.1 z (inl refl))
lower (y ∷ (z ∷ xs)) x r c (inr rest) = lower (z ∷ xs) x r.1 c rest

no_lower : (xs : List Commit) (x : Commit) → AreConsecutive (xs ++ x ∷ []) → (c : Commit) → IsAmong c (xs ++ x ∷ []) → first_of xs x.number ≤ c.number
no_lower [] x r c (inl same) = omega (arith, ap (λ (d : Commit). d.number) same)
no_lower [] x r c (inr rest) = absurd rest
no_lower (y ∷ []) x r c (inl same) = omega (arith, ap (λ (d : Commit). d.number) same)
no_lower (y ∷ []) x r c (inr rest) = let e = no_lower [] x tt c rest in omega (arith, e, r.0)
no_lower (y ∷ (z ∷ xs)) x r c (inl same) = omega (arith, ap (λ (d : Commit). d.number) same)
no_lower (y ∷ (z ∷ xs)) x r c (inr rest) = let e = no_lower (z ∷ xs) x r.1 c rest in omega (arith, e, r.0)

not_last : (xs : List Commit) (x c : Commit) → IsAmong c (xs ++ x ∷ []) → c.number < x.number → IsAmong c xs
not_last [] x c (inl same) low = absurd (let e = ap (λ (d : Commit). d.number) same in omega (arith, low, e))
not_last [] x c (inr rest) low = absurd rest
not_last (y ∷ xs) x c (inl same) low = inl same
not_last (y ∷ xs) x c (inr rest) low = inr (not_last xs x c rest low)

module _ (f : KeepForm) (far older : List Commit) (last : Commit) (apart : IsApart far older last) where
  row : List Commit
  row = far ++ (older ++ last ∷ [])

  size : length (older ++ last ∷ []) ≡ length older + 1
  size = length-append older (last ∷ [])

  -- what any value of these parts is
  module _ (kept : Kept) (restored : IsRestored f (far ++ (older ++ last ∷ [])) kept) where
    parts : SameParts (far_target (first_number kept) kept.pending) far (commits_of kept) (older ++ last ∷ [])
    parts = same_parts (far_target (first_number kept) kept.pending) far (commits_of kept) (older ++ last ∷ []) (few_far (first_number kept) kept.pending) apart.one restored.full
        (λ one. omega (arith, size, apart.full one)) restored.few (omega (arith, size, apart.few)) restored.listed

    ends : (kept.older ≡ older) × (kept.last ≡ last)
    ends = one_end kept.older older kept.last last parts.kept

    first_is : first_number kept ≡ first_of older last.number
    first_is = ap (λ (l : List Commit). first_of l kept.last.number) ends.0 ∙ ap (λ (c : Commit). first_of older c.number) ends.1

    run_at : (run : Unconfirmed) → kept.pending ≡ Some run → IsRunAmong (far ++ (older ++ last ∷ [])) kept run
    run_at run is = subst (λ p. IfSome p (IsRunAmong (far ++ (older ++ last ∷ [])) kept)) is restored.run

    target_at : (run : Unconfirmed) → kept.pending ≡ Some run → run.target.number ≡ f.target
    target_at run is = ap target_number (sym is) ∙ restored.target

    -- a stated target has a run
    pub some_run : f.target ≢ 0 → (run : Unconfirmed) × (kept.pending ≡ Some run)
    some_run apart = by kept.pending refl
      where
        by : (p : Option Unconfirmed) → kept.pending ≡ p → (run : Unconfirmed) × (kept.pending ≡ Some run)
        by None is = absurd (apart (sym restored.target ∙ ap target_number is))
        by (Some run) is = (run, is)

    -- one that isn't stated has none
    pub no_run : f.target ≡ 0 → far ≡ []
    no_run none = by kept.pending refl
      where
        by : (p : Option Unconfirmed) → kept.pending ≡ p → far ≡ []
        by None is = sym parts.far ∙ ap (far_target (first_number kept)) is
        by (Some run) is = absurd (subst (λ p. IfSome p (λ (r : Unconfirmed). r.target.number ≢ 0)) is restored.numbered (target_at run is ∙ none))

    pub waits : (run : Unconfirmed) → kept.pending ≡ Some run → last.minutes ≢ 0
    waits run is none = (run_at run is).waits (ap (λ (c : Commit). c.minutes) ends.1 ∙ none)

    -- without a commit before the others the target is one of those before the last
    pub near : far ≡ [] → (run : Unconfirmed) → kept.pending ≡ Some run → IsAmong run.target older × (run.target.number ≡ f.target)
    near none run is = (
      not_last older last run.target (subst (λ (l : List Commit). IsAmong run.target (l ++ (older ++ last ∷ []))) none (run_at run is).among)
          (omega (arith, (run_at run is).before, ap (λ (c : Commit). c.number) ends.1)),
      target_at run is,
    )

  -- the value that is put together
  abbrev value : Option Unconfirmed → Kept
  value pending = record { count = f.count; last = last; older = older; pending = pending; scheduled = None; moment = last.moment }

  made : (pending : Option Unconfirmed) → far_target (first_of older last.number) pending ≡ far → target_number pending ≡ f.target → last.number ≤ f.count
      → IfSome pending (IsRunAmong (far ++ (older ++ last ∷ [])) (value pending)) → IfSome pending (λ (r : Unconfirmed). r.target.number ≢ 0) → IsRestored f (far ++ (older ++ last ∷ [])) (value pending)
  made pending far_same target number run numbered = record {
    listed = ap (λ (l : List Commit). l ++ (older ++ last ∷ [])) far_same;
    count = refl;
    target = target;
    moment = refl;
    numbers = apart.numbers;
    few = omega (arith, size, apart.few);
    whole = ⊎_elim (λ full. inl (omega (arith, size, full))) (λ one. inr one) apart.whole;
    full = λ one. omega (arith, size, apart.full (ap length (sym far_same) ∙ one));
    moments = apart.moments;
    number = number;
    run = run;
    numbered = numbered;
    unscheduled = refl;
  }

  abbrev run_to : Commit → Unconfirmed
  run_to t = record { deadline = after_minutes last.moment last.minutes; target = t }

  pub made_far : (t : Commit) → far ≡ t ∷ [] → t.number ≡ f.target → t.number < first_of older last.number → last.minutes ≢ 0 → f.target ≢ 0 → f.count ≤ MAX_ENTRIES → last.number ≤ f.count
      → IsRestored f (far ++ (older ++ last ∷ [])) (value (Some (run_to t)))
  made_far t is target low waits stated room number = made (Some (run_to t)) (test (nat_lt t.number (first_of older last.number)) refl) target number
      (record { deadline = refl; among = subst (λ (l : List Commit). IsAmong t (l ++ (older ++ last ∷ []))) (sym is) (inl refl); before = before; waits = waits; room = room }) (λ none. stated (sym target ∙ none))
    where
      before : t.number < last.number
      before = omega (arith, low, no_lower older last apart.numbers last (among_back last older (last ∷ []) (inl refl)))

      test : (b : Bool) → nat_lt t.number (first_of older last.number) ≡ b → cond b (t ∷ []) [] ≡ far
      test true told = sym is
      test false told = absurd (omega (arith, low, not_below t.number (first_of older last.number) told))

  pub made_near : (t : Commit) → far ≡ [] → IsAmong t older → t.number ≡ f.target → last.minutes ≢ 0 → f.target ≢ 0 → f.count ≤ MAX_ENTRIES → last.number ≤ f.count
      → IsRestored f (far ++ (older ++ last ∷ [])) (value (Some (run_to t)))
  made_near t none among target waits stated room number = made (Some (run_to t)) (test (nat_lt t.number (first_of older last.number)) refl) target number
      (record { deadline = refl; among = among_back t far (older ++ last ∷ []) (among_front t older (last ∷ []) among); before = lower older last apart.numbers t among; waits = waits; room = room }) (λ zero. stated (sym target ∙ zero))
    where
      test : (b : Bool) → nat_lt t.number (first_of older last.number) ≡ b → cond b (t ∷ []) [] ≡ far
      test true told = absurd (omega (arith, below t.number (first_of older last.number) told, no_lower older last apart.numbers t (among_front t older (last ∷ []) among)))
      test false told = sym none

-- the value that is put together with a run
pub ledger_is : (count : ℕ) (last : Commit) (older : List Commit) (run wanted : Unconfirmed) (kept : Kept) → kept ≡ record { count = count; last = last; older = older; pending = Some run; scheduled = None; moment = last.moment }
    → run ≡ wanted → record { count = count; last = last; older = older; pending = Some wanted; scheduled = None; moment = last.moment } ≡ kept
ledger_is count last older run wanted kept is same =
    let path : record { count = count; last = last; older = older; pending = Some wanted; scheduled = None; moment = last.moment } ≡ kept =
    ap (λ (r : Unconfirmed). record { count = count; last = last; older = older; pending = Some r; scheduled = None; moment = last.moment }) (sym same) ∙ sym is in
    path
