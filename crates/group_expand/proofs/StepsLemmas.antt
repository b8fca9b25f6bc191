-- The plain offers of a level, step by step.
use Rattle.std.proofs.Common.{◌≡◌, ◌⊎◌, inl, inr, ℕ, zero, suc, ◌+◌, ◌<◌, ◌≤◌, Bool, true, false, not, cond, List, [], ◌∷◌, length, filter, take, drop, get_or, refl, sym, ap, subst, ◌∙◌, arith, nat_lt, Option, Some, None}
use Rattle.std.specs.Prelude.{unwrap_or}
use Rattle.std.specs.List.{AllByRecursion, prefix_len, position}
use Rattle.std.specs.List.Sorted.{IsSortedBy, IsStrictlySortedBy}
use Rattle.std.proofs.lemmas.List.Sorted.{sorted_far}
use Rattle.std.specs.Ordering.{eq_by_cmp, is_le, is_lt, is_eq, ordering_reverse}
use Rattle.std.specs.declared.cmp.Ordering.{Ordering}
use Rattle.std.specs.declared.cmp.Ordering.TheVariants.{Less, Equal, Greater}
use Rattle.cfg_base.specs.Order.{step_cmp, steps_total}
use Rattle.cfg_base.specs.declared.path.Step.{Step}
use Rattle.cfg_tree.proofs.MapLemmas.{same_step}
use Rattle.group_expand.specs.Level.{Ranked, is_at, comes_before, Climbs}
use Rattle.group_expand.specs.Runs.{first_step, run_length, with_first, steps_of}
use Rattle.group_expand.proofs.OfferLemmas.{ranks}
use Rattle.group_expand.proofs.ListedLemmas.{Among}

less_of : (o : Ordering) → is_le o ≡ true → is_eq o ≡ false → o ≡ Less
less_of Less h e = refl
less_of Equal h e = cc
less_of Greater h e = cc

less_not_equal : (o : Ordering) → o ≡ Less → is_eq o ≡ false
less_not_equal Less e = refl
less_not_equal Equal e = cc
less_not_equal Greater e = cc

le_cases : (o : Ordering) → is_le o ≡ true → (o ≡ Less) ⊎ (is_eq o ≡ true)
le_cases Less h = inl refl
le_cases Equal h = inr refl
le_cases Greater h = cc

-- a step before the first of the offers is before all
before_all : (s t : Step) → step_cmp s t ≡ Less → (os : List Ranked) → AllByRecursion (λ x. is_le (step_cmp t x.offer.step) ≡ true) os → AllByRecursion (λ x. step_cmp s x.offer.step ≡ Less) os
before_all s t less [] h = tt
before_all s t less (o ∷ os) h = (
  elim (le_cases _ h.0) [
    | inl l ↦ steps_total.trans s t o.offer.step less l
    | inr e ↦ subst (λ (u : Step). step_cmp s u ≡ Less) ((same_step t o.offer.step).0 e) less
  ],
  before_all s t less os h.1,
)

none_for : (s : Step) (os : List Ranked) → AllByRecursion (λ x. step_cmp s x.offer.step ≡ Less) os → filter (is_at s) os ≡ []
none_for s [] h = refl
none_for s (o ∷ os) h = ap (λ (b : Bool). cond b (o ∷ filter (is_at s) os) (filter (is_at s) os)) (less_not_equal _ h.0) ∙ none_for s os h.1

all_other : (s : Step) (os : List Ranked) → AllByRecursion (λ x. step_cmp s x.offer.step ≡ Less) os → filter (λ x. not (is_at s x)) os ≡ os
all_other s [] h = refl
all_other s (o ∷ os) h =
    ap (λ (b : Bool). cond (not b) (o ∷ filter (λ x. not (is_at s x)) os) (filter (λ x. not (is_at s x)) os)) (less_not_equal _ h.0)
    ∙ ap (λ (xs : List Ranked). o ∷ xs) (all_other s os h.1)

-- the offers for the first step stand together, before the others
module _ (s : Step) where
  abbrev NotBefore : List Ranked → Type 0
  NotBefore os = AllByRecursion (λ x. is_le (step_cmp s x.offer.step) ≡ true) os

  take_one_more : {X : Type 0} (x : X) (xs : List X) (k : ℕ) → take (1 + k) (x ∷ xs) ≡ x ∷ take k xs
  take_one_more x xs k = let e : 1 + k ≡ suc k = omega arith in ap (λ (j : ℕ). take j (x ∷ xs)) e

  drop_one_more : {X : Type 0} (x : X) (xs : List X) (k : ℕ) → drop (1 + k) (x ∷ xs) ≡ drop k xs
  drop_one_more x xs k = let e : 1 + k ≡ suc k = omega arith in ap (λ (j : ℕ). drop j (x ∷ xs)) e

  pub run_front : (os : List Ranked) → NotBefore os → Climbs os
      → (take (prefix_len (is_at s) os) os ≡ filter (is_at s) os) × (drop (prefix_len (is_at s) os) os ≡ filter (λ x. not (is_at s x)) os)
  run_front [] h c = (refl, refl)
  run_front (o ∷ os) h c = by_test (is_at s o) refl (run_front os h.1 c.1)
    where
      by_test : (b : Bool) → is_at s o ≡ b
          → (take (prefix_len (is_at s) os) os ≡ filter (is_at s) os) × (drop (prefix_len (is_at s) os) os ≡ filter (λ x. not (is_at s x)) os)
          → (take (cond b (1 + prefix_len (is_at s) os) 0) (o ∷ os) ≡ cond b (o ∷ filter (is_at s) os) (filter (is_at s) os))
          × (drop (cond b (1 + prefix_len (is_at s) os) 0) (o ∷ os) ≡ cond (not b) (o ∷ filter (λ x. not (is_at s x)) os) (filter (λ x. not (is_at s x)) os))
      by_test true e go =
          (take_one_more o os (prefix_len (is_at s) os) ∙ ap (λ (xs : List Ranked). o ∷ xs) go.0, drop_one_more o os (prefix_len (is_at s) os) ∙ go.1)
      by_test false e go =
          let later = before_all s o.offer.step (less_of _ h.0 e) os c.0
          in (sym (none_for s os later), ap (λ (xs : List Ranked). o ∷ xs) (sym (all_other s os later)))

  climbs_left : (os : List Ranked) → Climbs os → Climbs (filter (λ x. not (is_at s x)) os)
  climbs_left [] c = tt
  climbs_left (o ∷ os) c = by_test (is_at s o) (climbs_left os c.1)
    where
      kept : (xs : List Ranked) → AllByRecursion (λ x. is_le (step_cmp o.offer.step x.offer.step) ≡ true) xs → AllByRecursion (λ x. is_le (step_cmp o.offer.step x.offer.step) ≡ true) (filter (λ x. not (is_at s x)) xs)
      kept [] h = tt
      kept (x ∷ xs) h = by_x (is_at s x) (kept xs h.1)
        where
          by_x : (b : Bool) → AllByRecursion (λ x. is_le (step_cmp o.offer.step x.offer.step) ≡ true) (filter (λ x. not (is_at s x)) xs)
              → AllByRecursion (λ x. is_le (step_cmp o.offer.step x.offer.step) ≡ true) (cond (not b) (x ∷ filter (λ x. not (is_at s x)) xs) (filter (λ x. not (is_at s x)) xs))
          by_x true k = k
          by_x false k = (h.0, k)

      by_test : (b : Bool) → Climbs (filter (λ x. not (is_at s x)) os) → Climbs (cond (not b) (o ∷ filter (λ x. not (is_at s x)) os) (filter (λ x. not (is_at s x)) os))
      by_test true k = k
      by_test false k = (kept os c.0, k)

-- the steps of offers: the first one's, and then those of the offers for other steps
self_le : (s : Step) → is_le (step_cmp s s) ≡ true
self_le s = by_eq (step_cmp s s) ((same_step s s).1 refl)
  where
    by_eq : (o : Ordering) → is_eq o ≡ true → is_le o ≡ true
    by_eq Less e = cc
    by_eq Equal e = refl
    by_eq Greater e = cc

pub steps_first : (o : Ranked) (os : List Ranked) → Climbs (o ∷ os) → steps_of (o ∷ os) ≡ o.offer.step ∷ steps_of (filter (λ x. not (is_at o.offer.step x)) os)
steps_first o [] c = refl
steps_first o (x ∷ os) c = by_test (is_at o.offer.step x) refl (steps_first x os c.1)
  where
    by_test : (b : Bool) → is_at o.offer.step x ≡ b → with_first x.offer.step (steps_of os) ≡ x.offer.step ∷ steps_of (filter (λ y. not (is_at x.offer.step y)) os)
        → with_first o.offer.step (with_first x.offer.step (steps_of os)) ≡ o.offer.step ∷ steps_of (cond (not b) (x ∷ filter (λ y. not (is_at o.offer.step y)) os) (filter (λ y. not (is_at o.offer.step y)) os))
    by_test true e go =
        let same : o.offer.step ≡ x.offer.step = (same_step o.offer.step x.offer.step).0 e
        in ap (with_first o.offer.step) go
        ∙ ap (λ (b : Bool). cond b (x.offer.step ∷ steps_of (filter (λ y. not (is_at x.offer.step y)) os)) (o.offer.step ∷ x.offer.step ∷ steps_of (filter (λ y. not (is_at x.offer.step y)) os))) e
        ∙ (λ i. same' i ∷ steps_of (filter (λ y. not (is_at (same' i) y)) os))
      where
        same' : x.offer.step ≡ o.offer.step
        same' = sym ((same_step o.offer.step x.offer.step).0 e)
    by_test false e go =
        let others : filter (λ y. not (is_at o.offer.step y)) os ≡ os = all_other o.offer.step os (before_all o.offer.step x.offer.step (less_of _ c.0.0 e) os c.1.0)
        in ap (with_first o.offer.step) go
        ∙ ap (λ (b : Bool). cond b (x.offer.step ∷ steps_of (filter (λ y. not (is_at x.offer.step y)) os)) (o.offer.step ∷ x.offer.step ∷ steps_of (filter (λ y. not (is_at x.offer.step y)) os))) e
        ∙ ap (λ (ss : List Step). o.offer.step ∷ ss) (sym go)
        ∙ ap (λ (xs : List Ranked). o.offer.step ∷ steps_of (x ∷ xs)) (sym others)

-- the offers' own order
all_read : (P : Ranked → Type 0) (xs : List Ranked) → ((i : ℕ) (d : Ranked) → i < length xs → P (get_or xs i d)) → AllByRecursion P xs
all_read P [] h = tt
all_read P (x ∷ xs) h = (h zero x (omega arith), all_read P xs (λ i d l. h (suc i) d (omega (arith, l))))

not_behind : (s t : Step) → is_lt (step_cmp t s) ≡ false → is_le (step_cmp s t) ≡ true
not_behind s t e = by_order (step_cmp t s) (steps_total.antisymm s t) e
  where
    by_order : (o : Ordering) → step_cmp s t ≡ ordering_reverse o → is_lt o ≡ false → is_le (step_cmp s t) ≡ true
    by_order Less h e = cc
    by_order Equal h e = ap is_le h
    by_order Greater h e = ap is_le h

climbs_far : (os : List Ranked) → ((i j : ℕ) (d : Ranked) → i < j → j < length os → is_lt (step_cmp (get_or os j d).offer.step (get_or os i d).offer.step) ≡ false) → Climbs os
climbs_far [] h = tt
climbs_far (o ∷ os) h = (
  all_read (λ r. is_le (step_cmp o.offer.step r.offer.step) ≡ true) os (λ i d l. not_behind o.offer.step (get_or os i d).offer.step (h zero (suc i) d (omega arith) (omega (arith, l)))),
  climbs_far os (λ i j d l m. h (suc i) (suc j) d (omega (arith, l)) (omega (arith, m))),
)

pub climbs : (os : List Ranked) → IsSortedBy comes_before os → Climbs os
climbs os up = climbs_far os (λ i j d l m. sorted_far _ ranks os up i j d (omega (arith, l)) m)

-- steps in order that are the same are one list
strict_tail : (s : Step) (ss : List Step) → IsStrictlySortedBy step_cmp (s ∷ ss) → AllByRecursion (λ t. step_cmp s t ≡ Less) ss × IsStrictlySortedBy step_cmp ss
unfolding IsStrictlySortedBy
strict_tail s ss h = (h.0, h.1)

among_less : (s t : Step) (ts : List Step) → AllByRecursion (λ u. step_cmp s u ≡ Less) ts → Among t ts → step_cmp s t ≡ Less
among_less s t [] h a = absurd a
among_less s t (u ∷ ts) h (inl e) = subst (λ (v : Step). step_cmp s v ≡ Less) e h.0
among_less s t (u ∷ ts) h (inr a) = among_less s t ts h.1 a

not_both : (s t : Step) → step_cmp s t ≡ Less → step_cmp t s ≡ Less → ⊥
not_both s t a b = let c = sym b ∙ steps_total.antisymm t s ∙ ap ordering_reverse a in cc

pub one_order : (ss ts : List Step) → IsStrictlySortedBy step_cmp ss → IsStrictlySortedBy step_cmp ts → ((u : Step) → Among u ss → Among u ts) → ((u : Step) → Among u ts → Among u ss) → ss ≡ ts
one_order [] [] h k go back = refl
one_order [] (t ∷ ts) h k go back = absurd (back t (inl refl))
one_order (s ∷ ss) [] h k go back = absurd (go s (inl refl))
one_order (s ∷ ss) (t ∷ ts) h k go back =
    let a = strict_tail s ss h in let b = strict_tail t ts k
    in let first : s ≡ t = elim (go s (inl refl)) [
      | inl e ↦ sym e
      | inr m ↦ elim (back t (inl refl)) [ inl e ↦ e | inr n ↦ absurd (not_both s t (among_less s t ss a.0 n) (among_less t s ts b.0 m)) ]
    ]
    in let rest : ss ≡ ts = one_order ss ts a.1 b.1
    (λ u m. elim (go u (inr m)) [ inl e ↦ absurd (not_self s (subst (λ (v : Step). step_cmp s v ≡ Less) (sym e ∙ sym first) (among_less s u ss a.0 m))) | inr n ↦ n ])
    (λ u m. elim (back u (inr m)) [ inl e ↦ absurd (not_self t (subst (λ (v : Step). step_cmp t v ≡ Less) (sym e ∙ first) (among_less t u ts b.0 m))) | inr n ↦ n ])
    in λ i. first i ∷ rest i
  where
    not_self : (v : Step) → step_cmp v v ≡ Less → ⊥
    not_self v e = not_both v v e e

-- how many are for the first one's step, as the first place of another
prefix_most : {X : Type 0} (t : X → Bool) (xs : List X) → prefix_len t xs ≤ length xs
prefix_most t [] = omega arith
prefix_most t (x ∷ xs) = by_test (t x) (prefix_most t xs)
  where
    by_test : (b : Bool) → prefix_len t xs ≤ length xs → cond b (1 + prefix_len t xs) 0 ≤ length (x ∷ xs)
    by_test true h = omega (arith, h)
    by_test false h = omega (arith, h)

pub prefix_told : {X : Type 0} (t : X → Bool) (xs : List X) (o : Option ℕ) → o ≡ position (λ x. not (t x)) xs → unwrap_or o (length xs) ≡ prefix_len t xs
prefix_told {X} t xs o e = ap (λ (p : Option ℕ). unwrap_or p (length xs)) e ∙ by_order (nat_lt (prefix_len (λ x. not (not (t x))) xs) (length xs)) refl ∙ ap (λ (u : X → Bool). prefix_len u xs) twice
  where
    not_not : (b : Bool) → not (not b) ≡ b
    not_not true = refl
    not_not false = refl

    twice : (λ (x : X). not (not (t x))) ≡ t
    twice = λ i x. not_not (t x) i

    by_order : (b : Bool) → nat_lt (prefix_len (λ x. not (not (t x))) xs) (length xs) ≡ b
        → unwrap_or (cond b (Some (prefix_len (λ x. not (not (t x))) xs)) None) (length xs) ≡ prefix_len (λ x. not (not (t x))) xs
    by_order true e = refl
    by_order false e = let k = prefix_most (λ (x : X). not (not (t x))) xs in grind (arith, k)

pub run_told : (level : List Ranked) (first : Ranked) (s : Step) (o : Option ℕ) → 0 < length level → first ≡ get_or level 0 first → s ≡ first.offer.step
    → o ≡ position (λ x. not (is_at s x)) level → unwrap_or o (length level) ≡ run_length level
run_told [] first s o some is e f = absurd (omega (arith, some))
run_told (x ∷ os) first s o some is e f = prefix_told (is_at s) (x ∷ os) o f ∙ ap (λ (t : Step). prefix_len (is_at t) (x ∷ os)) (e ∙ ap (λ (y : Ranked). y.offer.step) is)

-- how far a walk over the runs of a level has come
pub record IsRunWay (level left : List Ranked) : Type 0 where
  pub climbs_on : Climbs left
  pub alike : (s : Step) → (filter (is_at s) left ≡ []) ⊎ (filter (is_at s) left ≡ filter (is_at s) level)

-- where offers are left, the level has some
pub way_some : (level left : List Ranked) → IsRunWay level left → 0 < length left → 0 < length level
way_some (x ∷ level) left way some = omega arith
way_some [] [] way some = absurd (omega (arith, some))
way_some [] (o ∷ os) way some = absurd (elim (way.alike o.offer.step) [ inl e ↦ none e | inr e ↦ none e ])
  where
    clash : {x : Ranked} {xs : List Ranked} → x ∷ xs ≡ [] → ⊥
    clash e = cc

    none : filter (is_at o.offer.step) (o ∷ os) ≡ [] → ⊥
    none e = clash (sym (ap (λ (b : Bool). cond b (o ∷ filter (is_at o.offer.step) os) (filter (is_at o.offer.step) os)) ((same_step o.offer.step o.offer.step).1 refl)) ∙ e)

all_self : (s : Step) (os : List Ranked) → filter (is_at s) (filter (λ x. not (is_at s x)) os) ≡ []
all_self s [] = refl
all_self s (o ∷ os) = by_test (is_at s o) refl (all_self s os)
  where
    by_test : (b : Bool) → is_at s o ≡ b → filter (is_at s) (filter (λ x. not (is_at s x)) os) ≡ []
        → filter (is_at s) (cond (not b) (o ∷ filter (λ x. not (is_at s x)) os) (filter (λ x. not (is_at s x)) os)) ≡ []
    by_test true e go = go
    by_test false e go = ap (λ (b : Bool). cond b (o ∷ filter (is_at s) (filter (λ x. not (is_at s x)) os)) (filter (is_at s) (filter (λ x. not (is_at s x)) os))) e ∙ go

all_others : (s t : Step) → eq_by_cmp step_cmp t s ≡ false → (os : List Ranked) → filter (is_at t) (filter (λ x. not (is_at s x)) os) ≡ filter (is_at t) os
all_others s t apart [] = refl
all_others s t apart (o ∷ os) = by_tests (is_at s o) (is_at t o) refl refl (all_others s t apart os)
  where
    by_tests : (a b : Bool) → is_at s o ≡ a → is_at t o ≡ b → filter (is_at t) (filter (λ x. not (is_at s x)) os) ≡ filter (is_at t) os
        → filter (is_at t) (cond (not a) (o ∷ filter (λ x. not (is_at s x)) os) (filter (λ x. not (is_at s x)) os)) ≡ cond b (o ∷ filter (is_at t) os) (filter (is_at t) os)
    by_tests true true e f go =
        let same : t ≡ s = (same_step t o.offer.step).0 f ∙ sym ((same_step s o.offer.step).0 e)
        in let k : eq_by_cmp step_cmp t s ≡ true = (same_step t s).1 same in let c = sym k ∙ apart in cc
    by_tests true false e f go = go
    by_tests false b e f go =
        ap (λ (c : Bool). cond c (o ∷ filter (is_at t) (filter (λ x. not (is_at s x)) os)) (filter (is_at t) (filter (λ x. not (is_at s x)) os))) f
        ∙ ap (λ (xs : List Ranked). cond b (o ∷ xs) xs) go

-- one run more: it is all that the level has for its step, and what stands after it goes on
pub record IsRunStep (level left run rest : List Ranked) : Type 0 where
  pub step : Step
  pub first : (d : Step) → first_step run d ≡ step
  pub ahead : (d : Step) → first_step left d ≡ step
  pub some : 0 < length run
  pub steps : steps_of left ≡ step ∷ steps_of rest
  pub whole : run ≡ filter (is_at step) level
  pub on : IsRunWay level rest
  pub shorter : length rest < length left

pub run_step : (level left run rest : List Ranked) → IsRunWay level left → 0 < length left → run ≡ take (run_length left) left → rest ≡ drop (run_length left) left
    → IsRunStep level left run rest
run_step level [] run rest way some e f = absurd (omega (arith, some))
run_step level (o ∷ os) run rest way some e f =
    let c = way.climbs_on
    in let itself : is_at o.offer.step o ≡ true = (same_step o.offer.step o.offer.step).1 refl
    in let split = run_front o.offer.step (o ∷ os) (self_le o.offer.step, c.0) c
    in let run_is : run ≡ o ∷ filter (is_at o.offer.step) os = e ∙ split.0 ∙ ap (λ (b : Bool). cond b (o ∷ filter (is_at o.offer.step) os) (filter (is_at o.offer.step) os)) itself
    in let rest_is : rest ≡ filter (λ x. not (is_at o.offer.step x)) os
    = f ∙ split.1 ∙ ap (λ (b : Bool). cond (not b) (o ∷ filter (λ x. not (is_at o.offer.step x)) os) (filter (λ x. not (is_at o.offer.step x)) os)) itself
    in record {
      step = o.offer.step;
      first = λ d. ap (λ (xs : List Ranked). first_step xs d) run_is;
      ahead = λ d. refl;
      some = subst (λ (xs : List Ranked). 0 < length xs) (sym run_is) (omega arith);
      steps = steps_first o os c ∙ ap (λ (xs : List Ranked). o.offer.step ∷ steps_of xs) (sym rest_is);
      whole = elim (way.alike o.offer.step) [
        | inl none ↦ absurd (clash (sym (ap (λ (b : Bool). cond b (o ∷ filter (is_at o.offer.step) os) (filter (is_at o.offer.step) os)) itself) ∙ none))
        | inr same ↦ e ∙ split.0 ∙ same
      ];
      on = subst (λ (xs : List Ranked). IsRunWay level xs) (sym rest_is) (record { climbs_on = climbs_left o.offer.step os c.1; alike = others os c });
      shorter = subst (λ (xs : List Ranked). length xs < length (o ∷ os)) (sym rest_is) (let k = fewer (λ x. not (is_at o.offer.step x)) os in omega (arith, k));
    }
  where
    clash : {x : Ranked} {xs : List Ranked} → x ∷ xs ≡ [] → ⊥
    clash e = cc

    fewer : (t : Ranked → Bool) (xs : List Ranked) → length (filter t xs) ≤ length xs
    fewer t [] = omega arith
    fewer t (x ∷ xs) = by_test (t x) (fewer t xs)
      where
        by_test : (b : Bool) → length (filter t xs) ≤ length xs → length (cond b (x ∷ filter t xs) (filter t xs)) ≤ length (x ∷ xs)
        by_test true h = omega (arith, h)
        by_test false h = omega (arith, h)

    others : (xs : List Ranked) → Climbs (o ∷ xs) → (t : Step) → (filter (is_at t) (filter (λ x. not (is_at o.offer.step x)) os) ≡ []) ⊎ (filter (is_at t) (filter (λ x. not (is_at o.offer.step x)) os) ≡ filter (is_at t) level)
    others xs c t = by_test (eq_by_cmp step_cmp t o.offer.step) refl
      where
        by_test : (b : Bool) → eq_by_cmp step_cmp t o.offer.step ≡ b
            → (filter (is_at t) (filter (λ x. not (is_at o.offer.step x)) os) ≡ []) ⊎ (filter (is_at t) (filter (λ x. not (is_at o.offer.step x)) os) ≡ filter (is_at t) level)
        by_test true e = inl (ap (λ (u : Step). filter (is_at u) (filter (λ x. not (is_at o.offer.step x)) os)) ((same_step t o.offer.step).0 e) ∙ all_self o.offer.step os)
        by_test false e =
            let same : filter (is_at t) (filter (λ x. not (is_at o.offer.step x)) os) ≡ filter (is_at t) (o ∷ os)
            = all_others o.offer.step t e os ∙ sym (ap (λ (b : Bool). cond b (o ∷ filter (is_at t) os) (filter (is_at t) os)) e)
            in elim (way.alike t) [ inl none ↦ inl (same ∙ none) | inr k ↦ inr (same ∙ k) ]
