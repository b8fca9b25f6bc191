-- The steps that a path's children may have: each child that is in the expansion has one of them; they are in order.
use Rattle.std.proofs.Common.{◌≡◌, ◌⊎◌, inl, inr, Bool, true, false, not, cond, List, [], ◌∷◌, ◌++◌, filter, map, refl, sym, ap, subst, ◌∙◌, arith, Option, Some, None}
use Rattle.std.specs.Prelude.{IsSome, ◌||◌}
use Rattle.std.specs.List.{flat_map, list_any, AllByRecursion}
use Rattle.std.specs.List.Sorted.{IsStrictlySortedBy}
use Rattle.std.specs.BTreeSet.{insert_key}
use Rattle.std.specs.Ordering.{match_ordering, ordering_reverse, eq_by_cmp, is_eq}
use Rattle.std.specs.declared.cmp.Ordering.{Ordering}
use Rattle.std.specs.declared.cmp.Ordering.TheVariants.{Less, Equal, Greater}
use Rattle.cfg_base.specs.Order.{step_cmp, steps_total}
use Rattle.cfg_base.specs.declared.path.Step.{Step}
use Rattle.cfg_base.specs.declared.value.Value.{Value}
use Rattle.cfg_tree.proofs.MapLemmas.{step_same, same_step}
use Rattle.group_expand.specs.Live.{Look, is_active, is_live, live_from}
use Rattle.group_expand.specs.Sources.{source, is_wildcard, is_plain, live_ones, fits_wildcard, fitting_below}
use Rattle.group_expand.specs.Expansion.{gift_at}
use Rattle.group_expand.specs.Front.{grown, front, live_kids, sorted, steps_at}
use Rattle.group_expand.proofs.FrontLemmas.{raw_more}
use Rattle.group_expand.proofs.ClosedLemmas.{HasOne, some_of_append, gift_parts, both, negated}
use Rattle.group_expand.proofs.ListedLemmas.{Among, Once}
use Rattle.group_expand.specs.Sources.{Source}

pub among_left : (s : Step) (xs ys : List Step) → Among s xs → Among s (xs ++ ys)
among_left s [] ys h = absurd h
among_left s (x ∷ xs) ys (inl e) = inl e
among_left s (x ∷ xs) ys (inr h) = inr (among_left s xs ys h)

pub among_right : (s : Step) (xs ys : List Step) → Among s ys → Among s (xs ++ ys)
among_right s [] ys h = h
among_right s (x ∷ xs) ys h = inr (among_right s xs ys h)

pub among_filter : (t : Step → Bool) (s : Step) (xs : List Step) → t s ≡ true → Among s xs → Among s (filter t xs)
among_filter t s [] e h = absurd h
among_filter t s (x ∷ xs) e (inl k) =
    let p : t x ≡ true = ap t k ∙ e in subst (λ (b : Bool). Among s (cond b (x ∷ filter t xs) (filter t xs))) (sym p) (inl k)
among_filter t s (x ∷ xs) e (inr k) = by_test (t x) (among_filter t s xs e k)
  where
    by_test : (b : Bool) → Among s (filter t xs) → Among s (cond b (x ∷ filter t xs) (filter t xs))
    by_test true m = inr m
    by_test false m = m

among_insert : (s k : Step) (xs : List Step) → Among s xs → Among s (insert_key step_cmp xs k)
among_insert s k [] h = absurd h
among_insert s k (x ∷ xs) h = by_order (step_cmp k x) h (among_insert s k xs)
  where
    by_order : (o : Ordering) → (x ≡ s) ⊎ Among s xs → (Among s xs → Among s (insert_key step_cmp xs k)) → Among s (match_ordering o (k ∷ x ∷ xs) (x ∷ xs) (x ∷ insert_key step_cmp xs k))
    by_order Less m deep = inr m
    by_order Equal m deep = m
    by_order Greater (inl e) deep = inl e
    by_order Greater (inr m) deep = inr (deep m)

among_new : (k : Step) (xs : List Step) → Among k (insert_key step_cmp xs k)
among_new k [] = inl refl
among_new k (x ∷ xs) = by_order _ refl (among_new k xs)
  where
    by_order : (o : Ordering) → step_cmp k x ≡ o → Among k (insert_key step_cmp xs k) → Among k (match_ordering o (k ∷ x ∷ xs) (x ∷ xs) (x ∷ insert_key step_cmp xs k))
    by_order Less e m = inl refl
    by_order Equal e m = inl (sym (step_same k x e))
    by_order Greater e m = inr m

pub among_sorted : (s : Step) (xs : List Step) → Among s xs → Among s (sorted xs)
among_sorted s [] h = absurd h
among_sorted s (x ∷ xs) (inl e) = subst (λ (t : Step). Among t (insert_key step_cmp (sorted xs) x)) e (among_new x (sorted xs))
among_sorted s (x ∷ xs) (inr h) = among_insert s x (sorted xs) (among_sorted s xs h)

-- in order
less_insert : (a k : Step) (xs : List Step) → step_cmp a k ≡ Less → AllByRecursion (λ y. step_cmp a y ≡ Less) xs → AllByRecursion (λ y. step_cmp a y ≡ Less) (insert_key step_cmp xs k)
less_insert a k [] e h = (e, tt)
less_insert a k (x ∷ xs) e h = by_order (step_cmp k x) (less_insert a k xs e h.1)
  where
    by_order : (o : Ordering) → AllByRecursion (λ y. step_cmp a y ≡ Less) (insert_key step_cmp xs k) → AllByRecursion (λ y. step_cmp a y ≡ Less) (match_ordering o (k ∷ x ∷ xs) (x ∷ xs) (x ∷ insert_key step_cmp xs k))
    by_order Less m = (e, h)
    by_order Equal m = h
    by_order Greater m = (h.0, m)

less_trans : (a b : Step) (xs : List Step) → step_cmp a b ≡ Less → AllByRecursion (λ y. step_cmp b y ≡ Less) xs → AllByRecursion (λ y. step_cmp a y ≡ Less) xs
less_trans a b [] e h = tt
less_trans a b (x ∷ xs) e h = (steps_total.trans a b x e h.0, less_trans a b xs e h.1)

sorted_insert : (k : Step) (xs : List Step) → IsStrictlySortedBy step_cmp xs → IsStrictlySortedBy step_cmp (insert_key step_cmp xs k)
unfolding IsStrictlySortedBy
sorted_insert k [] h = (tt, tt)
sorted_insert k (x ∷ xs) h = by_order _ refl (sorted_insert k xs h.1)
  where
    by_order : (o : Ordering) → step_cmp k x ≡ o → IsStrictlySortedBy step_cmp (insert_key step_cmp xs k) → IsStrictlySortedBy step_cmp (match_ordering o (k ∷ x ∷ xs) (x ∷ xs) (x ∷ insert_key step_cmp xs k))
    by_order Less e m = ((e, less_trans k x xs e h.0), h)
    by_order Equal e m = h
    by_order Greater e m = (less_insert x k xs (steps_total.antisymm x k ∙ ap ordering_reverse e) h.0, m)

pub sorted_sorted : (xs : List Step) → IsStrictlySortedBy step_cmp (sorted xs)
unfolding IsStrictlySortedBy
sorted_sorted [] = tt
sorted_sorted (x ∷ xs) = sorted_insert x (sorted xs) (sorted_sorted xs)

not_among_later : (s : Step) (xs : List Step) → AllByRecursion (λ y. step_cmp s y ≡ Less) xs → Among s xs → ⊥
not_among_later s [] h m = m
not_among_later s (x ∷ xs) h (inl e) = let k : step_cmp s s ≡ Less = ap (step_cmp s) (sym e) ∙ h.0 in let t : eq_by_cmp step_cmp s s ≡ true = (same_step s s).1 refl in let c = sym t ∙ ap is_eq k in cc
not_among_later s (x ∷ xs) h (inr m) = not_among_later s xs h.1 m

pub once_sorted : (xs : List Step) → IsStrictlySortedBy step_cmp xs → Once xs
unfolding IsStrictlySortedBy
once_sorted [] h = tt
once_sorted (x ∷ xs) h = (not_among_later x xs h.0, once_sorted xs h.1)

module _ (look : Look) (kids : List Step → List Step) (known : (p : List Step) (s : Step) → IsSome (look (p ++ s ∷ [])) → Among s (kids p)) where
  pub live_there : (above rest : List Step) (s : Step) → live_from look above (rest ++ s ∷ []) ≡ true → IsSome (look (above ++ (rest ++ s ∷ [])))
  live_there above [] s e = some_active _ (both _ _ e).0
    where
      some_active : (o : Option Value) → is_active o ≡ true → IsSome o
      some_active None h = cc
      some_active (Some v) h = refl
  live_there above (t ∷ rest) s e =
      subst (λ (q : List Step). IsSome (look q)) (assoc above (t ∷ []) (rest ++ s ∷ [])) (live_there (above ++ t ∷ []) rest s (both _ _ e).1)
    where
      assoc : (xs ys zs : List Step) → (xs ++ ys) ++ zs ≡ xs ++ (ys ++ zs)
      assoc [] ys zs = refl
      assoc (x ∷ xs) ys zs = ap (λ (ws : List Step). x ∷ ws) (assoc xs ys zs)

  live_kid : (p : List Step) (s : Step) → is_live look (p ++ s ∷ []) ≡ true → Among s (live_kids look kids p)
  live_kid p s e = among_filter (λ t. is_live look (p ++ t ∷ [])) s (kids p) e (known p s (live_there [] p s e))

  from_sources : (fits : List Step → List (List Step)) (brings : List Step → List Step) (s : Step) (Q : Type 0)
      → ((q : List Step) → HasOne (fits q) → Among s (brings q) ⊎ Q) → (xs : List Source) → HasOne (flat_map (grown fits) xs)
      → Among s (flat_map (λ x. brings x.from) xs) ⊎ Q
  from_sources fits brings s Q each [] h = absurd (let k = h.has in omega arith)
  from_sources fits brings s Q each (x ∷ xs) h = elim (some_of_append (grown fits x) (flat_map (grown fits) xs) h) [
    | inl k ↦ elim (each x.from (unmapped (fits x.from) k)) [ inl m ↦ inl (among_left s (brings x.from) _ m) | inr q ↦ inr q ]
    | inr k ↦ elim (from_sources fits brings s Q each xs k) [ inl m ↦ inl (among_right s (brings x.from) _ m) | inr q ↦ inr q ]
  ]
    where
      unmapped : (qs : List (List Step)) → HasOne {X = Source} (map (source x.group) qs) → HasOne qs
      unmapped [] k = absurd (let m = k.has in omega arith)
      unmapped (q ∷ qs) k = record { has = omega arith }

  live_one : (q : List Step) → HasOne (live_ones look kids (q ∷ [])) → is_live look q ≡ true
  live_one q h = by_test _ refl h
    where
      by_test : (b : Bool) → is_live look q ≡ b → HasOne (cond b (q ∷ []) []) → b ≡ true
      by_test true e k = refl
      by_test false e k = absurd (let m = k.has in omega arith)

  no_wild : (wild : Bool) (p : List Step) (s : Step) (q : List Step) → HasOne (live_ones look kids (map (λ other. q ++ other ∷ []) (cond wild (filter (fits_wildcard s) (kids q)) []))) → wild ≡ true
  no_wild true p s q h = refl
  no_wild false p s q h = absurd (let m = h.has in omega arith)

  last_plain : (p : List Step) (s : Step) → is_plain (p ++ s ∷ []) ≡ true → is_wildcard s.name ≡ false
  last_plain p s e = last_tame p (negated _ e)
    where
      or_last : (a b : Bool) → (a || b) ≡ false → b ≡ false
      or_last true b h = cc
      or_last false b h = h

      or_first : (a b : Bool) → (a || b) ≡ false → a ≡ false
      or_first true b h = cc
      or_first false b h = refl

      last_tame : (p : List Step) → list_any (λ (t : Step). is_wildcard t.name) (p ++ s ∷ []) ≡ false → is_wildcard s.name ≡ false
      last_tame [] h = or_first _ _ h
      last_tame (t ∷ p) h = last_tame p (or_last _ _ h)

  -- each child that is there has one of the steps
  pub steps_complete : (p : List Step) (s : Step) → IsSome (gift_at look kids (p ++ s ∷ [])) → Among s (steps_at look kids p)
  unfolding steps_at
  steps_complete p s h = among_sorted s _ (elim (gift_parts look kids (p ++ s ∷ []) h) [
    | inl (l, o, a) ↦ among_left s (live_kids look kids p) _ (live_kid p s l)
    | inr (o, plain, r) ↦
        let f = subst (λ (xs : List Source). HasOne xs) (raw_more look kids p s) r
        in elim (from_sources (fitting_below look kids (is_live look (p ++ s ∷ [])) s) (λ q. filter (λ t. not (is_wildcard t.name)) (live_kids look kids q)) s (is_live look (p ++ s ∷ []) ≡ true)
        (λ q k. elim (some_of_append (live_ones look kids ((q ++ s ∷ []) ∷ [])) _ k) [
          | inl m ↦ inl (among_filter (λ t. not (is_wildcard t.name)) s (live_kids look kids q) (ap not (last_plain p s plain)) (live_kid q s (live_one (q ++ s ∷ []) m)))
          | inr m ↦ inr (no_wild (is_live look (p ++ s ∷ [])) p s q m)
        ]) (front look kids p) f) [
          | inl m ↦ among_right s (live_kids look kids p) _ m
          | inr l ↦ among_left s (live_kids look kids p) _ (live_kid p s l)
        ]
  ])

  pub steps_sorted : (p : List Step) → IsStrictlySortedBy step_cmp (steps_at look kids p)
  unfolding steps_at
  steps_sorted p = sorted_sorted (live_kids look kids p ++ flat_map (λ x. filter (λ s. not (is_wildcard s.name)) (live_kids look kids x.from)) (front look kids p))
