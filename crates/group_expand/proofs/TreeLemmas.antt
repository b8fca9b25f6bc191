-- Of each tree, what is made is the expansion.
use Rattle.std.proofs.Common.{◌≡◌, inl, inr, ℕ, ◌+◌, ◌<◌, ◌≤◌, Bool, true, false, not, cond, List, [], ◌∷◌, ◌++◌, length, filter, map, refl, sym, ap, subst, ◌∙◌, arith, length-append, Option, Some, None, is_some}
use Rattle.std.specs.Prelude.{IsSome, ◌||◌}
use Rattle.std.specs.List.{flat_map, AllByRecursion, list_any}
use Rattle.std.specs.FinMap as finite
use Rattle.std.specs.FinMap.{find}
use Rattle.std.specs.Ordering.{eq_by_cmp}
use Rattle.cfg_base.specs.Words.{lists}
use Rattle.cfg_base.specs.Order.{path_cmp}
use Rattle.cfg_base.specs.declared.path.Step.{Step}
use Rattle.cfg_base.specs.declared.path.TheConstants.{MAX_STEPS}
use Rattle.cfg_base.specs.declared.value.Value.{Value}
use Rattle.cfg_schema.specs.Place.{top_place}
use Rattle.cfg_schema.proofs.LevelLemmas.{path_most}
use Rattle.cfg_tree.specs.Statements.{Statements, parent_of, last_of}
use Rattle.cfg_tree.specs.Children.{steps_below, is_child}
use Rattle.cfg_tree.specs.Tree.{IsTree}
use Rattle.cfg_tree.proofs.MapLemmas.{same_path}
use Rattle.cfg_tree.proofs.PathLemmas.{split}
use Rattle.cfg_tree.proofs.FollowLemmas.{typed_place}
use Rattle.group_expand.specs.Live.{Look, is_live, live_from, is_active}
use Rattle.group_expand.specs.Sources.{source, groups_step, live_ones, fits_wildcard, fitting_below, fitting_from, fitting, applied, excepted, sources_by}
use Rattle.group_expand.specs.Expansion.{is_apply, gift_at, IsExpansion}
use Rattle.group_expand.specs.Listed.{listed}
use Rattle.cfg_tree.specs.declared.full.Given.{Given}
use Rattle.group_expand.specs.Made.{given_at, made, expansion_made}
use Rattle.group_expand.specs.Front.{steps_at}
use Rattle.std.specs.List.Sorted.{IsStrictlySortedBy}
use Rattle.std.specs.Map.{keys_of}
use Rattle.group_expand.proofs.CandidateLemmas.{steps_sorted, once_sorted}
use Rattle.group_expand.proofs.InOrderLemmas.{AreInside, listed_both, listed_sorted}
use Rattle.group_expand.proofs.ClosedLemmas.{HasOne, some_of_append, gift_parts, both}
use Rattle.group_expand.proofs.ListedLemmas.{Among, listed_at}
use Rattle.group_expand.proofs.StepLemmas.{child_is, last_is}
use Rattle.group_expand.proofs.ApartLemmas.{nothing_below_apply}
use Rattle.group_expand.proofs.FullLemmas.{full_is, closed, complete}
use Rattle.cfg_tree.specs.Tree.{step_of}
use Rattle.group_expand.specs.Sources.{Source}
use Rattle.group_expand.specs.Expansion.{Gift}

all_append : {X : Type 0} (P : X → Type 0) (xs ys : List X) → AllByRecursion P xs → AllByRecursion P ys → AllByRecursion P (xs ++ ys)
all_append P [] ys h k = k
all_append P (x ∷ xs) ys h k = (h.0, all_append P xs ys h.1 k)

all_flat : {X Y : Type 0} (P : X → Type 0) (Q : Y → Type 0) (f : X → List Y) → ((x : X) → P x → AllByRecursion Q (f x)) → (xs : List X) → AllByRecursion P xs → AllByRecursion Q (flat_map f xs)
all_flat P Q f go [] h = tt
all_flat P Q f go (x ∷ xs) h = all_append Q (f x) (flat_map f xs) (go x h.0) (all_flat P Q f go xs h.1)

flat_has : {X Y : Type 0} (f : X → List Y) (xs : List X) → HasOne (flat_map f xs) → (x : X) × HasOne (f x)
flat_has f [] h = absurd (let k = h.has in omega arith)
flat_has f (x ∷ xs) h = elim (some_of_append (f x) (flat_map f xs) h) [ inl k ↦ (x, k) | inr k ↦ flat_has f xs k ]

first_of : {X : Type 0} (P : X → Type 0) (xs : List X) → HasOne xs → AllByRecursion P xs → (x : X) × P x
first_of P [] h a = absurd (let k = h.has in omega arith)
first_of P (x ∷ xs) h a = (x, a.0)

module _ (look : Look) (kids : List Step → List Step) where
  -- a live path of a length
  abbrev IsLong : ℕ → List Step → Type 0
  IsLong n q = (is_live look q ≡ true) × (length q ≡ n)

  live_long : (n : ℕ) (qs : List (List Step)) → AllByRecursion (λ q. length q ≡ n) qs → AllByRecursion (IsLong n) (live_ones look kids qs)
  live_long n [] h = tt
  live_long n (q ∷ qs) h = by_test _ refl (live_long n qs h.1)
    where
      by_test : (b : Bool) → is_live look q ≡ b → AllByRecursion (IsLong n) (live_ones look kids qs) → AllByRecursion (IsLong n) (cond b (q ∷ live_ones look kids qs) (live_ones look kids qs))
      by_test true e k = ((e, h.0), k)
      by_test false e k = k

  children_long : (n : ℕ) (q : List Step) (ss : List Step) → length q ≡ n → AllByRecursion (λ r. length r ≡ n + 1) (map (λ s. q ++ s ∷ []) ss)
  children_long n q [] e = tt
  children_long n q (s ∷ ss) e = (omega (arith, e, length-append q (s ∷ [])), children_long n q ss e)

  below_long : (n : ℕ) (wild : Bool) (s : Step) (q : List Step) → IsLong n q → AllByRecursion (IsLong (n + 1)) (fitting_below look kids wild s q)
  below_long n wild s q h =
      all_append (IsLong (n + 1)) (live_ones look kids ((q ++ s ∷ []) ∷ [])) _
      (live_long (n + 1) ((q ++ s ∷ []) ∷ []) (omega (arith, h.1, length-append q (s ∷ [])), tt))
      (live_long (n + 1) (map (λ other. q ++ other ∷ []) (cond wild (filter (fits_wildcard s) (kids q)) [])) (children_long n q (cond wild (filter (fits_wildcard s) (kids q)) []) h.1))

  fitting_long : (above : List Step) (found : List (List Step)) (rest : List Step) (n : ℕ) → AllByRecursion (IsLong n) found
      → AllByRecursion (IsLong (n + length rest)) (fitting_from look kids above found rest)
  fitting_long above found [] n h = let e : n + 0 ≡ n = omega arith in subst (λ (k : ℕ). AllByRecursion (IsLong k) found) (sym e) h
  fitting_long above found (s ∷ rest) n h =
      let e : n + 1 + length rest ≡ n + length (s ∷ rest) = omega arith
      in let wild = is_live look (above ++ s ∷ [])
      in subst (λ (k : ℕ). AllByRecursion (IsLong k) (fitting_from look kids (above ++ s ∷ []) (flat_map (fitting_below look kids wild s) found) rest)) e
      (fitting_long (above ++ s ∷ []) (flat_map (fitting_below look kids wild s) found) rest (n + 1)
      (all_flat (IsLong n) (IsLong (n + 1)) (fitting_below look kids wild s) (λ q k. below_long n wild s q k) found h))

  group_long : (g : List ℕ) (p : List Step) → AllByRecursion (IsLong (2 + length p)) (fitting look kids g p)
  group_long g p = fitting_long [] (live_ones look kids ((groups_step ∷ step_of [] g ∷ []) ∷ [])) p 2 (live_long 2 ((groups_step ∷ step_of [] g ∷ []) ∷ []) (refl, tt))

  unmapped : (g : List ℕ) (qs : List (List Step)) → HasOne {X = Source} (map (source g) qs) → HasOne qs
  unmapped g [] h = absurd (let k = h.has in omega arith)
  unmapped g (q ∷ qs) h = record { has = omega arith }

  some_group : (found : List ℕ → List (List Step)) (out : List ℕ → Bool) (levels : List (List Step)) → HasOne (sources_by look kids found out levels) → (g : List ℕ) × HasOne (found g)
  some_group found out [] h = absurd (let k = h.has in omega arith)
  some_group found out (level ∷ levels) h =
      let more : List ℕ → Bool = λ g. lists (excepted look kids level) g || out g
      in let here : List (List ℕ) = filter (λ g. not (lists (excepted look kids level) g || out g)) (applied look kids level)
      in elim (some_of_append (flat_map (λ g. map (source g) (found g)) here) (sources_by look kids found more levels) h) [
        | inl k ↦ let w = flat_has (λ g. map (source g) (found g)) here k in (w.0, unmapped w.0 (found w.0) w.1)
        | inr k ↦ some_group found more levels k
      ]

  some_active : (o : Option Value) → is_active o ≡ true → IsSome o
  some_active None h = cc
  some_active (Some v) h = refl

  ends_there : (above rest : List Step) (s : Step) → live_from look above (rest ++ s ∷ []) ≡ true → IsSome (look (above ++ (rest ++ s ∷ [])))
  ends_there above [] s e = some_active _ (both _ _ e).0
  ends_there above (t ∷ rest) s e =
      subst (λ (q : List Step). IsSome (look q)) (assoc above (t ∷ []) (rest ++ s ∷ [])) (ends_there (above ++ t ∷ []) rest s (both _ _ e).1)
    where
      assoc : (xs ys zs : List Step) → (xs ++ ys) ++ zs ≡ xs ++ (ys ++ zs)
      assoc [] ys zs = refl
      assoc (x ∷ xs) ys zs = ap (λ (ws : List Step). x ∷ ws) (assoc xs ys zs)

  live_is_there : (q : List Step) → 0 < length q → is_live look q ≡ true → IsSome (look q)
  live_is_there q long e =
      subst (λ (r : List Step). IsSome (look r)) (sym (split q long)) (ends_there [] (parent_of q) (last_of q) (ap (live_from look []) (sym (split q long)) ∙ e))

  -- no gift is longer than the statements
  gift_short : (n : ℕ) → ((q : List Step) → IsSome (look q) → length q ≤ n) → (p : List Step) → n < length p → gift_at look kids p ≡ None
  gift_short n few p long = by_gift (gift_at look kids p) refl
    where
      too_long : IsSome (gift_at look kids p) → ⊥
      too_long h = elim (gift_parts look kids p h) [
        | inl (l, o, a) ↦ let k = few p (live_is_there p (omega (arith, long)) l) in omega (arith, k, long)
        | inr (o, a, r) ↦
            let g = some_group (λ g. fitting look kids g p) (λ g. false) _ r
            in let q = first_of (IsLong (2 + length p)) (fitting look kids g.0 p) g.1 (group_long g.0 p)
            in let k = few q.0 (live_is_there q.0 (let e = q.1.1 in omega (arith, e)) q.1.0) in let e = q.1.1 in omega (arith, k, long, e)
      ]

      by_gift : (o : Option Gift) → gift_at look kids p ≡ o → gift_at look kids p ≡ None
      by_gift None e = e
      by_gift (Some g) e = absurd (too_long (ap is_some e))

-- the statements of a tree
module _ (m : Statements) (tree : IsTree m) where
  pub few_steps : (q : List Step) → IsSome (finite.get m q) → length q ≤ 9
  few_steps q there = let here = typed_place q top_place (tree.typed.paths q there) in (path_most q here.0 here.1).2

  kid_among : (ks : List (List Step)) (p : List Step) (s : Step) → list_any (eq_by_cmp path_cmp (p ++ s ∷ [])) ks ≡ true → Among s (map last_of (filter (is_child p) ks))
  kid_among [] p s h = cc
  kid_among (k ∷ ks) p s h = by_test _ refl h (kid_among ks p s)
    where
      kept : (b : Bool) → Among s (map last_of (filter (is_child p) ks)) → Among s (map last_of (cond b (k ∷ filter (is_child p) ks) (filter (is_child p) ks)))
      kept true a = inr a
      kept false a = a

      by_test : (b : Bool) → eq_by_cmp path_cmp (p ++ s ∷ []) k ≡ b → (b || list_any (eq_by_cmp path_cmp (p ++ s ∷ [])) ks) ≡ true
          → (list_any (eq_by_cmp path_cmp (p ++ s ∷ [])) ks ≡ true → Among s (map last_of (filter (is_child p) ks))) → Among s (map last_of (filter (is_child p) (k ∷ ks)))
      by_test true same e go =
          let is : p ++ s ∷ [] ≡ k = (same_path (p ++ s ∷ []) k).0 same
          in let child : is_child p k ≡ true = ap (is_child p) (sym is) ∙ child_is p s
          in subst (λ (b : Bool). Among s (map last_of (cond b (k ∷ filter (is_child p) ks) (filter (is_child p) ks)))) (sym child) (inl (ap last_of (sym is) ∙ last_is p s))
      by_test false same e go = kept (is_child p k) (go e)

  kids_known : (p : List Step) (s : Step) → IsSome (finite.get m (p ++ s ∷ [])) → Among s (steps_below m p)
  kids_known p s there = kid_among (finite.keys m) p s (sym (finite.contains_key-keys m (p ++ s ∷ [])) ∙ there)

  above_shallow : (p : List Step) → 15 < length p → gift_at (finite.get m) (steps_below m) p ≡ None
  above_shallow p long = gift_short (finite.get m) (steps_below m) 15 (λ q there. let k = few_steps q there in omega (arith, k)) p long

  below_apart : (p : List Step) (s : Step) → is_live (finite.get m) (p ++ s ∷ []) ≡ true → is_apply p ≡ false
  below_apart p s live = nothing_below_apply m tree p s (ends_there (finite.get m) (steps_below m) [] p s live)

  abbrev At : List Step → Option Given
  At = given_at (finite.get m) (steps_below m)

  abbrev Steps : List Step → List Step
  Steps = steps_at (finite.get m) (steps_below m)

  -- what is listed below a path has what is given at each path there, and is in order
  pub tree_listed : (n : ℕ) (p : List Step) (t : Step) (r : List Step) → length r < n → find path_cmp (p ++ t ∷ r) (listed At Steps n p) ≡ At (p ++ t ∷ r)
  tree_listed n p t r l =
      listed_at At Steps
      (closed (finite.get m) (steps_below m) kids_known below_apart above_shallow)
      (complete (finite.get m) (steps_below m) kids_known below_apart above_shallow)
      (λ q. once_sorted _ (steps_sorted (finite.get m) (steps_below m) kids_known q)) n p t r l

  pub tree_both : (n : ℕ) (p : List Step) → AreInside p (listed At Steps n p) × IsStrictlySortedBy path_cmp (keys_of (listed At Steps n p))
  tree_both n p = listed_both At Steps (steps_sorted (finite.get m) (steps_below m) kids_known) n p

  -- of each tree, what is made is the expansion
  pub tree_full : IsExpansion m (expansion_made (finite.get m) (steps_below m))
  tree_full =
      full_is (finite.get m) (steps_below m) kids_known below_apart above_shallow

  pub tree_sorted : IsStrictlySortedBy path_cmp (keys_of (made (finite.get m) (steps_below m)))
  tree_sorted = listed_sorted (given_at (finite.get m) (steps_below m)) (steps_at (finite.get m) (steps_below m)) (steps_sorted (finite.get m) (steps_below m) kids_known) MAX_STEPS []
