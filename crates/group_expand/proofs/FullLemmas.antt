-- What is made is the expansion.
use Rattle.std.proofs.Common.{◌≡◌, ◌≢◌, ◌⊎◌, inl, inr, nat_lt, ℕ, zero, suc, ◌+◌, ◌<◌, ◌≤◌, Bool, true, false, not, cond, List, [], ◌∷◌, ◌++◌, length, filter, map, refl, sym, ap, ◌∙◌, arith, length-append, Option, Some, None, is_some, option_map}
use Rattle.std.specs.Prelude.{IsSome, ◌&&◌}
use Rattle.std.specs.FinMap as finite
use Rattle.std.specs.FinMap.{find}
use Rattle.std.specs.FinMap.Entries.{by_order, put}
use Rattle.std.specs.List.{AllByRecursion, flat_map}
use Rattle.std.specs.Ordering.{eq_by_cmp}
use Rattle.std.specs.List.Sorted.{IsStrictlySortedBy}
use Rattle.std.specs.Map.{keys_of}
use Rattle.std.specs.declared.cmp.Ordering.{Ordering}
use Rattle.std.specs.declared.cmp.Ordering.TheVariants.{Less}
use Rattle.std.proofs.lemmas.Map.Keys.{sorted_head, sorted_tail}
use Rattle.cfg_base.specs.Order.{path_cmp, paths_total}
use Rattle.cfg_base.specs.declared.path.Step.{Step}
use Rattle.cfg_base.specs.declared.path.TheConstants.{MAX_STEPS}
use Rattle.cfg_schema.specs.Profile.{same_word}
use Rattle.cfg_schema.specs.Place.{place_of}
use Rattle.cfg_tree.specs.Statements.{last_of}
use Rattle.cfg_tree.specs.Tree.{ordered_head}
use Rattle.cfg_tree.specs.Children.{is_child, order_in}
use Rattle.cfg_tree.proofs.MapLemmas.{same_path}
use Rattle.group_expand.specs.Live.{Look, is_live}
use Rattle.group_expand.specs.Expansion.{gift_of, is_own, is_apply, gift_at, inherited_names, order_by, IsExpansionOf}
use Rattle.group_expand.specs.Front.{steps_at}
use Rattle.group_expand.specs.Listed.{entry_and, listed}
use Rattle.group_expand.specs.Made.{with_order, present, order_of, given_at, made, expansion_made}
use Rattle.group_expand.proofs.ClosedLemmas.{gift_above}
use Rattle.group_expand.proofs.ListedLemmas.{Among, listed_at}
use Rattle.group_expand.proofs.InOrderLemmas.{AreInside, listed_both, listed_sorted}
use Rattle.group_expand.proofs.CandidateLemmas.{steps_complete, steps_sorted, once_sorted}
use Rattle.group_expand.proofs.ChildLemmas.{deep_children}
use Rattle.group_expand.proofs.StepLemmas.{last_is}
use Rattle.cfg_tree.specs.Tree.{step_of}
use Rattle.group_expand.specs.Expansion.{Gift}
use Rattle.cfg_tree.specs.declared.full.Given.{Given}

module _ {X : Type 0} where
  put_first : (k : List Step) (v : X) (es : List (List Step × X)) → AllByRecursion (λ y. path_cmp k y ≡ Less) (keys_of es) → put path_cmp k v es ≡ (k, v) ∷ es
  put_first k v [] h = refl
  put_first k v (e ∷ es) h = ap (λ (o : Ordering). by_order o ((k, v) ∷ e ∷ es) ((e.0, v) ∷ es) (e ∷ put path_cmp k v es)) h.0

  no_length : (es : List (List Step × X)) → length es ≡ 0 → es ≡ []
  no_length [] e = refl
  no_length (x ∷ es) e = absurd (omega arith)

  pub entries_kept : (es : List (List Step × X)) → IsStrictlySortedBy path_cmp (keys_of es) → finite.entries (finite.from_entries {R = path_cmp} es) ≡ es
  entries_kept [] h = no_length _ (sym (finite.len-entries (finite.empty {X = X} {R = path_cmp})) ∙ finite.len-empty path_cmp X)
  entries_kept (e ∷ es) h =
      finite.entries-insert paths_total (finite.from_entries es) e.0 e.1
      ∙ ap (put path_cmp e.0 e.1) (entries_kept es (sorted_tail path_cmp e.0 (keys_of es) h))
      ∙ put_first e.0 e.1 es (sorted_head path_cmp e.0 (keys_of es) h)

  keys_map : (es : List (List Step × X)) → map (λ (e : List Step × X). e.0) es ≡ keys_of es
  keys_map [] = refl
  keys_map (e ∷ es) = ap (λ (ks : List (List Step)). e.0 ∷ ks) (keys_map es)

within_or_not : (n : ℕ) → (n < MAX_STEPS) ⊎ (MAX_STEPS ≤ n)
within_or_not n = by_test (nat_lt n MAX_STEPS) refl
  where
    by_test : (b : Bool) → nat_lt n MAX_STEPS ≡ b → (n < MAX_STEPS) ⊎ (MAX_STEPS ≤ n)
    by_test true e = inl (grind arith)
    by_test false e = inr (grind arith)

within_or_not_15 : (n : ℕ) → (n < 15) ⊎ (15 ≤ n)
within_or_not_15 n = by_test (nat_lt n 15) refl
  where
    by_test : (b : Bool) → nat_lt n 15 ≡ b → (n < 15) ⊎ (15 ≤ n)
    by_test true e = inl (grind arith)
    by_test false e = inr (grind arith)

-- two tests one after the other
filter_both : {A : Type 0} (a b : A → Bool) (xs : List A) → filter (λ x. a x && b x) xs ≡ filter b (filter a xs)
filter_both a b [] = refl
filter_both {A} a b (x ∷ xs) = by_tests (a x) (filter_both a b xs)
  where
    by_tests : (t : Bool) → filter (λ y. a y && b y) xs ≡ filter b (filter a xs)
        → cond (t && b x) (x ∷ filter (λ y. a y && b y) xs) (filter (λ y. a y && b y) xs) ≡ filter b (cond t (x ∷ filter a xs) (filter a xs))
    by_tests true h = ap (λ (ys : List A). cond (b x) (x ∷ ys) ys) h
    by_tests false h = h

-- the names of children that pass a test
names_passed : (t : List Step → Bool) (p : List Step) (ss : List Step)
    → map (λ q. (last_of q).name) (filter t (map (λ s. p ++ s ∷ []) ss)) ≡ map (λ s. s.name) (filter (λ s. t (p ++ s ∷ [])) ss)
names_passed t p [] = refl
names_passed t p (s ∷ ss) = by_test (t (p ++ s ∷ [])) (names_passed t p ss)
  where
    by_test : (b : Bool) → map (λ q. (last_of q).name) (filter t (map (λ u. p ++ u ∷ []) ss)) ≡ map (λ u. u.name) (filter (λ u. t (p ++ u ∷ [])) ss)
        → map (λ q. (last_of q).name) (cond b ((p ++ s ∷ []) ∷ filter t (map (λ u. p ++ u ∷ []) ss)) (filter t (map (λ u. p ++ u ∷ []) ss)))
        ≡ map (λ u. u.name) (cond b (s ∷ filter (λ u. t (p ++ u ∷ [])) ss) (filter (λ u. t (p ++ u ∷ [])) ss))
    by_test true h = ap (λ (x : Step). x.name ∷ map (λ q. (last_of q).name) (filter t (map (λ u. p ++ u ∷ []) ss))) (last_is p s) ∙ ap (λ (ns : List (List ℕ)). s.name ∷ ns) h
    by_test false h = h

names_by : (t u : Step → Bool) → ((s : Step) → t s ≡ u s) → (ss : List Step) → map (λ s. s.name) (filter t ss) ≡ map (λ s. s.name) (filter u ss)
names_by t u same ss = ap (λ (v : Step → Bool). map (λ s. s.name) (filter v ss)) (λ i s. same s i)

-- no path of a listing is longer than its levels
module _ {X : Type 0} (at : List Step → Option X) (steps : List Step → List Step) where
  abbrev pub AreShort : ℕ → List (List Step × X) → Type 0
  AreShort n [] = Unit {0}
  AreShort n (e ∷ es) = (length e.0 ≤ n) × AreShort n es

  short_append : (n : ℕ) (es fs : List (List Step × X)) → AreShort n es → AreShort n fs → AreShort n (es ++ fs)
  short_append n [] fs h k = k
  short_append n (e ∷ es) fs h k = (h.0, short_append n es fs h.1 k)

  pub listed_short : (n : ℕ) (p : List Step) (m : ℕ) → length p + n ≤ m → AreShort m (listed at steps n p)
  unfolding listed
  listed_short zero p m l = tt
  listed_short (suc n) p m l = all (λ s. listed_short n (p ++ s ∷ []) m (omega (arith, l, length-append p (s ∷ [])))) (steps p)
    where
      one_short : (s : Step) → AreShort m (listed at steps n (p ++ s ∷ [])) → (o : Option X) → AreShort m (entry_and (p ++ s ∷ []) o (listed at steps n (p ++ s ∷ [])))
      one_short s h None = tt
      one_short s h (Some x) = (omega (arith, l, length-append p (s ∷ [])), h)

      all : ((s : Step) → AreShort m (listed at steps n (p ++ s ∷ []))) → (ss : List Step)
          → AreShort m (flat_map (λ s. entry_and (p ++ s ∷ []) (at (p ++ s ∷ [])) (listed at steps n (p ++ s ∷ []))) ss)
      all each [] = tt
      all each (s ∷ ss) = short_append m _ _ (one_short s (each s) (at (p ++ s ∷ []))) (all each ss)

  pub find_short : (n : ℕ) (q : List Step) (es : List (List Step × X)) → n < length q → AreShort n es → find path_cmp q es ≡ None
  find_short n q [] l h = refl
  find_short n q (e ∷ es) l h = ap (λ (b : Bool). cond b (Some e.1) (find path_cmp q es)) (apart _ refl) ∙ find_short n q es l h.1
    where
      apart : (b : Bool) → eq_by_cmp path_cmp q e.0 ≡ b → b ≡ false
      apart true same = let k = ap (λ (x : List Step). length x) ((same_path q e.0).0 same) in absurd (let m = h.0 in omega (arith, k, l, m))
      apart false same = refl

  find_top : (es : List (List Step × X)) → AreInside [] es → find path_cmp [] es ≡ None
  find_top [] h = refl
  find_top (e ∷ es) h = ap (λ (q : List Step). cond (eq_by_cmp path_cmp [] q) (Some e.1) (find path_cmp [] es)) h.0.2 ∙ find_top es h.1

module _ (look : Look) (kids : List Step → List Step) (known : (p : List Step) (s : Step) → IsSome (look (p ++ s ∷ [])) → Among s (kids p))
    (apart : (p : List Step) (s : Step) → is_live look (p ++ s ∷ []) ≡ true → is_apply p ≡ false)
    (shallow : (p : List Step) → 15 < length p → gift_at look kids p ≡ None) where
  some_given : (p : List Step) → is_some (given_at look kids p) ≡ is_some (gift_at look kids p)
  unfolding given_at
  some_given p = by_gift (gift_at look kids p)
    where
      by_gift : (o : Option Gift) → is_some (option_map (with_order (order_of look kids p (ordered_head (place_of p)))) o) ≡ is_some o
      by_gift None = refl
      by_gift (Some g) = refl

  pub closed : (p : List Step) (s : Step) → p ≢ [] → IsSome (given_at look kids (p ++ s ∷ [])) → IsSome (given_at look kids p)
  closed p s h k = some_given p ∙ gift_above look kids apart p s h (sym (some_given (p ++ s ∷ [])) ∙ k)

  pub complete : (p : List Step) (s : Step) → IsSome (given_at look kids (p ++ s ∷ [])) → Among s (steps_at look kids p)
  complete p s k = steps_complete look kids known p s (sym (some_given (p ++ s ∷ [])) ∙ k)

  made_sorted : IsStrictlySortedBy path_cmp (keys_of (made look kids))
  made_sorted = listed_sorted (given_at look kids) (steps_at look kids) (steps_sorted look kids known) MAX_STEPS []

  made_at : (t : Step) (r : List Step) → length r < MAX_STEPS → finite.get (expansion_made look kids) (t ∷ r) ≡ given_at look kids (t ∷ r)
  made_at t r l =
      finite.get-from_entries paths_total (made look kids) (t ∷ r)
      ∙ listed_at (given_at look kids) (steps_at look kids) closed complete (λ p. once_sorted _ (steps_sorted look kids known p)) MAX_STEPS [] t r l

  made_long : (q : List Step) → MAX_STEPS < length q → finite.get (expansion_made look kids) q ≡ None
  made_long q l =
      finite.get-from_entries paths_total (made look kids) q
      ∙ find_short (given_at look kids) (steps_at look kids) MAX_STEPS q (made look kids) l (listed_short (given_at look kids) (steps_at look kids) MAX_STEPS [] MAX_STEPS (omega arith))

  gift_kept : (p : List Step) → option_map gift_of (given_at look kids p) ≡ gift_at look kids p
  unfolding given_at
  gift_kept p = by_gift (gift_at look kids p)
    where
      by_gift : (o : Option Gift) → option_map gift_of (option_map (with_order (order_of look kids p (ordered_head (place_of p)))) o) ≡ o
      by_gift None = refl
      by_gift (Some g) = refl

  gifts : (p : List Step) → p ≢ [] → option_map gift_of (finite.get (expansion_made look kids) p) ≡ gift_at look kids p
  gifts [] h = absurd (h refl)
  gifts (t ∷ r) h = by_length (length r < MAX_STEPS) (within_or_not (length r))
    where
      by_length : (P : Type 0) → (length r < MAX_STEPS) ⊎ (MAX_STEPS ≤ length r) → option_map gift_of (finite.get (expansion_made look kids) (t ∷ r)) ≡ gift_at look kids (t ∷ r)
      by_length P (inl l) = ap (option_map gift_of) (made_at t r l) ∙ gift_kept (t ∷ r)
      by_length P (inr l) = ap (option_map gift_of) (made_long (t ∷ r) (omega (arith, l))) ∙ sym (shallow (t ∷ r) (omega (arith, l)))

  order_kept : (p : List Step) (given : Given) → given_at look kids p ≡ Some given → given.order ≡ order_of look kids p (ordered_head (place_of p))
  unfolding given_at
  order_kept p given e = by_gift (gift_at look kids p) e
    where
      by_gift : (o : Option Gift) → option_map (with_order (order_of look kids p (ordered_head (place_of p)))) o ≡ Some given → given.order ≡ order_of look kids p (ordered_head (place_of p))
      by_gift None k = cc
      by_gift (Some g) k =
          let same : with_order (order_of look kids p (ordered_head (place_of p))) g ≡ given = cc
          in ap (λ (x : Given). x.order) (sym same)

  keys_made : finite.keys (expansion_made look kids) ≡ keys_of (made look kids)
  keys_made = ap (λ (es : List (List Step × Given)). map (λ (e : List Step × Given). e.0) es) (entries_kept (made look kids) made_sorted) ∙ keys_map (made look kids)

  names_kept : (head : List ℕ) (t : Step) (r : List Step) → length r < 15 → IsSome (given_at look kids (t ∷ r))
      → inherited_names look (expansion_made look kids) head (t ∷ r)
      ≡ map (λ s. s.name) (filter (λ s. same_word head s.head && not (is_own look ((t ∷ r) ++ s ∷ []))) (present look kids (t ∷ r)))
  names_kept head t r l some =
      let q : List Step = t ∷ r
      in let tests : List Step → Bool = λ k. same_word head (last_of k).head && not (is_own look k)
      in ap (λ (ks : List (List Step)). map (λ k. (last_of k).name) (filter (λ k. is_child q k && tests k) ks)) keys_made
      ∙ ap (λ (ks : List (List Step)). map (λ k. (last_of k).name) ks) (filter_both (is_child q) tests (keys_of (made look kids)))
      ∙ ap (λ (ks : List (List Step)). map (λ k. (last_of k).name) (filter tests ks))
      (deep_children (given_at look kids) (steps_at look kids) (steps_sorted look kids known) closed complete (λ p. once_sorted _ (steps_sorted look kids known p)) 15 [] t r l some)
      ∙ names_passed tests q (filter (λ s. is_some (given_at look kids (q ++ s ∷ []))) (steps_at look kids q))
      ∙ ap (λ (f : Step → Bool). map (λ s. s.name) (filter (λ s. tests (q ++ s ∷ [])) (filter f (steps_at look kids q)))) (λ i s. some_given (q ++ s ∷ []) i)
      ∙ names_by (λ s. tests (q ++ s ∷ [])) (λ s. same_word head s.head && not (is_own look (q ++ s ∷ [])))
      (λ s. ap (λ (x : Step). same_word head x.head && not (is_own look (q ++ s ∷ []))) (last_is q s)) (present look kids q)

  orders : (p : List Step) (given : Given) → finite.get (expansion_made look kids) p ≡ Some given → given.order ≡ order_by look (expansion_made look kids) p (ordered_head (place_of p))
  orders [] given e = let k = top_none in cc
    where
      top_none : finite.get (expansion_made look kids) [] ≡ None
      top_none = finite.get-from_entries paths_total (made look kids) [] ∙ find_top (given_at look kids) (steps_at look kids) (made look kids) (listed_both (given_at look kids) (steps_at look kids) (steps_sorted look kids known) MAX_STEPS []).0
  orders (t ∷ r) given e = by_length (within_or_not (length r))
    where
      by_head : length r < 15 → IsSome (given_at look kids (t ∷ r)) → (h : Option (List ℕ)) → order_of look kids (t ∷ r) h ≡ order_by look (expansion_made look kids) (t ∷ r) h
      by_head l some None = refl
      by_head l some (Some head) = ap (λ (ns : List (List ℕ)). filter (λ name. is_live look ((t ∷ r) ++ step_of head name ∷ [])) (order_in (look (t ∷ r))) ++ ns) (sym (names_kept head t r l some))

      by_length : (length r < MAX_STEPS) ⊎ (MAX_STEPS ≤ length r) → given.order ≡ order_by look (expansion_made look kids) (t ∷ r) (ordered_head (place_of (t ∷ r)))
      by_length (inl l) =
          let here : given_at look kids (t ∷ r) ≡ Some given = sym (made_at t r l) ∙ e
          in let some : IsSome (given_at look kids (t ∷ r)) = ap is_some here
          in order_kept (t ∷ r) given here ∙ by_head (few (within_or_not_15 (length r)) some) some (ordered_head (place_of (t ∷ r)))
        where
          few : (length r < 15) ⊎ (15 ≤ length r) → IsSome (given_at look kids (t ∷ r)) → length r < 15
          few (inl k) some = k
          few (inr k) some =
              let none = shallow (t ∷ r) (omega (arith, k)) in let m = sym (ap is_some none) ∙ sym (some_given (t ∷ r)) ∙ some in absurd (clash m)
            where
              clash : false ≡ true → ⊥
              clash m = cc
      by_length (inr l) = let k = made_long (t ∷ r) (omega (arith, l)) in cc

  -- what is made is it
  pub full_is : IsExpansionOf look kids (expansion_made look kids)
  full_is = record {
    gifts = gifts;
    top = finite.get-from_entries paths_total (made look kids) [] ∙ find_top (given_at look kids) (steps_at look kids) (made look kids) (listed_both (given_at look kids) (steps_at look kids) (steps_sorted look kids known) MAX_STEPS []).0;
    orders = orders;
  }
