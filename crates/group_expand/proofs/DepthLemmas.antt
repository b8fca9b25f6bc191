-- Since above each statement stand statements, what is below one is known by the depths of those after it.
use Rattle.std.proofs.Common.{◌≡◌, ◌≢◌, ◌⊎◌, inl, inr, ℕ, zero, suc, ◌+◌, ◌<◌, ◌≤◌, Bool, true, false, cond, nat_lt, List, [], ◌∷◌, ◌++◌, length, take, drop, filter, get_or, refl, sym, ap, subst, ◌∙◌, arith, append_assoc, length-append, Option, Some, None, is_some}
use Rattle.std.specs.Prelude.{IsSome, ◌&&◌}
use Rattle.std.specs.FinMap as finite
use Rattle.std.specs.FinMap.{find}
use Rattle.std.specs.List.{AllByRecursion}
use Rattle.std.specs.Ordering.{eq_by_cmp, is_le, is_eq}
use Rattle.std.specs.declared.cmp.Ordering.{Ordering}
use Rattle.std.specs.declared.cmp.Ordering.TheVariants.{Less, Equal, Greater}
use Rattle.cfg_base.specs.Order.{path_cmp, paths_total, is_below}
use Rattle.cfg_base.specs.declared.path.Step.{Step}
use Rattle.cfg_base.specs.declared.value.Value.{Value}
use Rattle.cfg_entries.specs.EntryMap.{Pair}
use Rattle.cfg_tree.specs.Statements.{Statements}
use Rattle.cfg_tree.specs.Tree.{IsTree}
use Rattle.cfg_tree.proofs.MapLemmas.{same_path, same_step}
use Rattle.cfg_tree.proofs.BelowLemmas.{below_between}
use Rattle.group_expand.specs.Row.{StatementView, is_under, AreBehind, Ordered, path_in, beside_of, pairs_of, IsToldByDepth, AreToldByDepth}
use Rattle.group_expand.proofs.ApartLemmas.{parent_is}
use Rattle.group_expand.proofs.ClosedLemmas.{both}
use Rattle.group_expand.proofs.NodeLemmas.{append_nothing, below_same, under_longer, less_apart}
use Rattle.group_expand.proofs.RowLemmas.{together, apart_from, below_trans, first_path, drop_suc}
use Rattle.group_expand.proofs.PlacedLemmas.{row_there}
use Rattle.group_expand.specs.Placed.{map_of}

clash : true ≡ false → ⊥
clash e = cc

-- a path that is found among statements has what each of their paths has
found_has : (Q : List Step → Type 0) (xs : List StatementView) → AllByRecursion (λ x. Q x.path) xs → (q : List Step) → IsSome (find path_cmp q (pairs_of xs)) → Q q
found_has Q [] h q e = cc
found_has Q (x ∷ xs) h q e = by_test (eq_by_cmp path_cmp q x.path) refl e (found_has Q xs h.1 q)
  where
    by_test : (b : Bool) → eq_by_cmp path_cmp q x.path ≡ b → IsSome (cond b (Some x.value) (find path_cmp q (pairs_of xs))) → (IsSome (find path_cmp q (pairs_of xs)) → Q q) → Q q
    by_test true k f go = subst (λ (r : List Step). Q r) (sym ((same_path q x.path).0 k)) h.0
    by_test false k f go = go f

-- a path that is found is the first one, or is found after it
first_or_later : (x : StatementView) (xs : List StatementView) (q : List Step) → IsSome (find path_cmp q (pairs_of (x ∷ xs))) → (q ≡ x.path) ⊎ IsSome (find path_cmp q (pairs_of xs))
first_or_later x xs q e = by_test (eq_by_cmp path_cmp q x.path) refl e
  where
    by_test : (b : Bool) → eq_by_cmp path_cmp q x.path ≡ b → IsSome (cond b (Some x.value) (find path_cmp q (pairs_of xs))) → (q ≡ x.path) ⊎ IsSome (find path_cmp q (pairs_of xs))
    by_test true k f = inl ((same_path q x.path).0 k)
    by_test false k f = inr f

-- the path of the first steps of a longer one
front_below : (n : ℕ) (q : List Step) → is_below (take n q) q ≡ true
front_below zero q = refl
front_below (suc n) [] = refl
front_below (suc n) (s ∷ q) = ap (λ (b : Bool). b && is_below (take n q) q) ((same_step s s).1 refl) ∙ front_below n q

front_long : (n : ℕ) (q : List Step) → n < length q → length (take n q) ≡ n
front_long zero q l = refl
front_long (suc n) [] l = absurd (omega (arith, l))
front_long (suc n) (s ∷ q) l = let k = front_long n q (omega (arith, l)) in omega (arith, k)

below_rest : (p q : List Step) → is_below p q ≡ true → (r : List Step) × (q ≡ p ++ r)
below_rest [] q e = (q, refl)
below_rest (x ∷ p) [] e = cc
below_rest (x ∷ p) (y ∷ q) e =
    let k = both _ _ e in let same : y ≡ x = sym ((same_step x y).0 k.0) in let m = below_rest p q k.1 in (m.0, λ i. same i ∷ m.1 i)

less_le : (o : Ordering) → o ≡ Less → is_le o ≡ true
less_le Less e = refl
less_le Equal e = cc
less_le Greater e = cc

equal_le : (o : Ordering) → is_eq o ≡ true → is_le o ≡ true
equal_le Less e = cc
equal_le Equal e = refl
equal_le Greater e = cc

-- each path above one of these is there
abbrev AreHeld : (List Step → Type 0) → List StatementView → Type 0
AreHeld There xs = AllByRecursion (λ y. (q : List Step) → is_below q y.path ≡ true → 0 < length q → There q) xs

module _ (There : List Step → Type 0) where
  -- what is there and as long as a path isn't after it, or is among these
  abbrev IsSought : List Step → List StatementView → Type 0
  IsSought p ys = (q : List Step) → length q ≡ length p → There q → (is_le (path_cmp q p) ≡ true) ⊎ IsSome (find path_cmp q (pairs_of ys))

  told : (p : List Step) → 0 < length p → (ys : List StatementView) → AreBehind p ys → Ordered ys → AreHeld There ys → IsSought p ys → IsToldByDepth p ys
  told p long [] behind order held sought = tt
  told p long (y ∷ ys) behind order held sought =
      (by_depth (nat_lt (length p) (length y.path)) refl, λ e. told p long ys behind.1 order.1 held.1 (fewer e))
    where
      fewer : is_below p y.path ≡ true → IsSought p ys
      fewer e q len there = elim (sought q len there) [
        | inl l ↦ inl l
        | inr f ↦ elim (first_or_later y ys q f) [
          | inl same ↦ let k = under_longer p y.path behind.0 e in let m = ap (λ (r : List Step). length r) same in absurd (omega (arith, k, m, len))
          | inr g ↦ inr g
        ]
      ]

      deep : length p < length y.path → is_below p y.path ≡ true
      deep l =
          let len : length (take (length p) y.path) ≡ length p = front_long (length p) y.path l
          in let over : is_below (take (length p) y.path) y.path ≡ true = front_below (length p) y.path
          in elim (sought (take (length p) y.path) len (held.0 (take (length p) y.path) over (omega (arith, long, len)))) [
            | inl le ↦
                subst (λ (r : List Step). is_below r y.path ≡ true)
                (below_same (take (length p) y.path) p (below_between (take (length p) y.path) p y.path le behind.0 over) (omega (arith, len))) over
            | inr f ↦ elim (first_or_later y ys (take (length p) y.path) f) [
              | inl same ↦ let m = ap (λ (r : List Step). length r) same in absurd (omega (arith, m, len, l))
              | inr g ↦ absurd (less_apart y.path (take (length p) y.path) (found_has (λ k. path_cmp y.path k ≡ Less) ys order.0 (take (length p) y.path) g) over)
            ]
          ]

      by_depth : (b : Bool) → nat_lt (length p) (length y.path) ≡ b → is_below p y.path ≡ b
      by_depth true e = deep (grind arith)
      by_depth false e = by_below (is_below p y.path) refl
        where
          by_below : (c : Bool) → is_below p y.path ≡ c → c ≡ false
          by_below true k =
              let m : length p < length y.path = under_longer p y.path behind.0 k in let n : length y.path ≤ length p = grind arith in absurd (omega (arith, m, n))
          by_below false k = refl

  abbrev AreLong : List StatementView → Type 0
  AreLong xs = AllByRecursion (λ x. 0 < length x.path) xs

  all_told : (xs : List StatementView) → Ordered xs → AreLong xs → AreHeld There xs
      → ((q : List Step) → There q → AllByRecursion (λ x. path_cmp q x.path ≡ Less) xs ⊎ IsSome (find path_cmp q (pairs_of xs))) → AreToldByDepth xs
  all_told [] order long held sought = tt
  all_told (x ∷ xs) order long held sought = (told x.path long.0 xs order.0 order.1 held.1 here, all_told xs order.1 long.1 held.1 later)
    where
      here : IsSought x.path xs
      here q len there = elim (sought q there) [
        | inl b ↦ inl (less_le _ b.0)
        | inr f ↦ elim (first_or_later x xs q f) [ inl same ↦ inl (equal_le _ ((same_path q x.path).1 same)) | inr g ↦ inr g ]
      ]

      later : (q : List Step) → There q → AllByRecursion (λ y. path_cmp q y.path ≡ Less) xs ⊎ IsSome (find path_cmp q (pairs_of xs))
      later q there = elim (sought q there) [
        | inl b ↦ inl b.1
        | inr f ↦ elim (first_or_later x xs q f) [ inl same ↦ inl (subst (λ (r : List Step). AreBehind r xs) (sym same) order.0) | inr g ↦ inr g ]
      ]

none_some : {X : Type 0} (o : Option X) → o ≡ None → IsSome o → ⊥
none_some o e k = clash (sym k ∙ ap is_some e)

-- above what stands in a tree stand statements
module _ (m : Statements) (tree : IsTree m) where
  parent_there : (p : List Step) (s : Step) → p ≢ [] → finite.get m p ≡ None → finite.get m (p ++ s ∷ []) ≡ None
  parent_there p s some e = by_value (finite.get m (p ++ s ∷ [])) refl
    where
      two : (q : List Step) → q ≢ [] → 1 < length (q ++ s ∷ [])
      two [] k = absurd (k refl)
      two (x ∷ q) k = omega (arith, length-append q (s ∷ []))

      by_value : (o : Option Value) → finite.get m (p ++ s ∷ []) ≡ o → o ≡ None
      by_value None f = refl
      by_value (Some v) f =
          absurd (none_some (finite.get m p) e
          (subst (λ (q : List Step). IsSome (finite.get m q)) (parent_is p s) ((tree.statements.parents (p ++ s ∷ []) (ap is_some f)).parent (two p some))))

  none_below : (p r : List Step) → p ≢ [] → finite.get m p ≡ None → finite.get m (p ++ r) ≡ None
  none_below p [] some e = ap (finite.get m) (append_nothing p) ∙ e
  none_below p (s ∷ r) some e = ap (finite.get m) (sym (append_assoc p (s ∷ []) r)) ∙ none_below (p ++ s ∷ []) r (longer p s) (parent_there p s some e)
    where
      longer : (q : List Step) (t : Step) → q ++ t ∷ [] ≢ []
      longer [] t k = cc
      longer (x ∷ q) t k = cc

  pub above_there : (p r : List Step) → p ≢ [] → IsSome (finite.get m (p ++ r)) → IsSome (finite.get m p)
  above_there p r some k = by_value (finite.get m p) refl
    where
      by_value : (o : Option Value) → finite.get m p ≡ o → IsSome o
      by_value None e = absurd (none_some (finite.get m (p ++ r)) (none_below p r some e) k)
      by_value (Some v) e = refl

-- of a row of a tree, what is below each statement is known by depth
pub row_told : (row : List StatementView) → IsTree (map_of row) → Ordered row → AreToldByDepth row
row_told row tree order =
    all_told (λ q. IsSome (finite.get (map_of row) q)) row order (each_long row (row_there row order)) (each_held row (row_there row order))
    (λ q there. inr (ap is_some (sym (finite.get-from_entries paths_total (pairs_of row) q)) ∙ there))
  where
    each_long : (xs : List StatementView) → AllByRecursion (λ x. finite.get (map_of row) x.path ≡ Some x.value) xs → AllByRecursion (λ x. 0 < length x.path) xs
    each_long [] h = tt
    each_long (x ∷ xs) h = ((tree.statements.parents x.path (ap is_some h.0)).steps, each_long xs h.1)

    some_steps : (q : List Step) → 0 < length q → q ≢ []
    some_steps [] l k = absurd (omega (arith, l))
    some_steps (s ∷ q) l k = cc

    each_held : (xs : List StatementView) → AllByRecursion (λ x. finite.get (map_of row) x.path ≡ Some x.value) xs
        → AllByRecursion (λ x. (q : List Step) → is_below q x.path ≡ true → 0 < length q → IsSome (finite.get (map_of row) q)) xs
    each_held [] h = tt
    each_held (x ∷ xs) h = (
      λ q e l. let m = below_rest q x.path e in above_there (map_of row) tree q m.0 (some_steps q l) (subst (λ (k : List Step). IsSome (finite.get (map_of row) k)) m.1 (ap is_some h.0)),
      each_held xs h.1,
    )

-- what is known so is known of the rest
told_drop : (p : List Step) (xs : List StatementView) (n : ℕ) → AllByRecursion (λ x. is_below p x.path ≡ true) (take n xs) → IsToldByDepth p xs → IsToldByDepth p (drop n xs)
told_drop p xs zero h t = t
told_drop p [] (suc n) h t = tt
told_drop p (x ∷ xs) (suc n) h t = told_drop p xs n h.1 (t.1 h.0)

pub told_first : (p : List Step) (xs : List StatementView) → 0 < length xs → IsToldByDepth p xs → is_below p (path_in xs) ≡ nat_lt (length p) (length (path_in xs))
told_first p [] some t = absurd (omega (arith, some))
told_first p (x ∷ xs) some t = t.0

pub told_next : (p : List Step) (xs next : List StatementView) → 0 < length xs → is_below p (path_in xs) ≡ true → Ordered xs → IsToldByDepth p xs → next ≡ beside_of xs → IsToldByDepth p next
told_next p [] next some e o t is = absurd (omega (arith, some))
told_next p (x ∷ xs) next some e o t is =
    subst (λ (ys : List StatementView). IsToldByDepth p ys) (apart_from x.path xs o.0 o.1 ∙ sym is)
    (told_drop p xs (length (filter (is_under x.path) xs))
    (subst (λ (ys : List StatementView). AllByRecursion (λ y. is_below p y.path ≡ true) ys) (sym (together x.path xs o.0 o.1)) (all_under xs)) (t.1 e))
  where
    all_under : (ys : List StatementView) → AllByRecursion (λ y. is_below p y.path ≡ true) (filter (is_under x.path) ys)
    all_under [] = tt
    all_under (y ∷ ys) = by_test (is_under x.path y) refl (all_under ys)
      where
        by_test : (b : Bool) → is_under x.path y ≡ b → AllByRecursion (λ z. is_below p z.path ≡ true) (filter (is_under x.path) ys)
            → AllByRecursion (λ z. is_below p z.path ≡ true) (cond b (y ∷ filter (is_under x.path) ys) (filter (is_under x.path) ys))
        by_test true k go = (below_trans p x.path y.path e k, go)
        by_test false k go = go

-- it is known by the paths alone
told_by : (p : List Step) (xs ys : List StatementView) → pairs_of xs ≡ pairs_of ys → IsToldByDepth p xs → IsToldByDepth p ys
told_by p xs [] e t = tt
told_by p [] (y ∷ ys) e t = cc
told_by p (x ∷ xs) (y ∷ ys) e t =
    let first : x.path ≡ y.path = first_path x y (pairs_of xs) (pairs_of ys) e in let more : pairs_of xs ≡ pairs_of ys = ap (λ (zs : List (Pair Value)). drop 1 zs) e
    in (subst (λ (q : List Step). is_below p q ≡ nat_lt (length p) (length q)) first t.0, λ b. told_by p xs ys more (t.1 (ap (is_below p) first ∙ b)))

pub all_told_by : (xs ys : List StatementView) → pairs_of xs ≡ pairs_of ys → AreToldByDepth xs → AreToldByDepth ys
all_told_by xs [] e t = tt
all_told_by [] (y ∷ ys) e t = cc
all_told_by (x ∷ xs) (y ∷ ys) e t =
    let first : x.path ≡ y.path = first_path x y (pairs_of xs) (pairs_of ys) e in let more : pairs_of xs ≡ pairs_of ys = ap (λ (zs : List (Pair Value)). drop 1 zs) e
    in (subst (λ (q : List Step). IsToldByDepth q ys) first (told_by x.path xs ys more t.0), all_told_by xs ys more t.1)

told_at : (xs : List StatementView) (at : ℕ) (d : StatementView) → at < length xs → AreToldByDepth xs → IsToldByDepth (get_or xs at d).path (drop (at + 1) xs)
told_at [] at d l t = absurd (omega (arith, l))
told_at (x ∷ xs) zero d l t = t.0
told_at (x ∷ xs) (suc at) d l t = subst (λ (ys : List StatementView). IsToldByDepth (get_or xs at d).path ys) (sym (drop_suc x xs at)) (told_at xs at d (omega (arith, l)) t.1)

pub told_behind : (xs rest : List StatementView) (at : ℕ) (d : StatementView) → at < length xs → d ≡ get_or xs at d → rest ≡ drop (at + 1) xs → AreToldByDepth xs → IsToldByDepth d.path rest
told_behind xs rest at d l is cut t =
    subst (λ (ys : List StatementView). IsToldByDepth d.path ys) (sym cut) (subst (λ (x : StatementView). IsToldByDepth x.path (drop (at + 1) xs)) (sym is) (told_at xs at d l t))
