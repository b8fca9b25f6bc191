-- The length of the printed text is the sum over the statements in the order of paths.
use Rattle.std.proofs.Common.{◌≡◌, ℕ, zero, suc, ◌+◌, ◌-◌, ◌*◌, ◌≤◌, nat_lt, Bool, true, false, cond, ◌&&◌, ◌||◌, T, List, [], ◌∷◌, ◌++◌, length, map as each, filter, flat_map, refl, sym, ap, subst, ◌∙◌, inl, inr, Option, Some, None, is_some, arith, codes, length-append, append-nil}
use Rattle.std.specs.FinMap as map
use Rattle.std.specs.FinMap.Entries.{is_sorted, find}
use Rattle.std.specs.List.{AllByRecursion, list_any, sum_by}
use Rattle.std.specs.Ordering.{eq_by_cmp}
use Rattle.std.proofs.lemmas.Bool.Decides.{nat_tests}
use Rattle.std.proofs.lemmas.List.{length-replicate, append_assoc}
use Rattle.std.proofs.lemmas.List.Concat.{length-flat_map}
use Rattle.std.proofs.lemmas.List.Sums.{sum_by-cons}
use Rattle.cfg_base.specs.Order.{path_cmp, step_cmp}
use Rattle.cfg_base.specs.declared.path.Step.{Step}
use Rattle.cfg_base.specs.declared.path.TheConstants.{MAX_STEPS}
use Rattle.cfg_base.specs.declared.value.Value.{Value}
use Rattle.cfg_entries.specs.EntryMap.{Pair}
use Rattle.cfg_schema.specs.Place.{top_place}
use Rattle.cfg_schema.proofs.TestLemmas.{both, both_true}
use Rattle.cfg_schema.proofs.LevelLemmas.{path_most}
use Rattle.cfg_tree.specs.Statements.{Statements, is_below}
use Rattle.cfg_tree.specs.Tree.{IsTree}
use Rattle.cfg_tree.specs.Children.{is_inside, step_if, children_of}
use Rattle.cfg_tree.proofs.MapLemmas.{same_step, same_path}
use Rattle.cfg_tree.proofs.PathLemmas.{child_longer}
use Rattle.cfg_tree.proofs.BelowLemmas.{below_self, parent_apart}
use Rattle.cfg_tree.proofs.FollowLemmas.{typed_place}
use Rattle.cfg_tree.proofs.OnceLemmas.{same_test, below_rest, below_apart, children_once}
use Rattle.curly_print.specs.Printed.{line_of, spaces, ended, statement_text, text_below, printed}
use Rattle.curly_print.specs.Printing.{child_text}
use Rattle.curly_print.specs.Length.{holds, indent_of, own_len, entry_len}
use Rattle.curly_print.proofs.PrintingLemmas.{some_printed}
use Rattle.curly_print.proofs.TopLemmas.{top_text}
use Rattle.printing_order.proofs.NumberLemmas.{lt_is, lt_not, lt_told}
use Rattle.printing_order.proofs.ListedLemmas.{Lists, child_there, none_below, no_deeper, parent_child}

-- sums
sum_same : {X : Type 0} (f g : X → ℕ) (xs : List X) → AllByRecursion (λ x. f x ≡ g x) xs → sum_by f xs ≡ sum_by g xs
sum_same f g [] h = refl
sum_same {X} f g (x ∷ xs) h =
    sum_by-cons f x xs ∙ ap (λ (n : ℕ). n + sum_by f xs) h.0 ∙ ap (λ (n : ℕ). g x + n) (sum_same f g xs h.1) ∙ sym (sum_by-cons g x xs)

sum_none : {X : Type 0} (xs : List X) → sum_by (λ (x : X). 0) xs ≡ 0
sum_none [] = refl
sum_none {X} (x ∷ xs) = sum_by-cons (λ (y : X). 0) x xs ∙ ap (λ (n : ℕ). 0 + n) (sum_none xs)

sum_both : {X : Type 0} (f g : X → ℕ) (xs : List X) → sum_by (λ x. f x + g x) xs ≡ sum_by f xs + sum_by g xs
sum_both f g [] = refl
sum_both {X} f g (x ∷ xs) =
    sum_by-cons (λ (y : X). f y + g y) x xs
    ∙ ap (λ (n : ℕ). (f x + g x) + n) (sum_both f g xs)
    ∙ regroup (f x) (g x) (sum_by f xs) (sum_by g xs)
    ∙ sym (ap (λ (n : ℕ). n + sum_by g (x ∷ xs)) (sum_by-cons f x xs) ∙ ap (λ (n : ℕ). (f x + sum_by f xs) + n) (sum_by-cons g x xs))
  where
    regroup : (a b c d : ℕ) → (a + b) + (c + d) ≡ (a + c) + (b + d)
    regroup a b c d = omega arith

sum_swapped : {X Y : Type 0} (f : X → Y → ℕ) (xs : List X) (ys : List Y) → sum_by (λ x. sum_by (f x) ys) xs ≡ sum_by (λ y. sum_by (λ x. f x y) xs) ys
sum_swapped {X} {Y} f [] ys = sym (sum_none ys)
sum_swapped {X} {Y} f (x ∷ xs) ys =
    sum_by-cons (λ (z : X). sum_by (f z) ys) x xs
    ∙ ap (λ (n : ℕ). sum_by (f x) ys + n) (sum_swapped f xs ys)
    ∙ sym (sum_both (f x) (λ (y : Y). sum_by (λ (z : X). f z y) xs) ys)
    ∙ sum_same (λ (y : Y). f x y + sum_by (λ (z : X). f z y) xs) (λ (y : Y). sum_by (λ (z : X). f z y) (x ∷ xs)) ys (each_is ys)
  where
    each_is : (zs : List Y) → AllByRecursion (λ (y : Y). f x y + sum_by (λ (z : X). f z y) xs ≡ sum_by (λ (z : X). f z y) (x ∷ xs)) zs
    each_is [] = tt
    each_is (y ∷ zs) = (sym (sum_by-cons (λ (z : X). f z y) x xs), each_is zs)

-- a list's elements, as they stand in it
each_of : {X : Type 0} (P : X → Type 0) (xs : List X) → ((x : X) → P x) → AllByRecursion P xs
each_of P [] h = tt
each_of P (x ∷ xs) h = (h x, each_of P xs h)

weaker : {X : Type 0} (P Q : X → Type 0) (xs : List X) → ((x : X) → P x → Q x) → AllByRecursion P xs → AllByRecursion Q xs
weaker P Q [] h k = tt
weaker P Q (x ∷ xs) h k = (h x k.0, weaker P Q xs h k.1)

listed_steps : (P : Step → Type 0) (steps : List Step) → ((s : Step) → Lists steps s → P s) → AllByRecursion P steps
listed_steps P [] h = tt
listed_steps P (s ∷ steps) h = (h s (inl refl), listed_steps P steps (λ t l. h t (inr l)))

not_lt_told : (a b : ℕ) → nat_lt a b ≡ false → b ≤ a
not_lt_told a b h = grind (arith, nat_tests)

-- a path below another one is it, or inside
below_parts : (c q : List Step) (w : ℕ) → cond (is_below c q) w 0 ≡ cond (eq_by_cmp path_cmp c q) w 0 + cond (is_inside c q) w 0
below_parts c q w = by_tests (is_below c q) (nat_lt (length c) (length q)) (eq_by_cmp path_cmp c q) refl refl refl
  where
    is_same : eq_by_cmp path_cmp c q ≡ true → c ≡ q
    is_same e = (same_path c q).0 e

    whole : (rest : List Step) → q ≡ c ++ rest → length q ≤ length c → c ≡ q
    whole [] e few = sym (e ∙ append-nil c)
    whole (t ∷ rest) e few = let k = ap (λ (ss : List Step). length ss) e in absurd (omega (arith, k, few, length-append c (t ∷ rest)))

    sum_zero : (n : ℕ) → n ≡ n + 0
    sum_zero n = omega arith

    zero_sum : (n : ℕ) → n ≡ 0 + n
    zero_sum n = omega arith

    by_tests : (b l e : Bool) → is_below c q ≡ b → nat_lt (length c) (length q) ≡ l → eq_by_cmp path_cmp c q ≡ e → cond b w 0 ≡ cond e w 0 + cond (b && l) w 0
    by_tests false l false f g h = zero_sum 0
    by_tests false l true f g h = let self = ap (λ (p : List Step). is_below c p) (sym (is_same h)) ∙ below_self c in cc
    by_tests true true false f g h = zero_sum w
    by_tests true true true f g h =
        let k = ap (λ (p : List Step). length p) (is_same h) in let below = lt_told (length c) (length q) g in absurd (omega (arith, k, below))
    by_tests true false true f g h = sum_zero w
    by_tests true false false f g h =
        let rest = below_rest c q f in let same = (same_path c q).1 (whole rest.0 rest.1 (not_lt_told (length c) (length q) g)) in cc

-- what is below a child is below its path
below_up : (p q : List Step) (s : Step) → is_below (p ++ s ∷ []) q ≡ true → is_below p q ≡ true
below_up [] q s h = refl
below_up (x ∷ p) [] s h = cc
below_up (x ∷ p) (y ∷ q) s h = let parts = both (eq_by_cmp step_cmp x y) _ h in both_true _ _ parts.0 (below_up p q s parts.1)

below_child : (p r : List Step) (s t : Step) → is_below (p ++ s ∷ []) (p ++ t ∷ r) ≡ eq_by_cmp step_cmp s t
below_child [] r s t = and_true (eq_by_cmp step_cmp s t)
  where
    and_true : (b : Bool) → (b && true) ≡ b
    and_true true = refl
    and_true false = refl
below_child (x ∷ p) r s t = ap (λ (b : Bool). b && is_below (p ++ s ∷ []) (p ++ t ∷ r)) ((same_step x x).1 refl) ∙ below_child p r s t

-- of a list's steps those that are one step
sum_filter : (t : Step) (w : ℕ) (steps : List Step) → sum_by (λ s. cond (eq_by_cmp step_cmp s t) w 0) steps ≡ sum_by (λ (s : Step). w) (filter (eq_by_cmp step_cmp t) steps)
sum_filter t w [] = refl
sum_filter t w (s ∷ steps) =
    sum_by-cons (λ (u : Step). cond (eq_by_cmp step_cmp u t) w 0) s steps
    ∙ ap (λ (b : Bool). cond b w 0 + sum_by (λ u. cond (eq_by_cmp step_cmp u t) w 0) steps) turned
    ∙ by_test (eq_by_cmp step_cmp t s) (sum_filter t w steps)
  where
    turned : eq_by_cmp step_cmp s t ≡ eq_by_cmp step_cmp t s
    turned =
        same_test _ _ (λ e. (same_step t s).1 (sym ((same_step s t).0 e))) (λ e. (same_step s t).1 (sym ((same_step t s).0 e)))

    by_test : (b : Bool) → sum_by (λ u. cond (eq_by_cmp step_cmp u t) w 0) steps ≡ sum_by (λ (u : Step). w) (filter (eq_by_cmp step_cmp t) steps)
        → cond b w 0 + sum_by (λ u. cond (eq_by_cmp step_cmp u t) w 0) steps ≡ sum_by (λ (u : Step). w) (cond b (s ∷ filter (eq_by_cmp step_cmp t) steps) (filter (eq_by_cmp step_cmp t) steps))
    by_test true go = ap (λ (n : ℕ). w + n) go ∙ sym (sum_by-cons (λ (u : Step). w) s (filter (eq_by_cmp step_cmp t) steps))
    by_test false go = let z : 0 + sum_by (λ u. cond (eq_by_cmp step_cmp u t) w 0) steps ≡ sum_by (λ u. cond (eq_by_cmp step_cmp u t) w 0) steps = omega arith in z ∙ go

-- the entry of a key that is there
front_sorted : (a b : Bool) → T (a && b) → T a
front_sorted true b p = tt
front_sorted false b p = p

back_sorted : (a b : Bool) → T (a && b) → T b
back_sorted true b p = p
back_sorted false b p = absurd p

others_zero : (c : List Step) (w : Pair Value → ℕ) (es : List (Pair Value)) → AllByRecursion (λ y. eq_by_cmp path_cmp c y ≡ false) (each (λ (e : Pair Value). e.0) es)
    → sum_by (λ (e : Pair Value). cond (eq_by_cmp path_cmp c e.0) (w e) 0) es ≡ 0
others_zero c w [] h = refl
others_zero c w (e ∷ es) h =
    sum_by-cons (λ (x : Pair Value). cond (eq_by_cmp path_cmp c x.0) (w x) 0) e es
    ∙ ap (λ (b : Bool). cond b (w e) 0 + sum_by (λ (x : Pair Value). cond (eq_by_cmp path_cmp c x.0) (w x) 0) es) h.0
    ∙ ap (λ (n : ℕ). 0 + n) (others_zero c w es h.1)

one_entry : (c : List Step) (v : Value) (w : Pair Value → ℕ) (es : List (Pair Value)) → T (is_sorted path_cmp es) → find path_cmp c es ≡ Some v
    → sum_by (λ (e : Pair Value). cond (eq_by_cmp path_cmp c e.0) (w e) 0) es ≡ w (c, v)
one_entry c v w [] sorted found = cc
one_entry c v w (e ∷ es) sorted found =
    sum_by-cons (λ (x : Pair Value). cond (eq_by_cmp path_cmp c x.0) (w x) 0) e es
    ∙ by_test (eq_by_cmp path_cmp c e.0) refl found (one_entry c v w es (back_sorted _ _ sorted))
  where
    by_test : (b : Bool) → eq_by_cmp path_cmp c e.0 ≡ b → cond b (Some e.1) (find path_cmp c es) ≡ Some v
        → (find path_cmp c es ≡ Some v → sum_by (λ (x : Pair Value). cond (eq_by_cmp path_cmp c x.0) (w x) 0) es ≡ w (c, v))
        → cond b (w e) 0 + sum_by (λ (x : Pair Value). cond (eq_by_cmp path_cmp c x.0) (w x) 0) es ≡ w (c, v)
    by_test true same f go =
        let is_c = (same_path c e.0).0 same
        in let is_v : e.1 ≡ v = cc
        in let none = others_zero c w es (subst (λ (k : List Step). AllByRecursion (λ y. eq_by_cmp path_cmp k y ≡ false) (each (λ (x : Pair Value). x.0) es)) (sym is_c) (below_apart e.0 es (front_sorted _ _ sorted)))
        in ap (λ (n : ℕ). w e + n) none ∙ more (w e) ∙ ap (λ (k : List Step). w (k, e.1)) (sym is_c) ∙ ap (λ (u : Value). w (c, u)) is_v
      where
        more : (n : ℕ) → n + 0 ≡ n
        more n = omega arith
    by_test false other f go = let z : 0 + sum_by (λ (x : Pair Value). cond (eq_by_cmp path_cmp c x.0) (w x) 0) es ≡ sum_by (λ (x : Pair Value). cond (eq_by_cmp path_cmp c x.0) (w x) 0) es = omega arith in z ∙ go f

-- each key is among the keys
keys_listed : (ks : List (List Step)) → AllByRecursion (λ k. list_any (eq_by_cmp path_cmp k) ks ≡ true) ks
keys_listed [] = tt
keys_listed (k ∷ ks) = (
  ap (λ (b : Bool). b || list_any (eq_by_cmp path_cmp k) ks) ((same_path k k).1 refl),
  weaker (λ (q : List Step). list_any (eq_by_cmp path_cmp q) ks ≡ true) (λ (q : List Step). list_any (eq_by_cmp path_cmp q) (k ∷ ks) ≡ true) ks
      (λ q h. ap (λ (b : Bool). eq_by_cmp path_cmp q k || b) h ∙ or_true (eq_by_cmp path_cmp q k)) (keys_listed ks),
)
  where
    or_true : (b : Bool) → (b || true) ≡ true
    or_true true = refl
    or_true false = refl

of_keys : (P : List Step → Type 0) (es : List (Pair Value)) → AllByRecursion P (each (λ (e : Pair Value). e.0) es) → AllByRecursion (λ (e : Pair Value). P e.0) es
of_keys P [] h = tt
of_keys P (e ∷ es) h = (h.0, of_keys P es h.1)

module _ (m : Statements) (tree : IsTree m) where
  entries_there : AllByRecursion (λ (e : Pair Value). is_some (map.get m e.0) ≡ true) (map.entries m)
  entries_there =
      of_keys (λ (q : List Step). is_some (map.get m q) ≡ true) (map.entries m)
      (weaker (λ (q : List Step). list_any (eq_by_cmp path_cmp q) (map.keys m) ≡ true) (λ (q : List Step). is_some (map.get m q) ≡ true) (map.keys m)
      (λ q h. map.contains_key-keys m q ∙ h) (keys_listed (map.keys m)))

  -- the bytes of all inside a path, and of all at it and inside
  abbrev inside_len : List Step → ℕ
  inside_len p = sum_by (λ (e : Pair Value). cond (is_inside p e.0) (entry_len m e) 0) (map.entries m)

  abbrev below_len : List Step → ℕ
  below_len c = sum_by (λ (e : Pair Value). cond (is_below c e.0) (entry_len m e) 0) (map.entries m)

  below_is : (c : List Step) (v : Value) → map.get m c ≡ Some v → below_len c ≡ entry_len m (c, v) + inside_len c
  below_is c v found =
      sum_same (λ (e : Pair Value). cond (is_below c e.0) (entry_len m e) 0)
      (λ (e : Pair Value). cond (eq_by_cmp path_cmp c e.0) (entry_len m e) 0 + cond (is_inside c e.0) (entry_len m e) 0) (map.entries m)
      (each_of (λ (e : Pair Value). cond (is_below c e.0) (entry_len m e) 0 ≡ cond (eq_by_cmp path_cmp c e.0) (entry_len m e) 0 + cond (is_inside c e.0) (entry_len m e) 0) (map.entries m)
      (λ e. below_parts c e.0 (entry_len m e)))
      ∙ sum_both (λ (e : Pair Value). cond (eq_by_cmp path_cmp c e.0) (entry_len m e) 0) (λ (e : Pair Value). cond (is_inside c e.0) (entry_len m e) 0) (map.entries m)
      ∙ ap (λ (n : ℕ). n + inside_len c) (one_entry c v (entry_len m) (map.entries m) (map.entries_sorted m) (sym (map.get-entries m c) ∙ found))

  -- the child that a statement is below
  pub child_above : (p r : List Step) (t : Step) → is_some (map.get m (p ++ t ∷ r)) ≡ true → is_some (map.get m (p ++ t ∷ [])) ≡ true
  child_above p r t there = by_value (map.get m (p ++ t ∷ [])) refl
    where
      by_value : (o : Option Value) → map.get m (p ++ t ∷ []) ≡ o → is_some o ≡ true
      by_value (Some v) f = refl
      by_value None f =
          let gone = ap is_some (none_below m r (p ++ t ∷ []) tree.statements (omega (arith, child_longer p t)) f)
          in let along = ap (λ (x : List Step). is_some (map.get m x)) (append_assoc p (t ∷ []) r)
          in cc

  -- a statement inside a path is below one child of it
  one_child_above : (p q : List Step) (w : ℕ) → is_some (map.get m q) ≡ true
      → sum_by (λ (s : Step). cond (is_below (p ++ s ∷ []) q) w 0) (children_of m p) ≡ cond (is_inside p q) w 0
  one_child_above p q w there = by_below (is_below p q) refl
    where
      none : ((s : Step) → is_below (p ++ s ∷ []) q ≡ false) → sum_by (λ (s : Step). cond (is_below (p ++ s ∷ []) q) w 0) (children_of m p) ≡ 0
      none h =
          sum_same (λ (s : Step). cond (is_below (p ++ s ∷ []) q) w 0) (λ (s : Step). 0) (children_of m p)
          (each_of (λ (s : Step). cond (is_below (p ++ s ∷ []) q) w 0 ≡ 0) (children_of m p) (λ s. ap (λ (b : Bool). cond b w 0) (h s)))
          ∙ sum_none (children_of m p)

      not_up : (s : Step) (b : Bool) → is_below (p ++ s ∷ []) q ≡ b → is_below p q ≡ false → b ≡ false
      not_up s true e f = let up = below_up p q s e in cc
      not_up s false e f = refl

      by_rest : (rest : List Step) → q ≡ p ++ rest → sum_by (λ (s : Step). cond (is_below (p ++ s ∷ []) q) w 0) (children_of m p) ≡ cond (nat_lt (length p) (length q)) w 0
      by_rest [] e =
          let same = e ∙ append-nil p
          in none (λ s. ap (λ (x : List Step). is_below (p ++ s ∷ []) x) same ∙ parent_apart p s)
          ∙ sym (ap (λ (b : Bool). cond b w 0) (lt_not (length p) (length q) (omega (arith, ap (λ (x : List Step). length x) same))))
      by_rest (t ∷ r) e =
          sum_same (λ (s : Step). cond (is_below (p ++ s ∷ []) q) w 0) (λ (s : Step). cond (eq_by_cmp step_cmp s t) w 0) (children_of m p)
          (each_of (λ (s : Step). cond (is_below (p ++ s ∷ []) q) w 0 ≡ cond (eq_by_cmp step_cmp s t) w 0) (children_of m p)
          (λ s. ap (λ (b : Bool). cond b w 0) (ap (λ (x : List Step). is_below (p ++ s ∷ []) x) e ∙ below_child p r s t)))
          ∙ sum_filter t w (children_of m p)
          ∙ ap (λ (ss : List Step). sum_by (λ (s : Step). w) ss) (children_once m p t tree ∙ ap (λ (b : Bool). step_if b t) (child_above p r t (ap (λ (x : List Step). is_some (map.get m x)) (sym e) ∙ there)))
          ∙ one
          ∙ sym (ap (λ (b : Bool). cond b w 0) (lt_is (length p) (length q) (omega (arith, ap (λ (x : List Step). length x) e, length-append p (t ∷ r)))))
        where
          one : sum_by (λ (s : Step). w) (t ∷ []) ≡ w
          one = sum_by-cons (λ (s : Step). w) t [] ∙ plain w
            where
              plain : (n : ℕ) → n + 0 ≡ n
              plain n = omega arith

      by_below : (b : Bool) → is_below p q ≡ b → sum_by (λ (s : Step). cond (is_below (p ++ s ∷ []) q) w 0) (children_of m p) ≡ cond (b && nat_lt (length p) (length q)) w 0
      by_below false e = none (λ s. not_up s _ refl e)
      by_below true e = let rest = below_rest p q e in by_rest rest.0 rest.1

  -- so all inside a path is all below its children
  inside_is : (p : List Step) → sum_by (λ (s : Step). below_len (p ++ s ∷ [])) (children_of m p) ≡ inside_len p
  inside_is p =
      sum_swapped (λ (s : Step) (e : Pair Value). cond (is_below (p ++ s ∷ []) e.0) (entry_len m e) 0) (children_of m p) (map.entries m)
      ∙ sum_same (λ (e : Pair Value). sum_by (λ (s : Step). cond (is_below (p ++ s ∷ []) e.0) (entry_len m e) 0) (children_of m p)) (λ (e : Pair Value). cond (is_inside p e.0) (entry_len m e) 0) (map.entries m)
      (weaker (λ (e : Pair Value). is_some (map.get m e.0) ≡ true)
      (λ (e : Pair Value). sum_by (λ (s : Step). cond (is_below (p ++ s ∷ []) e.0) (entry_len m e) 0) (children_of m p) ≡ cond (is_inside p e.0) (entry_len m e) 0) (map.entries m)
      (λ e there. one_child_above p e.0 (entry_len m e) there) entries_there)

  -- the length of a statement's text
  ended_length : (indent : ℕ) (body : List ℕ) (b : Bool) → nat_lt 0 (length body) ≡ b → length (ended indent body) ≡ cond b (indent + 5) 2 + length body
  ended_length indent [] true e = cc
  ended_length indent [] false e = refl
  ended_length indent (byte ∷ body) false e = let few = not_lt_told 0 (length (byte ∷ body)) e in absurd (omega (arith, few))
  ended_length indent (byte ∷ body) true e =
      omega (arith, length-append (byte ∷ body) (spaces indent ++ codes "}\n"), length-append (spaces indent) (codes "}\n"), length-replicate {A = ℕ} indent 32)

  own_is : (b : Bool) (p : List Step) (s : Step) (v : Value) → own_len b (p ++ s ∷ []) v ≡ 4 * length p + (length (line_of s v) + cond b (4 * length p + 5) 2)
  own_is true p s v =
      ap (λ (t : Step). indent_of (p ++ s ∷ []) + (length (line_of t v) + (indent_of (p ++ s ∷ []) + 5))) (parent_child p s).1
      ∙ ap (λ (n : ℕ). 4 * (n - 1) + (length (line_of s v) + (4 * (n - 1) + 5))) (child_longer p s)
      ∙ ap (λ (n : ℕ). 4 * n + (length (line_of s v) + (4 * n + 5))) (less (length p))
    where
      less : (n : ℕ) → n + 1 - 1 ≡ n
      less n = omega arith
  own_is false p s v =
      ap (λ (t : Step). indent_of (p ++ s ∷ []) + (length (line_of t v) + 2)) (parent_child p s).1
      ∙ ap (λ (n : ℕ). 4 * (n - 1) + (length (line_of s v) + 2)) (child_longer p s)
      ∙ ap (λ (n : ℕ). 4 * n + (length (line_of s v) + 2)) (less (length p))
    where
      less : (n : ℕ) → n + 1 - 1 ≡ n
      less n = omega arith

  statement_length : (p : List Step) (s : Step) (v : Value) (body : List ℕ) (b : Bool) → nat_lt 0 (length body) ≡ b
      → length (statement_text (4 * length p) s (Some v) body) ≡ own_len b (p ++ s ∷ []) v + length body
  statement_length p s v body b e =
      let own = own_is b p s v
      in omega (
        arith,
        own,
        ended_length (4 * length p) body b e,
        length-append (spaces (4 * length p)) (line_of s v ++ ended (4 * length p) body),
        length-append (line_of s v) (ended (4 * length p) body),
        length-replicate {A = ℕ} (4 * length p) 32,
      )

  -- what stands in a statement that holds others isn't empty
  body_holds : (levels : ℕ) (c : List Step) (indent : ℕ) → 10 ≤ levels + length c → nat_lt 0 (length (text_below levels m c indent)) ≡ holds m c
  unfolding text_below
  body_holds zero c indent deep = ap (λ (steps : List Step). nat_lt 0 (length steps)) (sym (no_deeper m tree c (omega (arith, deep))))
  body_holds (suc levels) c indent deep = by_holds (holds m c) refl
    where
      by_holds : (b : Bool) → holds m c ≡ b → nat_lt 0 (length (flat_map (child_text levels m c indent) (children_of m c))) ≡ b
      by_holds true e =
          lt_is 0 _ (some_printed levels m c (children_of m c) indent (λ s. children_once m c s tree) (lt_told 0 (length (children_of m c)) e))
      by_holds false e =
          let none = no_steps (children_of m c) (not_lt_told 0 (length (children_of m c)) e)
          in ap (λ (steps : List Step). nat_lt 0 (length (flat_map (child_text levels m c indent) steps))) none
        where
          no_steps : (steps : List Step) → length steps ≤ 0 → steps ≡ []
          no_steps [] h = refl
          no_steps (s ∷ steps) h = absurd (omega (arith, h))

  abbrev HasLength : ℕ → List Step → Type 0
  HasLength levels p = length (text_below levels m p (4 * length p)) ≡ inside_len p

  child_length : (levels : ℕ) (p : List Step) (s : Step) (o : Option Value) → 10 ≤ suc levels + length p → map.get m (p ++ s ∷ []) ≡ o → is_some o ≡ true
      → HasLength levels (p ++ s ∷ [])
      → length (statement_text (4 * length p) s o (text_below levels m (p ++ s ∷ []) (4 * length p + 4))) ≡ below_len (p ++ s ∷ [])
  child_length levels p s None deep found there more = cc
  child_length levels p s (Some v) deep found there more =
      let longer : 4 * length p + 4 ≡ 4 * length (p ++ s ∷ []) = omega (arith, child_longer p s)
      in let body = ap (λ (n : ℕ). length (text_below levels m (p ++ s ∷ []) n)) longer ∙ more
      in let held = body_holds levels (p ++ s ∷ []) (4 * length p + 4) (omega (arith, deep, child_longer p s))
      in statement_length p s v (text_below levels m (p ++ s ∷ []) (4 * length p + 4)) _ held
      ∙ ap (λ (n : ℕ). entry_len m (p ++ s ∷ [], v) + n) body
      ∙ sym (below_is (p ++ s ∷ []) v found)

  shallow_there : (q : List Step) → is_some (map.get m q) ≡ true → length q ≤ 9
  shallow_there q there = let place = typed_place q top_place (tree.typed.paths q there) in (path_most q place.0 place.1).2

  nothing_inside : (p : List Step) → 10 ≤ length p → 0 ≡ inside_len p
  nothing_inside p deep =
      sym (sum_same (λ (e : Pair Value). cond (is_inside p e.0) (entry_len m e) 0) (λ (e : Pair Value). 0) (map.entries m)
      (weaker (λ (e : Pair Value). is_some (map.get m e.0) ≡ true) (λ (e : Pair Value). cond (is_inside p e.0) (entry_len m e) 0 ≡ 0) (map.entries m)
      (λ e there.
      let few = shallow_there e.0 there
      in ap (λ (b : Bool). cond (is_below p e.0 && b) (entry_len m e) 0) (lt_not (length p) (length e.0) (omega (arith, few, deep))) ∙ shut (is_below p e.0) (entry_len m e))
      entries_there)
      ∙ sum_none (map.entries m))
    where
      shut : (b : Bool) (w : ℕ) → cond (b && false) w 0 ≡ 0
      shut true w = refl
      shut false w = refl

  has_length : (levels : ℕ) (p : List Step) → 10 ≤ levels + length p → HasLength levels p
  unfolding text_below
  has_length zero p deep = nothing_inside p (omega (arith, deep))
  has_length (suc levels) p deep =
      length-flat_map (child_text levels m p (4 * length p)) (children_of m p)
      ∙ sum_same (λ (s : Step). length (child_text levels m p (4 * length p) s)) (λ (s : Step). below_len (p ++ s ∷ [])) (children_of m p)
      (listed_steps (λ (s : Step). length (child_text levels m p (4 * length p) s) ≡ below_len (p ++ s ∷ [])) (children_of m p)
      (λ s l. child_length levels p s _ deep refl (child_there m tree p s l) (has_length levels (p ++ s ∷ []) (omega (arith, deep, child_longer p s)))))
      ∙ inside_is p

  all_inside : inside_len [] ≡ sum_by (entry_len m) (map.entries m)
  all_inside =
      sum_same (λ (e : Pair Value). cond (is_inside [] e.0) (entry_len m e) 0) (entry_len m) (map.entries m)
      (weaker (λ (e : Pair Value). is_some (map.get m e.0) ≡ true) (λ (e : Pair Value). cond (is_inside [] e.0) (entry_len m e) 0 ≡ entry_len m e) (map.entries m)
      (λ e there. ap (λ (b : Bool). cond b (entry_len m e) 0) (lt_is 0 (length e.0) (tree.statements.parents e.0 there).steps)) entries_there)

  -- the printed text is as long as its statements
  pub length-printed : length (printed m []) ≡ sum_by (entry_len m) (map.entries m)
  length-printed = ap (λ (bytes : List ℕ). length bytes) (sym (top_text m)) ∙ has_length MAX_STEPS [] (omega arith) ∙ all_inside
