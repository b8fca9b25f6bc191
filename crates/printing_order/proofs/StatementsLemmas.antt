-- The statements inside a path, and inside each of them.
use Rattle.std.proofs.Common.{◌≡◌, ℕ, ◌+◌, ◌<◌, arith, nat_lt, Bool, true, false, cond, T, ◌&&◌, ◌⊎◌, inl, inr, List, [], ◌∷◌, ◌++◌, length, filter, take, drop, get_or, suc, Some, None, is_some, refl, sym, ap, subst, ◌∙◌, append-nil, length-append}
use Rattle.std.proofs.Math.Seq.{split_at}
use Rattle.std.specs.Prelude.{IsSome}
use Rattle.std.specs.FinMap as map
use Rattle.std.specs.FinMap.Entries.{find, find-where_key, is_sorted, is_sorted-where_key}
use Rattle.std.specs.List.{AllByRecursion, prefix_len}
use Rattle.std.specs.Map.{keys_of}
use Rattle.std.specs.Ordering.{eq_by_cmp, is_eq, is_le, ordering_reverse}
use Rattle.std.specs.declared.cmp.Ordering.{Ordering}
use Rattle.std.specs.declared.cmp.Ordering.TheVariants.{Less, Equal, Greater}
use Rattle.cfg_base.specs.Order.{path_cmp, step_cmp, paths_total}
use Rattle.cfg_base.specs.declared.path.Step.{Step}
use Rattle.cfg_base.specs.declared.value.Value.{Value}
use Rattle.cfg_entries.specs.EntryMap.{Pair}
use Rattle.cfg_schema.proofs.TestLemmas.{both, both_true}
use Rattle.cfg_tree.specs.Statements.{Statements, is_below, last_of, parent_of}
use Rattle.cfg_tree.specs.Tree.{IsTree}
use Rattle.cfg_tree.proofs.BelowLemmas.{none_later, below_between, below_first, below_le, below_more, below_self}
use Rattle.cfg_tree.proofs.MapLemmas.{same_path, same_step}
use Rattle.cfg_tree.proofs.OnceLemmas.{below_rest}
use Rattle.cfg_tree.proofs.PathLemmas.{child_longer, split}
use Rattle.cfg_tree.specs.Children.{is_inside}
use Rattle.printing_order.specs.Inside.{front_inside, statements_inside}
use Rattle.printing_order.proofs.EntriesLemmas.{head_of, tail_of, later, found_all, inside_part, none_passes}
use Rattle.printing_order.proofs.FollowedLemmas.{itself, not_both, all_in, by_first, back_sorted, found_behind, later_found}
use Rattle.printing_order.proofs.FollowedLemmas.{child_after}
use Rattle.printing_order.proofs.NumberLemmas.{lt_is, lt_not, lt_told}

-- what passes a test passes a weaker one before it
pub twice : {X : Type 0} (p q : X → Bool) → ((x : X) → q x ≡ true → p x ≡ true) → (xs : List X) → filter q (filter p xs) ≡ filter q xs
twice p q h [] = refl
twice {X} p q h (x ∷ xs) = by_tests (p x) (q x) refl refl (twice p q h xs)
  where
    by_tests : (a b : Bool) → p x ≡ a → q x ≡ b → filter q (filter p xs) ≡ filter q xs
        → filter q (cond a (x ∷ filter p xs) (filter p xs)) ≡ cond b (x ∷ filter q xs) (filter q xs)
    by_tests true b f g go =
        ap (λ (c : Bool). cond c (x ∷ filter q (filter p xs)) (filter q (filter p xs))) g ∙ ap (λ (ys : List X). cond b (x ∷ ys) ys) go
    by_tests false true f g go = let passed = h x g in cc
    by_tests false false f g go = go

below_below : (a b c : List Step) → is_below a b ≡ true → is_below b c ≡ true → is_below a c ≡ true
below_below [] b c h k = refl
below_below (s ∷ a) [] c h k = cc
below_below (s ∷ a) (t ∷ b) [] h k = cc
below_below (s ∷ a) (t ∷ b) (u ∷ c) h k =
    let one = both (eq_by_cmp step_cmp s t) _ h
    in let two = both (eq_by_cmp step_cmp t u) _ k
    in both_true _ _ ((same_step s u).1 ((same_step s t).0 one.0 ∙ (same_step t u).0 two.0)) (below_below a b c one.1 two.1)

-- what is inside a path that is inside another one is inside that
pub inside_inside : (a b c : List Step) → is_inside a b ≡ true → is_inside b c ≡ true → is_inside a c ≡ true
inside_inside a b c h k =
    let one = both (is_below a b) _ h
    in let two = both (is_below b c) _ k
    in let shorter = lt_told (length a) (length b) one.1
    in let longer = lt_told (length b) (length c) two.1
    in both_true _ _ (below_below a b c one.0 two.0) (lt_is (length a) (length c) (omega (arith, shorter, longer)))

-- what stands before a path isn't inside it, and neither is the path
before_apart : (e g : List Step) → path_cmp g e ≡ Less → is_inside e g ≡ false
before_apart e g before = inside_part e g (by_test (is_below e g) refl)
  where
    by_test : (b : Bool) → is_below e g ≡ b → is_below e g ≡ false
    by_test true f =
        let turned = paths_total.antisymm e g ∙ ap ordering_reverse before in let clash = sym (ap is_le turned) ∙ below_le e g f in cc
    by_test false f = f

self_apart : (e : List Step) → is_inside e e ≡ false
self_apart e = both_false (is_below e e) (nat_lt (length e) (length e)) (lt_not (length e) (length e) (omega arith))
  where
    both_false : (a b : Bool) → b ≡ false → (a && b) ≡ false
    both_false true b f = f
    both_false false b f = refl

-- what is below a path and after it is inside
pub behind_inside : (e x : List Step) → path_cmp e x ≡ Less → is_below e x ≡ true → is_inside e x ≡ true
behind_inside e x behind below = let rest = below_rest e x below in by_rest rest.0 rest.1
  where
    by_rest : (rest : List Step) → x ≡ e ++ rest → is_inside e x ≡ true
    by_rest [] f = absurd (itself e (ap (λ (y : List Step). path_cmp e y) (sym (f ∙ append-nil e)) ∙ behind))
    by_rest (s ∷ rest) f =
        let long = ap (λ (ss : List Step). length ss) f
        in both_true _ _ below (lt_is (length e) (length x) (omega (arith, long, length-append e (s ∷ rest))))

-- of the statements after a path those up to the first that isn't below it
abbrev front_below : List Step → List (Pair Value) → List (Pair Value)
front_below path behind = take (prefix_len (λ e. is_below path e.0) behind) behind

-- of statements in order after a path those inside it are the front
behind_is : (e : List Step) (rest : List (Pair Value)) → T (is_sorted path_cmp rest) → AllByRecursion (λ j. path_cmp e j ≡ Less) (keys_of rest)
    → filter (λ x. is_inside e x.0) rest ≡ front_below e rest
behind_is e [] sorted behind = refl
behind_is e (x ∷ rest) sorted behind = by_test (is_below e x.0) refl (behind_is e rest (tail_of _ _ sorted) behind.1)
  where
    inner : List (Pair Value)
    inner = filter (λ (y : Pair Value). is_inside e y.0) rest

    count : ℕ
    count = prefix_len (λ (y : Pair Value). is_below e y.0) rest

    one_more : suc count ≡ 1 + count
    one_more = omega arith

    by_test : (b : Bool) → is_below e x.0 ≡ b → filter (λ y. is_inside e y.0) rest ≡ front_below e rest
        → filter (λ y. is_inside e y.0) (x ∷ rest) ≡ front_below e (x ∷ rest)
    by_test true f go =
        ap (λ (c : Bool). cond c (x ∷ inner) inner) (behind_inside e x.0 behind.0 f)
        ∙ ap (λ (ys : List (Pair Value)). x ∷ ys) go
        ∙ ap (λ (n : ℕ). take n (x ∷ rest)) one_more
        ∙ ap (λ (c : Bool). take (cond c (1 + count) 0) (x ∷ rest)) (sym f)
    by_test false f go =
        ap (λ (c : Bool). cond c (x ∷ inner) inner) (inside_part e x.0 f)
        ∙ none_passes e (is_inside e) (inside_part e) rest
        (none_later e x.0 (keys_of rest) (ap is_le behind.0) f (later x.0 rest (head_of _ _ sorted)))
        ∙ ap (λ (c : Bool). take (cond c (1 + count) 0) (x ∷ rest)) (sym f)

-- of entries in order those inside one of them stand after it
pub only_behind : {V : Type 0} (front rest : List (Pair V)) (e : Pair V) → T (is_sorted path_cmp (front ++ e ∷ rest))
    → filter (λ x. is_inside e.0 x.0) (front ++ e ∷ rest) ≡ filter (λ x. is_inside e.0 x.0) rest
only_behind {V} [] rest e sorted =
    ap (λ (c : Bool). cond c (e ∷ filter (λ (x : Pair V). is_inside e.0 x.0) rest) (filter (λ (x : Pair V). is_inside e.0 x.0) rest)) (self_apart e.0)
only_behind {V} (g ∷ front) rest e sorted =
    ap
    (λ (c : Bool). cond c (g ∷ filter (λ (x : Pair V). is_inside e.0 x.0) (front ++ e ∷ rest)) (filter (λ (x : Pair V). is_inside e.0 x.0) (front ++ e ∷ rest)))
    (before_apart e.0 g.0 (all_in g.0 front rest e (head_of _ _ sorted)))
    ∙ only_behind front rest e (tail_of _ _ sorted)

-- of statements in order those inside one of them stand right after it
right_behind : (front rest : List (Pair Value)) (e : Pair Value) → T (is_sorted path_cmp (front ++ e ∷ rest))
    → filter (λ x. is_inside e.0 x.0) (front ++ e ∷ rest) ≡ front_below e.0 rest
right_behind front rest e sorted =
    let here = back_sorted front (e ∷ rest) sorted
    in only_behind front rest e sorted ∙ behind_is e.0 rest (tail_of _ _ here) (later e.0 rest (head_of _ _ here))

-- what is kept of a list, and of the end of a list
pub kept_pass : {X : Type 0} (P : X → Type 0) (p : X → Bool) (xs : List X) → AllByRecursion P xs → AllByRecursion (λ x. (p x ≡ true) × P x) (filter p xs)
kept_pass P p [] all = tt
kept_pass {X} P p (x ∷ xs) all = by_test (p x) refl (kept_pass P p xs all.1)
  where
    by_test : (b : Bool) → p x ≡ b → AllByRecursion (λ y. (p y ≡ true) × P y) (filter p xs)
        → AllByRecursion (λ y. (p y ≡ true) × P y) (cond b (x ∷ filter p xs) (filter p xs))
    by_test true e go = ((e, all.0), go)
    by_test false e go = go

end_pass : {X : Type 0} (P : X → Type 0) (front rest : List X) → AllByRecursion P (front ++ rest) → AllByRecursion P rest
end_pass P [] rest all = all
end_pass P (x ∷ front) rest all = end_pass P front rest all.1

module _ (m : Statements) (tree : IsTree m) (path : List Step) (front behind : List (Pair Value)) (e : Pair Value) (are : statements_inside m path ≡ front ++ e ∷ behind) where
  sorted : T (is_sorted path_cmp (front ++ e ∷ behind))
  sorted =
      subst (λ (xs : List (Pair Value)). T (is_sorted path_cmp xs)) are
      (is_sorted-where_key path_cmp (is_inside path) (map.entries m) (map.entries_sorted m))

  -- what is there inside the path is found among its statements
  found_in : (q : List Step) → is_inside path q ≡ true → IsSome (map.get m q) → IsSome (find path_cmp q (front ++ e ∷ behind))
  found_in q inside there =
      subst (λ (xs : List (Pair Value)). IsSome (find path_cmp q xs)) are
      (subst IsSome
      (sym
      (find-where_key path_cmp (is_inside path) q (λ x same. ap (is_inside path) (sym ((same_path q x).0 (ap is_eq same)))) (map.entries m)
      ∙ ap (λ (b : Bool). cond b (find path_cmp q (map.entries m)) None) inside
      ∙ sym (map.get-entries m q)))
      there)

  -- what stands after the statement and is there, inside the path, is below it or is left
  abbrev IsKnown : List (Pair Value) → Type 0
  IsKnown rest =
      (q : List Step) → is_inside path q ≡ true → IsSome (map.get m q) → path_cmp e.0 q ≡ Less
      → (is_below e.0 q ≡ true) ⊎ IsSome (find path_cmp q rest)

  -- a longer statement is below it, where all before that are
  longer_below : (x : Pair Value) (rest : List (Pair Value)) → IsKnown (x ∷ rest) → T (is_sorted path_cmp (x ∷ rest)) → path_cmp e.0 x.0 ≡ Less
      → is_inside path e.0 ≡ true → is_inside path x.0 ≡ true → map.get m x.0 ≡ Some x.1 → length e.0 < length x.0 → is_below e.0 x.0 ≡ true
  longer_below x rest known in_order after inside_e inside_x there longer = by_order (path_cmp e.0 q) refl
    where
      q : List Step
      q = parent_of x.0

      short : length path < length e.0
      short = let parts = both (is_below path e.0) _ inside_e in lt_told (length path) (length e.0) parts.1

      whole : x.0 ≡ q ++ last_of x.0 ∷ []
      whole = split x.0 (omega (arith, longer))

      long : length x.0 ≡ length q + 1
      long = ap (λ (ss : List Step). length ss) whole ∙ child_longer q (last_of x.0)

      there_q : IsSome (map.get m q)
      there_q = (tree.statements.parents x.0 (ap is_some there)).parent (omega (arith, short, longer))

      before : path_cmp q x.0 ≡ Less
      before = subst (λ (k : List Step). path_cmp q k ≡ Less) (sym whole) (child_after q (last_of x.0))

      below_q : is_below path q ≡ true
      below_q = by_test (is_below path q) refl
        where
          by_test : (b : Bool) → is_below path q ≡ b → is_below path q ≡ true
          by_test true h = h
          by_test false h =
              let parts = both (is_below path x.0) _ inside_x
              in let same = below_first path q (last_of x.0) (subst (λ (k : List Step). is_below path k ≡ true) whole parts.0) h ∙ sym whole
              in absurd (omega (arith, ap (λ (ss : List Step). length ss) same, short, longer))

      inside_q : is_inside path q ≡ true
      inside_q = both_true _ _ below_q (lt_is (length path) (length q) (omega (arith, short, longer, long)))

      more : is_below e.0 q ≡ true → is_below e.0 x.0 ≡ true
      more h = subst (λ (k : List Step). is_below e.0 k ≡ true) (sym whole) (below_more e.0 q (last_of x.0) h)

      by_order : (o : Ordering) → path_cmp e.0 q ≡ o → is_below e.0 x.0 ≡ true
      by_order Less h =
          elim (known q inside_q there_q h) [
            | inl below ↦ more below
            | inr left ↦
                by_first x rest q (is_below e.0 x.0 ≡ true) left
                (λ same. absurd (itself x.0 (subst (λ (k : List Step). path_cmp k x.0 ≡ Less) same before)))
                (λ behind_x. absurd (not_both q x.0 before (later_found rest x.0 q (head_of _ _ in_order) behind_x)))
          ]
      by_order Equal h =
          let same = (same_path e.0 q).0 (ap is_eq h) in more (subst (λ (k : List Step). is_below e.0 k ≡ true) same (below_self e.0))
      by_order Greater h =
          let turned : path_cmp q e.0 ≡ Less = paths_total.antisymm q e.0 ∙ ap ordering_reverse h
          in let between = below_between q e.0 x.0 (ap is_le turned) after (subst (λ (k : List Step). is_below q k ≡ true) (sym whole) (below_more q q (last_of x.0) (below_self q)))
          in let parts = both (is_below q e.0) _ (behind_inside q e.0 turned between)
          in absurd (omega (arith, lt_told (length q) (length e.0) parts.1, long, longer))

  -- so the longer ones are those below it
  same_front : (rest : List (Pair Value)) → IsKnown rest → T (is_sorted path_cmp rest) → AllByRecursion (λ j. path_cmp e.0 j ≡ Less) (keys_of rest)
      → is_inside path e.0 ≡ true → AllByRecursion (λ x. (is_inside path x.0 ≡ true) × (map.get m x.0 ≡ Some x.1)) rest → front_inside e.0 rest ≡ front_below e.0 rest
  same_front [] known in_order after inside_e each = refl
  same_front (x ∷ rest) known in_order after inside_e each =
      by_tests (nat_lt (length e.0) (length x.0)) (is_below e.0 x.0) refl refl
      (λ below. same_front rest (λ q inside there later_q. passed below q (known q inside there later_q)) (tail_of _ _ in_order) after.1 inside_e each.1)
    where
      passed : is_below e.0 x.0 ≡ true → (q : List Step) → (is_below e.0 q ≡ true) ⊎ IsSome (find path_cmp q (x ∷ rest))
          → (is_below e.0 q ≡ true) ⊎ IsSome (find path_cmp q rest)
      passed below q (inl h) = inl h
      passed below q (inr h) =
          by_first x rest q ((is_below e.0 q ≡ true) ⊎ IsSome (find path_cmp q rest)) h
          (λ same. inl (subst (λ (k : List Step). is_below e.0 k ≡ true) (sym same) below)) (λ behind_x. inr behind_x)

      deep : ℕ
      deep = prefix_len (λ (y : Pair Value). nat_lt (length e.0) (length y.0)) rest

      count : ℕ
      count = prefix_len (λ (y : Pair Value). is_below e.0 y.0) rest

      one_more : (n : ℕ) → suc n ≡ 1 + n
      one_more n = omega arith

      by_tests : (d b : Bool) → nat_lt (length e.0) (length x.0) ≡ d → is_below e.0 x.0 ≡ b
          → (is_below e.0 x.0 ≡ true → front_inside e.0 rest ≡ front_below e.0 rest)
          → take (cond d (1 + deep) 0) (x ∷ rest) ≡ take (cond b (1 + count) 0) (x ∷ rest)
      by_tests true true h k go =
          ap (λ (n : ℕ). take n (x ∷ rest)) (sym (one_more deep))
          ∙ ap (λ (ys : List (Pair Value)). x ∷ ys) (go k)
          ∙ ap (λ (n : ℕ). take n (x ∷ rest)) (one_more count)
      by_tests false false h k go = refl
      by_tests true false h k go =
          let below = longer_below x rest known in_order after.0 inside_e each.0.0 each.0.1 (lt_told (length e.0) (length x.0) h) in cc
      by_tests false true h k go = let parts = both (is_below e.0 x.0) _ (behind_inside e.0 x.0 after.0 k) in cc

  -- of the statements inside a path those inside one of them stand right after it
  pub inside_each : front_inside e.0 behind ≡ statements_inside m e.0
  inside_each =
      same_front behind known_all (tail_of _ _ here) (later e.0 behind (head_of _ _ here)) inside_e each
      ∙ sym (right_behind front behind e sorted)
      ∙ ap (λ (xs : List (Pair Value)). filter (λ (x : Pair Value). is_inside e.0 x.0) xs) (sym are)
      ∙ twice (λ (x : Pair Value). is_inside path x.0) (λ (x : Pair Value). is_inside e.0 x.0)
      (λ x inner. inside_inside path e.0 x.0 inside_e inner) (map.entries m)
    where
      here : T (is_sorted path_cmp (e ∷ behind))
      here = back_sorted front (e ∷ behind) sorted

      all : AllByRecursion (λ (x : Pair Value). (is_inside path x.0 ≡ true) × (map.get m x.0 ≡ Some x.1)) (e ∷ behind)
      all =
          end_pass (λ (x : Pair Value). (is_inside path x.0 ≡ true) × (map.get m x.0 ≡ Some x.1)) front (e ∷ behind)
          (subst (AllByRecursion (λ (x : Pair Value). (is_inside path x.0 ≡ true) × (map.get m x.0 ≡ Some x.1))) are
          (kept_pass (λ (x : Pair Value). map.get m x.0 ≡ Some x.1) (λ (x : Pair Value). is_inside path x.0) (map.entries m) (found_all m)))

      inside_e : is_inside path e.0 ≡ true
      inside_e = all.0.0

      each : AllByRecursion (λ (x : Pair Value). (is_inside path x.0 ≡ true) × (map.get m x.0 ≡ Some x.1)) behind
      each = all.1

      known_all : IsKnown behind
      known_all q inside there after = inr (found_behind front behind e q sorted (found_in q inside there) after)

-- the same of the one at a place, and what stands after it
pub inside_at : (m : Statements) → IsTree m → (path : List Step) (inside behind : List (Pair Value)) (at : ℕ) (e : Pair Value) → inside ≡ statements_inside m path
    → at < length inside → e ≡ get_or inside at e → behind ≡ drop (at + 1) inside → front_inside e.0 behind ≡ statements_inside m e.0
inside_at m tree path inside behind at e are within is rest =
    inside_each m tree path (take at inside) behind e
    (sym are
    ∙ split_at inside at e within
    ∙ ap (λ (x : Pair Value). take at inside ++ x ∷ drop (suc at) inside) (sym is)
    ∙ ap (λ (n : ℕ). take at inside ++ e ∷ drop n inside) next
    ∙ ap (λ (xs : List (Pair Value)). take at inside ++ e ∷ xs) (sym rest))
  where
    next : suc at ≡ at + 1
    next = omega arith
