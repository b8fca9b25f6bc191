-- Two maps differ at a path or below it exactly where what stands there differs as a list.
use Rattle.std.proofs.Common.{◌≡◌, ◌≢◌, Bool, T, true, false, cond, not, ◌&&◌, List, [], ◌∷◌, filter, refl, sym, ap, subst, ◌∙◌, Some, None, Ordering, Less, Equal, Greater, is_le, is_eq}
use Rattle.std.specs.List.{AllByRecursion}
use Rattle.std.specs.Bool.{Decides}
use Rattle.std.specs.Ordering.{eq_by_cmp}
use Rattle.std.specs.FinMap as map
use Rattle.std.specs.FinMap.Entries.{find, is_sorted, below_all, is_sorted-where_key, find-where_key}
use Rattle.std.specs.Cmp.Lexicographic.{pointwise, pointwise_decides}
use Rattle.std.proofs.lemmas.Bool.Decides.{Decides-and, Decides-like}
use Rattle.cfg_base.specs.Order.{path_cmp}
use Rattle.cfg_base.specs.contracts.value.ValuePartialEq.TheImpl as value_order
use Rattle.cfg_base.specs.declared.path.Step.{Step}
use Rattle.cfg_base.specs.declared.value.Value.{Value}
use Rattle.cfg_entries.specs.EntryMap.{Pair, same_pair}
use Rattle.cfg_entries.proofs.OrderLemmas.{path_same, behind, itself}
use Rattle.cfg_entries.proofs.SharingLemmas.{same_value}
use Rattle.cfg_tree.specs.Statements.{Statements, is_below}
use Rattle.cfg_tree.proofs.MapLemmas.{same_path}
use Rattle.edit_ops.specs.Block.{DiffersBelow}
use Rattle.load_ops.specs.Parts.{front_below}
use Rattle.load_ops.proofs.OrderLemmas.{first, second, is_tied, find_none, below_more, front_is}

same_entry : (p q : Pair Value) → Decides (same_pair (value_order.ghosts).eq p q) (p ≡ q)
same_entry p q =
    Decides-like _
    (λ h i. (h.0 i, h.1 i))
    (λ e. (ap (λ (x : Pair Value). x.0) e, ap (λ (x : Pair Value). x.1) e))
    (Decides-and _ _ (same_path p.0 q.0) (same_value p.1 q.1))

same_some : (v w : Value) → Some v ≡ Some w → v ≡ w
same_some v w e = cc

some_none : (v : Value) → Some v ≡ None → ⊥
some_none v e = cc

-- a path that passes a test, at which two lists of entries give different things
record Apart (t : List Step → Bool) (xs ys : List (Pair Value)) : Type 0 where
  place : List Step
  passes : t place ≡ true
  differs : find path_cmp place xs ≢ find path_cmp place ys

own : (e : Pair Value) (es : List (Pair Value)) → find path_cmp e.0 (e ∷ es) ≡ Some e.1
own e es = ap (λ (o : Ordering). cond (is_eq o) (Some e.1) (find path_cmp e.0 es)) (itself e.0)

before : (p : List Step) (e : Pair Value) (es : List (Pair Value)) → path_cmp p e.0 ≡ Less → T (below_all path_cmp e.0 es) → find path_cmp p (e ∷ es) ≡ None
before p e es less h =
    ap (λ (o : Ordering). cond (is_eq o) (Some e.1) (find path_cmp p es)) less ∙ find_none p es (below_more p e.0 es less h)

module _ (t : List Step → Bool) where
  abbrev Pass : List (Pair Value) → Type 0
  Pass es = AllByRecursion (λ e. t e.0 ≡ true) es

  apart : (xs ys : List (Pair Value)) → T (is_sorted path_cmp xs) → T (is_sorted path_cmp ys) → Pass xs → Pass ys
      → pointwise (same_pair (value_order.ghosts).eq) xs ys ≡ false → Apart t xs ys
  apart [] [] h k a b e = cc
  apart [] (y ∷ ys) h k a b e = record {
    place = y.0;
    passes = b.0;
    differs = λ same. some_none y.1 (sym (same ∙ own y ys));
  }
  apart (x ∷ xs) [] h k a b e = record {
    place = x.0;
    passes = a.0;
    differs = λ same. some_none x.1 (sym (own x xs) ∙ same);
  }
  apart (x ∷ xs) (y ∷ ys) h k a b e = by_heads (same_pair (value_order.ghosts).eq x y) refl e (λ f. apart xs ys (second _ _ h) (second _ _ k) a.1 b.1 f)
    where
      lifted : x ≡ y → Apart t xs ys → Apart t (x ∷ xs) (y ∷ ys)
      lifted is rest = record {
        place = rest.place;
        passes = rest.passes;
        differs = subst (λ (d : Pair Value). find path_cmp rest.place (x ∷ xs) ≢ find path_cmp rest.place (d ∷ ys)) is (by_tie (eq_by_cmp path_cmp rest.place x.0) refl);
      }
        where
          ys_above : T (below_all path_cmp x.0 ys)
          ys_above = subst (λ (d : Pair Value). T (below_all path_cmp d.0 ys)) (sym is) (first _ _ k)

          by_tie : (c : Bool) → eq_by_cmp path_cmp rest.place x.0 ≡ c
              → cond c (Some x.1) (find path_cmp rest.place xs) ≢ cond c (Some x.1) (find path_cmp rest.place ys)
          by_tie false tie same = rest.differs same
          by_tie true tie same =
              let at = path_same rest.place x.0 (is_tied _ tie)
              in rest.differs (subst (λ (p : List Step). find path_cmp p xs ≡ find path_cmp p ys) (sym at)
              (find_none x.0 xs (first _ _ h) ∙ sym (find_none x.0 ys ys_above)))

      unlike : (x ≡ y → ⊥) → (o : Ordering) → path_cmp x.0 y.0 ≡ o → Apart t (x ∷ xs) (y ∷ ys)
      unlike differ Less f = record {
        place = x.0;
        passes = a.0;
        differs = λ same. some_none x.1 (sym (own x xs) ∙ same ∙ before x.0 y ys f (first _ _ k));
      }
      unlike differ Greater f = record {
        place = y.0;
        passes = b.0;
        differs = λ same. some_none y.1 (sym (own y ys) ∙ sym same ∙ before y.0 x xs (behind x.0 y.0 f) (first _ _ h));
      }
      unlike differ Equal f = record {
        place = x.0;
        passes = a.0;
        differs = λ same.
            let at = path_same x.0 y.0 f
            in let values = same_some x.1 y.1 (sym (own x xs) ∙ same ∙ ap (λ (p : List Step). find path_cmp p (y ∷ ys)) at ∙ own y ys)
            in differ (λ i. (at i, values i));
      }

      by_heads : (c : Bool) → same_pair (value_order.ghosts).eq x y ≡ c → (c && pointwise (same_pair (value_order.ghosts).eq) xs ys) ≡ false
          → (pointwise (same_pair (value_order.ghosts).eq) xs ys ≡ false → Apart t xs ys) → Apart t (x ∷ xs) (y ∷ ys)
      by_heads true same f go = lifted ((same_entry x y).0 same) (go f)
      by_heads false same f go = unlike (λ is. no_more same ((same_entry x y).1 is)) (path_cmp x.0 y.0) refl
        where
          no_more : same_pair (value_order.ghosts).eq x y ≡ false → same_pair (value_order.ghosts).eq x y ≡ true → ⊥
          no_more p q = cc

  pass : (es : List (Pair Value)) → Pass (filter (λ e. t e.0) es)
  pass [] = tt
  pass (e ∷ es) = by_test (t e.0) refl (pass es)
    where
      by_test : (c : Bool) → t e.0 ≡ c → Pass (filter (λ x. t x.0) es) → Pass (cond c (e ∷ filter (λ x. t x.0) es) (filter (λ x. t x.0) es))
      by_test true f rest = (f, rest)
      by_test false f rest = rest

module _ (m n : Statements) (path : List Step) where
  -- what stands at a path and below it
  abbrev own_part : Statements → List (Pair Value)
  own_part x = filter (λ e. is_below path e.0) (map.entries x)

  sorted_part : (x : Statements) → T (is_sorted path_cmp (own_part x))
  sorted_part x = is_sorted-where_key path_cmp (is_below path) (map.entries x) (map.entries_sorted x)

  -- gives what the map does
  found_part : (x : Statements) (q : List Step) → is_below path q ≡ true → find path_cmp q (own_part x) ≡ map.get x q
  found_part x q h =
      find-where_key path_cmp (is_below path) q (λ k tie. ap (is_below path) (sym (path_same q k tie))) (map.entries x)
      ∙ ap (λ (c : Bool). cond c (find path_cmp q (map.entries x)) None) h
      ∙ sym (map.get-entries x q)

  parts_decide : (r : Bool) → r ≡ pointwise (same_pair (value_order.ghosts).eq) (own_part m) (own_part n) → Decides (not r) (DiffersBelow m n path)
  parts_decide true e = (
    λ h. cc,
    λ d. absurd (d.differs
        (sym (found_part m d.place d.below)
        ∙ ap (λ (es : List (Pair Value)). find path_cmp d.place es)
        ((pointwise_decides same_entry (own_part m) (own_part n)).0 (sym e))
        ∙ found_part n d.place d.below)),
  )
  parts_decide false e = (
    λ h. of_apart (apart (is_below path) (own_part m) (own_part n) (sorted_part m) (sorted_part n)
        (pass (is_below path) (map.entries m)) (pass (is_below path) (map.entries n)) (sym e)),
    λ d. refl,
  )
    where
      of_apart : Apart (is_below path) (own_part m) (own_part n) → DiffersBelow m n path
      of_apart a = record {
        place = a.place;
        below = a.passes;
        differs = λ same. a.differs (found_part m a.place a.passes ∙ same ∙ sym (found_part n a.place a.passes));
      }

  pub fronts_decide : (one other : List (Pair Value)) (r : Bool) → one ≡ filter (λ e. is_le (path_cmp path e.0)) (map.entries m)
      → other ≡ filter (λ e. is_le (path_cmp path e.0)) (map.entries n)
      → r ≡ pointwise (same_pair (value_order.ghosts).eq) (front_below path one) (front_below path other) → Decides (not r) (DiffersBelow m n path)
  fronts_decide one other r a b e =
      parts_decide r
      (e
      ∙ ap (λ (xs : List (Pair Value)). pointwise (same_pair (value_order.ghosts).eq) xs (front_below path other))
      (ap (front_below path) a ∙ front_is path (map.entries m) (map.entries_sorted m))
      ∙ ap (λ (ys : List (Pair Value)). pointwise (same_pair (value_order.ghosts).eq) (own_part m) ys)
      (ap (front_below path) b ∙ front_is path (map.entries n) (map.entries_sorted n)))
