-- What follows a statement in a walk over a tree stands next to it in the order of paths.
use Rattle.std.proofs.Common.{◌≡◌, Bool, true, false, cond, T, ◌&&◌, List, [], ◌∷◌, ◌++◌, refl, sym, ap, subst, ◌∙◌, Some, is_some}
use Rattle.std.specs.Prelude.{IsSome}
use Rattle.std.specs.FinMap as map
use Rattle.std.specs.FinMap.Entries.{find, is_sorted, below_all}
use Rattle.std.specs.Ordering.{is_eq, is_le, is_lt, eq_by_cmp, ordering_reverse}
use Rattle.std.specs.declared.cmp.Ordering.{Ordering}
use Rattle.std.specs.declared.cmp.Ordering.TheVariants.{Less, Equal, Greater}
use Rattle.std.proofs.lemmas.List.{append_assoc}
use Rattle.cfg_base.specs.Order.{path_cmp, paths_total}
use Rattle.cfg_base.specs.declared.path.Step.{Step}
use Rattle.cfg_base.specs.declared.value.Value.{Value}
use Rattle.cfg_entries.specs.EntryMap.{Pair}
use Rattle.cfg_tree.specs.Statements.{Statements}
use Rattle.cfg_tree.specs.After.{IsNext, IsLast}
use Rattle.cfg_tree.proofs.BelowLemmas.{below_le, below_more, below_self}
use Rattle.cfg_tree.proofs.MapLemmas.{same_path, path_same}
use Rattle.cfg_tree.proofs.PathLemmas.{child_differs}

pub itself : (p : List Step) → path_cmp p p ≡ Less → ⊥
itself p e = let tie : is_eq (path_cmp p p) ≡ true = (same_path p p).1 refl in let c = sym tie ∙ ap is_eq e in cc

pub not_both : (p q : List Step) → path_cmp p q ≡ Less → path_cmp q p ≡ Less → ⊥
not_both p q e f = let turned = paths_total.antisymm q p ∙ ap ordering_reverse e in let c = sym turned ∙ f in cc

-- a child stands after its path
pub child_after : (p : List Step) (s : Step) → path_cmp p (p ++ s ∷ []) ≡ Less
child_after p s = by_order _ refl (below_le p (p ++ s ∷ []) (below_more p p s (below_self p)))
  where
    by_order : (o : Ordering) → path_cmp p (p ++ s ∷ []) ≡ o → is_le o ≡ true → o ≡ Less
    by_order Less e h = refl
    by_order Equal e h = absurd (child_differs p s (sym (path_same p (p ++ s ∷ []) e)))
    by_order Greater e h = cc

less : (o : Ordering) → T (is_lt o) → o ≡ Less
less Less h = refl
less Equal h = absurd h
less Greater h = absurd h

front_of : (a b : Bool) → T (a && b) → T a
front_of true b h = tt
front_of false b h = h

back_of : (a b : Bool) → T (a && b) → T b
back_of true b h = h
back_of false b h = absurd h

-- a path among entries is that of the first, or stands among the others
pub by_first : (e : Pair Value) (es : List (Pair Value)) (q : List Step) (P : Type 0) → IsSome (find path_cmp q (e ∷ es)) → (q ≡ e.0 → P) → (IsSome (find path_cmp q es) → P) → P
by_first e es q P there one more = by_test (eq_by_cmp path_cmp q e.0) refl there
  where
    by_test : (b : Bool) → eq_by_cmp path_cmp q e.0 ≡ b → IsSome (cond b (Some e.1) (find path_cmp q es)) → P
    by_test true k h = one ((same_path q e.0).0 k)
    by_test false k h = more h

pub later_found : (es : List (Pair Value)) (a q : List Step) → T (below_all path_cmp a es) → IsSome (find path_cmp q es) → path_cmp a q ≡ Less
later_found [] a q all there = cc
later_found (e ∷ es) a q all there =
    by_first e es q (path_cmp a q ≡ Less) there (λ same. subst (λ (x : List Step). path_cmp a x ≡ Less) (sym same) (less _ (front_of _ _ all)))
    (λ more. later_found es a q (back_of _ _ all) more)

-- a path before a list stands before each of it
pub all_in : {V : Type 0} (a : List Step) (front back : List (Pair V)) (e : Pair V) → T (below_all path_cmp a (front ++ e ∷ back)) → path_cmp a e.0 ≡ Less
all_in a [] back e all = less _ (front_of _ _ all)
all_in a (g ∷ front) back e all = all_in a front back e (back_of _ _ all)

-- among entries in order, what is after one of them stands after it
pub found_behind : (front back : List (Pair Value)) (e : Pair Value) (q : List Step) → T (is_sorted path_cmp (front ++ e ∷ back)) → IsSome (find path_cmp q (front ++ e ∷ back))
    → path_cmp e.0 q ≡ Less → IsSome (find path_cmp q back)
found_behind [] back e q sorted there after =
    by_first e back q (IsSome (find path_cmp q back)) there (λ same. absurd (itself e.0 (subst (λ (x : List Step). path_cmp e.0 x ≡ Less) same after))) (λ more. more)
found_behind (g ∷ front) back e q sorted there after =
    by_first g (front ++ e ∷ back) q (IsSome (find path_cmp q back)) there
    (λ same. absurd (not_both g.0 e.0 (all_in g.0 front back e (front_of _ _ sorted)) (subst (λ (x : List Step). path_cmp e.0 x ≡ Less) same after)))
    (λ more. found_behind front back e q (back_of _ _ sorted) more after)

pub back_sorted : {V : Type 0} (front back : List (Pair V)) → T (is_sorted path_cmp (front ++ back)) → T (is_sorted path_cmp back)
back_sorted [] back sorted = sorted
back_sorted (g ∷ front) back sorted = back_sorted front back (back_of _ _ sorted)

found_at : (front back : List (Pair Value)) (e : Pair Value) → T (is_sorted path_cmp (front ++ e ∷ back)) → find path_cmp e.0 (front ++ e ∷ back) ≡ Some e.1
found_at [] back e sorted = ap (λ (b : Bool). cond b (Some e.1) (find path_cmp e.0 back)) ((same_path e.0 e.0).1 refl)
found_at (g ∷ front) back e sorted =
    ap (λ (b : Bool). cond b (Some g.1) (find path_cmp e.0 (front ++ e ∷ back))) (apart (eq_by_cmp path_cmp e.0 g.0) refl) ∙ found_at front back e (back_of _ _ sorted)
  where
    apart : (b : Bool) → eq_by_cmp path_cmp e.0 g.0 ≡ b → eq_by_cmp path_cmp e.0 g.0 ≡ false
    apart true k =
        absurd (itself g.0 (subst (λ (x : List Step). path_cmp g.0 x ≡ Less) ((same_path e.0 g.0).0 k) (all_in g.0 front back e (front_of _ _ sorted))))
    apart false k = k

module _ (m : Statements) where
  sorted_as : (es : List (Pair Value)) → map.entries m ≡ es → T (is_sorted path_cmp es)
  sorted_as es are = subst (λ (xs : List (Pair Value)). T (is_sorted path_cmp xs)) are (map.entries_sorted m)

  found_as : (es : List (Pair Value)) (q : List Step) → map.entries m ≡ es → map.get m q ≡ find path_cmp q es
  found_as es q are = map.get-entries m q ∙ ap (λ (xs : List (Pair Value)). find path_cmp q xs) are

  -- the entry after another one is the next statement
  pub followed : (front rest : List (Pair Value)) (e f : Pair Value) → map.entries m ≡ front ++ e ∷ f ∷ rest → IsNext m e.0 f.0 f.1
  followed front rest e f are = record {
    found = found_as _ f.0 are ∙ ap (λ (xs : List (Pair Value)). find path_cmp f.0 xs) (sym (append_assoc front (e ∷ []) (f ∷ rest)))
        ∙ found_at (front ++ e ∷ []) rest f (subst (λ (xs : List (Pair Value)). T (is_sorted path_cmp xs)) (sym (append_assoc front (e ∷ []) (f ∷ rest))) (sorted_as _ are));
    after = later_found (f ∷ rest) e.0 f.0 (front_of _ _ here) (ap (λ (b : Bool). is_some (cond b (Some f.1) (find path_cmp f.0 rest))) ((same_path f.0 f.0).1 refl));
    first = λ q there after before.
        let back = found_behind front (f ∷ rest) e q (sorted_as _ are) (subst IsSome (found_as _ q are) there) after
        in by_first f rest q ⊥ back (λ same. itself f.0 (subst (λ (x : List Step). path_cmp x f.0 ≡ Less) same before))
        (λ more. not_both q f.0 before (later_found rest f.0 q (front_of _ _ (back_of _ _ here)) more));
  }
    where
      here : T (is_sorted path_cmp (e ∷ f ∷ rest))
      here = back_sorted front (e ∷ f ∷ rest) (sorted_as _ are)

  -- after the last entry there is no statement
  pub unfollowed : (front : List (Pair Value)) (e : Pair Value) → map.entries m ≡ front ++ e ∷ [] → IsLast m e.0
  unfollowed front e are q there after =
      let back = found_behind front [] e q (sorted_as _ are) (subst IsSome (found_as _ q are) there) after in cc
