-- The first entry in order that a test takes is the least.
use Rattle.std.proofs.Common.{◌≡◌, Bool, true, false, cond, T, ◌&&◌, List, [], ◌∷◌, refl, sym, ap, subst, ◌∙◌, Some, None}
use Rattle.std.specs.FinMap.Entries.{find, is_sorted, below_all}
use Rattle.std.specs.Ordering.{is_eq, is_lt, eq_by_cmp, ordering_reverse}
use Rattle.std.specs.declared.cmp.Ordering.{Ordering}
use Rattle.std.specs.declared.cmp.Ordering.TheVariants.{Less, Equal, Greater}
use Rattle.cfg_base.specs.Order.{path_cmp, paths_total}
use Rattle.cfg_base.specs.declared.path.Step.{Step}
use Rattle.cfg_tree.proofs.MapLemmas.{same_path}
use Rattle.commit_check.specs.Least.{IsLeast}
use Rattle.commit_check.specs.First.{first_of}

not_less : (p : List Step) → path_cmp p p ≡ Less → ⊥
not_less p e = let m : is_eq (path_cmp p p) ≡ true = (same_path p p).1 refl in let c = sym m ∙ ap is_eq e in cc

not_both : (p q : List Step) → path_cmp p q ≡ Less → path_cmp q p ≡ Less → ⊥
not_both p q e f = let m = paths_total.antisymm q p ∙ ap ordering_reverse e in let c = sym m ∙ f in cc

less : (o : Ordering) → T (is_lt o) → o ≡ Less
less Less h = refl
less Equal h = absurd h
less Greater h = absurd h

front : (a b : Bool) → T (a && b) → T a
front true b h = tt
front false b h = h

back : (a b : Bool) → T (a && b) → T b
back true b h = h
back false b h = absurd h

module _ {X : Type 0} (test : List Step × X → Bool) where
  -- an entry at a path that the test takes
  pub record Taken (es : List (List Step × X)) (p : List Step) : Type 0 where
    pub value : X
    pub there : find path_cmp p es ≡ Some value
    pub told : test (p, value) ≡ true

  -- what is taken is the first entry or a later one
  by_first : (e : List Step × X) (es : List (List Step × X)) (p : List Step) (P : Type 0) → Taken (e ∷ es) p
      → (p ≡ e.0 → test e ≡ true → P) → (Taken es p → P) → P
  by_first e es p P t one more = by_test (eq_by_cmp path_cmp p e.0) refl t.there
    where
      by_test : (b : Bool) → eq_by_cmp path_cmp p e.0 ≡ b → cond b (Some e.1) (find path_cmp p es) ≡ Some t.value → P
      by_test true k f =
          let same : p ≡ e.0 = (same_path p e.0).0 k
          in let value : e.1 ≡ t.value = cc
          in one same (ap (λ (x : List Step × X). test x) (λ i. (sym same i, value i)) ∙ t.told)
      by_test false k f = more (record { value = t.value; there = f; told = t.told })

  -- what stands among later entries is later
  later : (es : List (List Step × X)) (a p : List Step) → T (below_all path_cmp a es) → Taken es p → path_cmp a p ≡ Less
  later [] a p all t = let f = t.there in cc
  later (e ∷ es) a p all t =
      by_first e es p (path_cmp a p ≡ Less) t
      (λ same told. subst (λ (x : List Step). path_cmp a x ≡ Less) (sym same) (less _ (front _ _ all)))
      (λ more. later es a p (back _ _ all) more)

  pub none_taken : (es : List (List Step × X)) → first_of test es ≡ None → (p : List Step) → ¬ (Taken es p)
  none_taken [] e p t = let f = t.there in cc
  none_taken (x ∷ es) e p t = by_test (test x) refl e (none_taken es)
    where
      by_test : (b : Bool) → test x ≡ b → cond b (Some x.0) (first_of test es) ≡ None → (first_of test es ≡ None → (q : List Step) → ¬ (Taken es q)) → ⊥
      by_test true k f go = cc
      by_test false k f go = by_first x es p ⊥ t (λ same told. let c = sym told ∙ k in cc) (λ more. go f p more)

  taken_here : (x : List Step × X) (es : List (List Step × X)) → test x ≡ true → Taken (x ∷ es) x.0
  taken_here x es k = record {
    value = x.1;
    there = ap (λ (b : Bool). cond b (Some x.1) (find path_cmp x.0 es)) ((same_path x.0 x.0).1 refl);
    told = k;
  }

  taken_later : (x : List Step × X) (es : List (List Step × X)) (p : List Step) → T (below_all path_cmp x.0 es) → Taken es p → Taken (x ∷ es) p
  taken_later x es p all t = record {
    value = t.value;
    there = by_test (eq_by_cmp path_cmp p x.0) refl ∙ t.there;
    told = t.told;
  }
    where
      by_test : (b : Bool) → eq_by_cmp path_cmp p x.0 ≡ b → cond b (Some x.1) (find path_cmp p es) ≡ find path_cmp p es
      by_test true k = absurd (not_less p (subst (λ (y : List Step). path_cmp y p ≡ Less) (sym ((same_path p x.0).0 k)) (later es x.0 p all t)))
      by_test false k = refl

  pub first_taken : (es : List (List Step × X)) (p : List Step) → T (is_sorted path_cmp es) → first_of test es ≡ Some p → IsLeast (Taken es) p
  first_taken [] p sorted e = cc
  first_taken (x ∷ es) p sorted e = by_test (test x) refl e (first_taken es p (back _ _ sorted))
    where
      by_test : (b : Bool) → test x ≡ b → cond b (Some x.0) (first_of test es) ≡ Some p → (first_of test es ≡ Some p → IsLeast (Taken es) p)
          → IsLeast (Taken (x ∷ es)) p
      by_test true k f go =
          let same : x.0 ≡ p = cc
          in subst (λ (y : List Step). IsLeast (Taken (x ∷ es)) y) same
          (record {
            has = taken_here x es k;
            least = λ q before t. by_first x es q ⊥ t (λ at told. not_less x.0 (subst (λ (y : List Step). path_cmp y x.0 ≡ Less) at before))
                (λ more. not_both q x.0 before (later es x.0 q (front _ _ sorted) more));
          })
      by_test false k f go =
          let more = go f
          in record {
            has = taken_later x es p (front _ _ sorted) more.has;
            least = λ q before t. by_first x es q ⊥ t (λ at told. let c = sym told ∙ k in cc) (λ later. more.least q before later);
          }
