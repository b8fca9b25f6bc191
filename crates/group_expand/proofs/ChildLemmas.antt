-- The children of a path in a listing: the steps that are there, in order.
use Rattle.std.proofs.Common.{◌≡◌, ◌≢◌, inl, inr, ℕ, zero, suc, ◌+◌, ◌<◌, ◌≤◌, Bool, true, false, cond, List, [], ◌∷◌, ◌++◌, length, filter, map, refl, sym, ap, subst, ◌∙◌, arith, append_assoc, length-append, Option, Some, None, is_some}
use Rattle.std.specs.Prelude.{IsSome, ◌&&◌, ◌==◌}
use Rattle.std.specs.List.{flat_map}
use Rattle.std.specs.List.Sorted.{IsStrictlySortedBy}
use Rattle.std.specs.Map.{keys_of}
use Rattle.std.specs.Ordering.{eq_by_cmp}
use Rattle.std.proofs.lemmas.List.Elements.{filter-append}
use Rattle.std.proofs.lemmas.Bool.{eqb-true}
use Rattle.cfg_base.specs.Order.{step_cmp}
use Rattle.cfg_base.specs.declared.path.Step.{Step}
use Rattle.cfg_tree.specs.Statements.{is_below}
use Rattle.cfg_tree.specs.Children.{is_child}
use Rattle.cfg_tree.proofs.MapLemmas.{same_step}
use Rattle.group_expand.specs.Listed.{entry_and, listed}
use Rattle.group_expand.proofs.ListedLemmas.{Among, Once, closed_all, long}
use Rattle.group_expand.proofs.InOrderLemmas.{AreInside, AreUnder, inside_under, listed_both}
use Rattle.group_expand.proofs.StepLemmas.{child_is}

below_cancel : (p a b : List Step) → is_below (p ++ a) (p ++ b) ≡ is_below a b
below_cancel [] a b = refl
below_cancel (x ∷ p) a b = ap (λ (t : Bool). t && is_below (p ++ a) (p ++ b)) ((same_step x x).1 refl) ∙ below_cancel p a b

longer_is_no_child : (p k : List Step) → length p + 1 < length k → is_child p k ≡ false
longer_is_no_child p k h = by_test (is_below p k) (length k == length p + 1) refl
  where
    by_test : (a b : Bool) → (length k == length p + 1) ≡ b → (a && b) ≡ false
    by_test true true e = let m = eqb-true _ _ e in absurd (omega (arith, h, m))
    by_test true false e = refl
    by_test false b e = refl

shorter_is_no_child : (p k : List Step) → length k ≤ length p → is_child p k ≡ false
shorter_is_no_child p k h = by_test (is_below p k) (length k == length p + 1) refl
  where
    by_test : (a b : Bool) → (length k == length p + 1) ≡ b → (a && b) ≡ false
    by_test true true e = let m = eqb-true _ _ e in absurd (omega (arith, h, m))
    by_test true false e = refl
    by_test false b e = refl

other_is_no_child : (p : List Step) (s t : Step) (r r2 : List Step) → s ≢ t → is_child (p ++ t ∷ r) (p ++ s ∷ r2) ≡ false
other_is_no_child p s t r r2 h = ap (λ (b : Bool). b && (length (p ++ s ∷ r2) == length (p ++ t ∷ r) + 1)) (below_cancel p (t ∷ r) (s ∷ r2) ∙ first (eq_by_cmp step_cmp t s) refl)
  where
    first : (b : Bool) → eq_by_cmp step_cmp t s ≡ b → (b && is_below r r2) ≡ false
    first true e = absurd (h (sym ((same_step t s).0 e)))
    first false e = refl

module _ {X : Type 0} where
  keys_append : (es fs : List (List Step × X)) → keys_of (es ++ fs) ≡ keys_of es ++ keys_of fs
  keys_append [] fs = refl
  keys_append (e ∷ es) fs = ap (λ (ks : List (List Step)). e.0 ∷ ks) (keys_append es fs)

  abbrev children : List Step → List (List Step × X) → List (List Step)
  children p es = filter (is_child p) (keys_of es)

  children_append : (p : List Step) (es fs : List (List Step × X)) → children p (es ++ fs) ≡ children p es ++ children p fs
  children_append p es fs = ap (filter (is_child p)) (keys_append es fs) ∙ filter-append (is_child p) (keys_of es) (keys_of fs)

  none_kept : (p k : List Step) (es : List (List Step × X)) → is_child p k ≡ false → children p es ≡ [] → cond (is_child p k) (k ∷ children p es) (children p es) ≡ []
  none_kept p k es e h = ap (λ (b : Bool). cond b (k ∷ children p es) (children p es)) e ∙ h

  deep_none : (p : List Step) (s : Step) (es : List (List Step × X)) → AreInside (p ++ s ∷ []) es → children p es ≡ []
  deep_none p s [] h = refl
  deep_none p s (e ∷ es) h =
      none_kept p e.0 es
      (longer_is_no_child p e.0
      (let k = ap (λ (q : List Step). length q) h.0.2 in omega (arith, k, length-append (p ++ s ∷ []) (h.0.0 ∷ h.0.1), length-append p (s ∷ []))))
      (deep_none p s es h.1)

  other_none : (p : List Step) (s t : Step) (r : List Step) (es : List (List Step × X)) → s ≢ t → AreUnder p s es → children (p ++ t ∷ r) es ≡ []
  other_none p s t r [] h u = refl
  other_none p s t r (e ∷ es) h u =
      none_kept (p ++ t ∷ r) e.0 es (ap (is_child (p ++ t ∷ r)) u.0.1 ∙ other_is_no_child p s t r u.0.0 h) (other_none p s t r es h u.1)

  module _ (at : List Step → Option X) (steps : List Step → List Step) (ordered : (p : List Step) → IsStrictlySortedBy step_cmp (steps p)) where
    abbrev one : ℕ → List Step → Step → List (List Step × X)
    one n p s = entry_and (p ++ s ∷ []) (at (p ++ s ∷ [])) (listed at steps n (p ++ s ∷ []))

    inside : (n : ℕ) (p : List Step) → AreInside p (listed at steps n p)
    inside n p = (listed_both at steps ordered n p).0

    one_under : (n : ℕ) (p : List Step) (s : Step) → AreUnder p s (one n p s)
    one_under n p s = by_entry (at (p ++ s ∷ []))
      where
        by_entry : (o : Option X) → AreUnder p s (entry_and (p ++ s ∷ []) o (listed at steps n (p ++ s ∷ [])))
        by_entry None = tt
        by_entry (Some x) = (([], refl), inside_under p s _ (inside n (p ++ s ∷ [])))

    -- the steps of the children that are there
    abbrev pub there : List Step → List Step → List Step
    there p ss = filter (λ s. is_some (at (p ++ s ∷ []))) ss

    level_children : (n : ℕ) (p : List Step) (ss : List Step) → children p (flat_map (one n p) ss) ≡ map (λ s. p ++ s ∷ []) (there p ss)
    level_children n p [] = refl
    level_children n p (s ∷ ss) =
        children_append p (one n p s) (flat_map (one n p) ss)
        ∙ by_entry (at (p ++ s ∷ [])) (level_children n p ss)
      where
        by_entry : (o : Option X) → children p (flat_map (one n p) ss) ≡ map (λ s. p ++ s ∷ []) (there p ss)
            → children p (entry_and (p ++ s ∷ []) o (listed at steps n (p ++ s ∷ []))) ++ children p (flat_map (one n p) ss)
            ≡ map (λ t. p ++ t ∷ []) (cond (is_some o) (s ∷ there p ss) (there p ss))
        by_entry None h = h
        by_entry (Some x) h =
            ap (λ (b : Bool). cond b ((p ++ s ∷ []) ∷ children p (listed at steps n (p ++ s ∷ []))) (children p (listed at steps n (p ++ s ∷ []))) ++ children p (flat_map (one n p) ss)) (child_is p s)
            ∙ ap (λ (ks : List (List Step)). (p ++ s ∷ []) ∷ (ks ++ children p (flat_map (one n p) ss))) (deep_none p s (listed at steps n (p ++ s ∷ [])) (inside n (p ++ s ∷ [])))
            ∙ ap (λ (ks : List (List Step)). (p ++ s ∷ []) ∷ ks) h

    none_of_others : (n : ℕ) (p : List Step) (t : Step) (r : List Step) (ss : List Step) → (Among t ss → ⊥) → children (p ++ t ∷ r) (flat_map (one n p) ss) ≡ []
    none_of_others n p t r [] h = refl
    none_of_others n p t r (s ∷ ss) h =
        children_append (p ++ t ∷ r) (one n p s) (flat_map (one n p) ss)
        ∙ ap (λ (ks : List (List Step)). ks ++ children (p ++ t ∷ r) (flat_map (one n p) ss)) (other_none p s t r (one n p s) (λ e. h (inl e)) (one_under n p s))
        ∙ none_of_others n p t r ss (λ k. h (inr k))

    of_one : (n : ℕ) (p : List Step) (t : Step) (r : List Step) (ss : List Step) → Once ss → Among t ss
        → children (p ++ t ∷ r) (flat_map (one n p) ss) ≡ children (p ++ t ∷ r) (one n p t)
    of_one n p t r [] o h = absurd h
    of_one n p t r (s ∷ ss) o (inl e) =
        children_append (p ++ t ∷ r) (one n p s) (flat_map (one n p) ss)
        ∙ ap (λ (ks : List (List Step)). children (p ++ t ∷ r) (one n p s) ++ ks) (none_of_others n p t r ss (λ k. o.0 (subst (λ (u : Step). Among u ss) (sym e) k)))
        ∙ nil_right (children (p ++ t ∷ r) (one n p s))
        ∙ ap (λ (u : Step). children (p ++ t ∷ r) (one n p u)) e
      where
        nil_right : (ks : List (List Step)) → ks ++ [] ≡ ks
        nil_right [] = refl
        nil_right (k ∷ ks) = ap (λ (js : List (List Step)). k ∷ js) (nil_right ks)
    of_one n p t r (s ∷ ss) o (inr h) =
        children_append (p ++ t ∷ r) (one n p s) (flat_map (one n p) ss)
        ∙ ap (λ (ks : List (List Step)). ks ++ children (p ++ t ∷ r) (flat_map (one n p) ss))
        (other_none p s t r (one n p s) (λ e. o.0 (subst (λ (u : Step). Among u ss) (sym e) h)) (one_under n p s))
        ∙ of_one n p t r ss o.1 h

    -- the children of the top of a listing
    pub listed_children : (n : ℕ) (p : List Step) → children p (listed at steps (suc n) p) ≡ map (λ s. p ++ s ∷ []) (there p (steps p))
    unfolding listed
    listed_children n p = level_children n p (steps p)

    module _ (closed : (p : List Step) (s : Step) → p ≢ [] → IsSome (at (p ++ s ∷ [])) → IsSome (at p))
        (complete : (p : List Step) (s : Step) → IsSome (at (p ++ s ∷ [])) → Among s (steps p)) (once : (p : List Step) → Once (steps p)) where
      some_above : (p : List Step) (t : Step) (r : List Step) → IsSome (at (p ++ t ∷ r)) → (x : X) × (at (p ++ t ∷ []) ≡ Some x)
      some_above p t r h = by_entry _ refl
        where
          by_entry : (o : Option X) → at (p ++ t ∷ []) ≡ o → (x : X) × (at (p ++ t ∷ []) ≡ Some x)
          by_entry None e =
              let k : at (p ++ t ∷ r) ≡ None = ap at (sym (append_assoc p (t ∷ []) r)) ∙ closed_all at steps closed complete once (p ++ t ∷ []) r (long at steps closed complete once p t) e
              in absurd (let m = sym (ap is_some k) ∙ h in clash m)
            where
              clash : false ≡ true → ⊥
              clash m = cc
          by_entry (Some x) e = (x, e)

      -- the children of a path in a listing
      pub deep_children : (n : ℕ) (p : List Step) (t : Step) (r : List Step) → length r < n → IsSome (at (p ++ t ∷ r))
          → children (p ++ t ∷ r) (listed at steps (suc n) p) ≡ map (λ s. (p ++ t ∷ r) ++ s ∷ []) (there (p ++ t ∷ r) (steps (p ++ t ∷ r)))
      unfolding listed
      deep_children zero p t r l h = absurd (omega (arith, l))
      deep_children (suc n) p t r l h =
          let up = some_above p t r h
          in of_one (suc n) p t r (steps p) (once p) (complete p t (ap is_some up.1))
          ∙ ap (λ (o : Option X). children (p ++ t ∷ r) (entry_and (p ++ t ∷ []) o (listed at steps (suc n) (p ++ t ∷ [])))) up.1
          ∙ ap (λ (b : Bool). cond b ((p ++ t ∷ []) ∷ children (p ++ t ∷ r) (listed at steps (suc n) (p ++ t ∷ []))) (children (p ++ t ∷ r) (listed at steps (suc n) (p ++ t ∷ []))))
          (shorter_is_no_child (p ++ t ∷ r) (p ++ t ∷ []) (omega (arith, length-append p (t ∷ r), length-append p (t ∷ []))))
          ∙ go r l h (λ u r2 k m. deep_children n (p ++ t ∷ []) u r2 k m)
        where
          go : (r : List Step) → length r < suc n → IsSome (at (p ++ t ∷ r))
              → ((u : Step) (r2 : List Step) → length r2 < n → IsSome (at ((p ++ t ∷ []) ++ u ∷ r2))
              → children ((p ++ t ∷ []) ++ u ∷ r2) (listed at steps (suc n) (p ++ t ∷ [])) ≡ map (λ s. ((p ++ t ∷ []) ++ u ∷ r2) ++ s ∷ []) (there ((p ++ t ∷ []) ++ u ∷ r2) (steps ((p ++ t ∷ []) ++ u ∷ r2))))
              → children (p ++ t ∷ r) (listed at steps (suc n) (p ++ t ∷ [])) ≡ map (λ s. (p ++ t ∷ r) ++ s ∷ []) (there (p ++ t ∷ r) (steps (p ++ t ∷ r)))
          go [] l h deeper = level_children n (p ++ t ∷ []) (steps (p ++ t ∷ []))
          go (u ∷ r2) l h deeper =
              let same : (p ++ t ∷ []) ++ u ∷ r2 ≡ p ++ t ∷ u ∷ r2 = append_assoc p (t ∷ []) (u ∷ r2)
              in subst (λ (q : List Step). children q (listed at steps (suc n) (p ++ t ∷ [])) ≡ map (λ s. q ++ s ∷ []) (there q (steps q))) same
              (deeper u r2 (omega (arith, l)) (subst (λ (q : List Step). IsSome (at q)) (sym same) h))
