-- What a listing from the top down has at each path, and that it is in order.
use Rattle.std.proofs.Common.{◌≡◌, ◌≢◌, ◌⊎◌, inl, inr, ℕ, zero, suc, ◌<◌, Bool, true, false, cond, List, [], ◌∷◌, ◌++◌, length, refl, sym, ap, subst, ◌∙◌, append_assoc, arith, length-append, Option, Some, None, is_some}
use Rattle.std.specs.Prelude.{IsSome}
use Rattle.std.specs.List.{flat_map}
use Rattle.std.specs.FinMap.{find}
use Rattle.std.specs.Ordering.{eq_by_cmp, ordering_then}
use Rattle.std.specs.Cmp.{tied_itself}
use Rattle.std.specs.declared.cmp.Ordering.{Ordering}
use Rattle.cfg_base.specs.Order.{path_cmp, step_cmp, steps_total}
use Rattle.cfg_base.specs.declared.path.Step.{Step}
use Rattle.group_expand.specs.Listed.{entry_and, listed}
use Rattle.cfg_tree.proofs.MapLemmas.{same_path, same_step}

-- one list before two
cancel : (p a b : List Step) → p ++ a ≡ p ++ b → a ≡ b
cancel [] a b e = e
cancel (x ∷ p) a b e = let k : p ++ a ≡ p ++ b = cc in cancel p a b k

-- a common beginning doesn't count in the order
pub same_front : (p a b : List Step) → path_cmp (p ++ a) (p ++ b) ≡ path_cmp a b
same_front [] a b = refl
same_front (x ∷ p) a b = ap (λ (o : Ordering). ordering_then o (path_cmp (p ++ a) (p ++ b))) (tied_itself steps_total x) ∙ same_front p a b

pub append_nil : (xs : List Step) → xs ++ [] ≡ xs
append_nil [] = refl
append_nil (x ∷ xs) = ap (λ (ys : List Step). x ∷ ys) (append_nil xs)

differs : (q k : List Step) → q ≢ k → eq_by_cmp path_cmp q k ≡ false
differs q k h = by_test _ refl
  where
    by_test : (b : Bool) → eq_by_cmp path_cmp q k ≡ b → b ≡ false
    by_test true e = absurd (h ((same_path q k).0 e))
    by_test false e = refl

-- a step is among others
abbrev pub Among : Step → List Step → Type 0
Among t [] = ⊥
Among t (s ∷ ss) = (s ≡ t) ⊎ Among t ss

-- each step once
abbrev pub Once : List Step → Type 0
Once [] = Unit {0}
Once (s ∷ ss) = (Among s ss → ⊥) × Once ss

module _ {X : Type 0} where
  -- each key begins with the path
  abbrev pub AreBelow : List Step → List (List Step × X) → Type 0
  AreBelow q [] = Unit {0}
  AreBelow q (e ∷ es) = ((r : List Step) × (e.0 ≡ q ++ r)) × AreBelow q es

  below_append : (q : List Step) (es fs : List (List Step × X)) → AreBelow q es → AreBelow q fs → AreBelow q (es ++ fs)
  below_append q [] fs h k = k
  below_append q (e ∷ es) fs h k = (h.0, below_append q es fs h.1 k)

  below_shorter : (q t : List Step) (es : List (List Step × X)) → AreBelow (q ++ t) es → AreBelow q es
  below_shorter q t [] h = tt
  below_shorter q t (e ∷ es) h = ((t ++ h.0.0, h.0.1 ∙ append_assoc q t h.0.0), below_shorter q t es h.1)

  find_append : (q : List Step) (es fs : List (List Step × X)) → find path_cmp q es ≡ None → find path_cmp q (es ++ fs) ≡ find path_cmp q fs
  find_append q [] fs h = refl
  find_append q (e ∷ es) fs h = by_test (eq_by_cmp path_cmp q e.0) (find_append q es fs) h
    where
      by_test : (b : Bool) → (find path_cmp q es ≡ None → find path_cmp q (es ++ fs) ≡ find path_cmp q fs) → cond b (Some e.1) (find path_cmp q es) ≡ None
          → cond b (Some e.1) (find path_cmp q (es ++ fs)) ≡ find path_cmp q fs
      by_test true go k = cc
      by_test false go k = go k

  find_first : (q : List Step) (es fs : List (List Step × X)) → find path_cmp q fs ≡ None → find path_cmp q (es ++ fs) ≡ find path_cmp q es
  find_first q [] fs h = h
  find_first q (e ∷ es) fs h = ap (cond (eq_by_cmp path_cmp q e.0) (Some e.1)) (find_first q es fs h)

  -- a path that begins otherwise isn't there
  find_apart : (q k : List Step) (es : List (List Step × X)) → AreBelow q es → ((r : List Step) → k ≢ q ++ r) → find path_cmp k es ≡ None
  find_apart q k [] h apart = refl
  find_apart q k (e ∷ es) h apart =
      ap (λ (b : Bool). cond b (Some e.1) (find path_cmp k es)) (differs k e.0 (λ same. apart h.0.0 (same ∙ h.0.1)))
      ∙ find_apart q k es h.1 apart

  module _ (at : List Step → Option X) (steps : List Step → List Step) where
    abbrev one : ℕ → List Step → Step → List (List Step × X)
    one n p s = entry_and (p ++ s ∷ []) (at (p ++ s ∷ [])) (listed at steps n (p ++ s ∷ []))

    one_below : (n : ℕ) (p : List Step) (s : Step) → AreBelow (p ++ s ∷ []) (listed at steps n (p ++ s ∷ [])) → AreBelow (p ++ s ∷ []) (one n p s)
    one_below n p s h = by_entry (at (p ++ s ∷ []))
      where
        by_entry : (o : Option X) → AreBelow (p ++ s ∷ []) (entry_and (p ++ s ∷ []) o (listed at steps n (p ++ s ∷ [])))
        by_entry None = tt
        by_entry (Some x) = (([], sym (append_nil (p ++ s ∷ []))), h)

    pub listed_below : (n : ℕ) (p : List Step) → AreBelow p (listed at steps n p)
    unfolding listed
    listed_below zero p = tt
    listed_below (suc n) p = all (λ s. one_below n p s (listed_below n (p ++ s ∷ []))) (steps p)
      where
        all : ((s : Step) → AreBelow (p ++ s ∷ []) (one n p s)) → (ss : List Step) → AreBelow p (flat_map (one n p) ss)
        all each [] = tt
        all each (s ∷ ss) = below_append p (one n p s) (flat_map (one n p) ss) (below_shorter p (s ∷ []) (one n p s) (each s)) (all each ss)

    -- another child's entries don't have it
    other_child : (n : ℕ) (p : List Step) (s t : Step) (r : List Step) → s ≢ t → find path_cmp (p ++ t ∷ r) (one n p s) ≡ None
    other_child n p s t r h =
        find_apart (p ++ s ∷ []) (p ++ t ∷ r) (one n p s) (one_below n p s (listed_below n (p ++ s ∷ [])))
        (λ r2 same. let k : t ∷ r ≡ s ∷ r2 = cancel p (t ∷ r) (s ∷ r2) (same ∙ append_assoc p (s ∷ []) r2) in let m : s ≡ t = cc in h m)

    not_among : (n : ℕ) (p : List Step) (t : Step) (r : List Step) (ss : List Step) → (Among t ss → ⊥) → find path_cmp (p ++ t ∷ r) (flat_map (one n p) ss) ≡ None
    not_among n p t r [] h = refl
    not_among n p t r (s ∷ ss) h =
        find_append (p ++ t ∷ r) (one n p s) (flat_map (one n p) ss) (other_child n p s t r (λ e. h (inl e)))
        ∙ not_among n p t r ss (λ k. h (inr k))

    nowhere : (n : ℕ) (p : List Step) (t : Step) (r : List Step) → at (p ++ t ∷ []) ≡ None → (ss : List Step) → find path_cmp (p ++ t ∷ r) (flat_map (one n p) ss) ≡ None
    nowhere n p t r e [] = refl
    nowhere n p t r e (s ∷ ss) = find_append (p ++ t ∷ r) (one n p s) (flat_map (one n p) ss) (by_step _ refl) ∙ nowhere n p t r e ss
      where
        by_step : (b : Bool) → eq_by_cmp step_cmp s t ≡ b → find path_cmp (p ++ t ∷ r) (one n p s) ≡ None
        by_step true k =
            ap (λ (u : Step). find path_cmp (p ++ t ∷ r) (one n p u)) ((same_step s t).0 k)
            ∙ ap (λ (o : Option X). find path_cmp (p ++ t ∷ r) (entry_and (p ++ t ∷ []) o (listed at steps n (p ++ t ∷ [])))) e
        by_step false k = other_child n p s t r (λ same. let m : eq_by_cmp step_cmp s t ≡ true = (same_step s t).1 same in let c = sym m ∙ k in cc)

    among : (n : ℕ) (p : List Step) (t : Step) (r : List Step) (ss : List Step) → Once ss → Among t ss
        → find path_cmp (p ++ t ∷ r) (flat_map (one n p) ss) ≡ find path_cmp (p ++ t ∷ r) (one n p t)
    among n p t r [] o h = absurd h
    among n p t r (s ∷ ss) o (inl e) =
        find_first (p ++ t ∷ r) (one n p s) (flat_map (one n p) ss) (not_among n p t r ss (λ k. o.0 (subst (λ (u : Step). Among u ss) (sym e) k)))
        ∙ ap (λ (u : Step). find path_cmp (p ++ t ∷ r) (one n p u)) e
    among n p t r (s ∷ ss) o (inr h) = by_step (eq_by_cmp step_cmp s t) refl (among n p t r ss o.1 h)
      where
        by_step : (b : Bool) → eq_by_cmp step_cmp s t ≡ b → find path_cmp (p ++ t ∷ r) (flat_map (one n p) ss) ≡ find path_cmp (p ++ t ∷ r) (one n p t)
            → find path_cmp (p ++ t ∷ r) (one n p s ++ flat_map (one n p) ss) ≡ find path_cmp (p ++ t ∷ r) (one n p t)
        by_step true e same = absurd (o.0 (subst (λ (u : Step). Among u ss) (sym ((same_step s t).0 e)) h))
        by_step false e same =
            find_append (p ++ t ∷ r) (one n p s) (flat_map (one n p) ss)
            (other_child n p s t r (λ k. let m : eq_by_cmp step_cmp s t ≡ true = (same_step s t).1 k in let c = sym m ∙ e in cc))
            ∙ same

    module _ (closed : (p : List Step) (s : Step) → p ≢ [] → IsSome (at (p ++ s ∷ [])) → IsSome (at p))
        (complete : (p : List Step) (s : Step) → IsSome (at (p ++ s ∷ [])) → Among s (steps p))
        (once : (p : List Step) → Once (steps p)) where
      -- nothing stands below a path that isn't there
      pub closed_all : (p r : List Step) → p ≢ [] → at p ≡ None → at (p ++ r) ≡ None
      closed_all p [] h e = ap at (append_nil p) ∙ e
      closed_all p (s ∷ r) h e =
          ap at (sym (append_assoc p (s ∷ []) r))
          ∙ closed_all (p ++ s ∷ []) r (longer p s) (by_none (at (p ++ s ∷ [])) (λ k. closed p s h k))
        where
          longer : (p : List Step) (s : Step) → p ++ s ∷ [] ≢ []
          longer [] s e = cc
          longer (x ∷ p) s e = cc

          by_none : (o : Option X) → (IsSome o → IsSome (at p)) → o ≡ None
          by_none None go = refl
          by_none (Some x) go = let k = go refl in absurd (clash k)
            where
              clash : IsSome (at p) → ⊥
              clash k = let m = sym (ap is_some e) ∙ k in cc

      pub long : (p : List Step) (s : Step) → p ++ s ∷ [] ≢ []
      long [] s e = cc
      long (x ∷ p) s e = cc

      longer_than : (p : List Step) (u : Step) (r : List Step) → p ++ u ∷ r ≢ p
      longer_than p u r e = let k = ap (λ (xs : List Step). length xs) e in omega (arith, k, length-append p (u ∷ r))

      -- the listing: at each path below, down to as many levels, it has what the map has
      pub listed_at : (n : ℕ) (p : List Step) (t : Step) (r : List Step) → length r < n → find path_cmp (p ++ t ∷ r) (listed at steps n p) ≡ at (p ++ t ∷ r)
      unfolding listed
      listed_at zero p t r h = absurd (omega (arith, h))
      listed_at (suc n) p t r h = by_there (at (p ++ t ∷ [])) refl (λ u r2 k. listed_at n (p ++ t ∷ []) u r2 k)
        where
          in_one : (o : Option X) (x : X) → at (p ++ t ∷ []) ≡ Some x → o ≡ Some x
              → ((u : Step) (r2 : List Step) → length r2 < n → find path_cmp ((p ++ t ∷ []) ++ u ∷ r2) (listed at steps n (p ++ t ∷ [])) ≡ at ((p ++ t ∷ []) ++ u ∷ r2))
              → (r : List Step) → length r < suc n
              → find path_cmp (p ++ t ∷ r) ((p ++ t ∷ [], x) ∷ listed at steps n (p ++ t ∷ [])) ≡ at (p ++ t ∷ r)
          in_one o x e f go [] k =
              ap (λ (b : Bool). cond b (Some x) (find path_cmp (p ++ t ∷ []) (listed at steps n (p ++ t ∷ [])))) ((same_path (p ++ t ∷ []) (p ++ t ∷ [])).1 refl) ∙ sym e
          in_one o x e f go (u ∷ r2) k =
              let assoc : (p ++ t ∷ []) ++ u ∷ r2 ≡ p ++ t ∷ u ∷ r2 = append_assoc p (t ∷ []) (u ∷ r2)
              in ap (λ (q : List Step). find path_cmp q ((p ++ t ∷ [], x) ∷ listed at steps n (p ++ t ∷ []))) (sym assoc)
              ∙ ap (λ (b : Bool). cond b (Some x) (find path_cmp ((p ++ t ∷ []) ++ u ∷ r2) (listed at steps n (p ++ t ∷ [])))) (differs ((p ++ t ∷ []) ++ u ∷ r2) (p ++ t ∷ []) (longer_than (p ++ t ∷ []) u r2))
              ∙ go u r2 (omega (arith, k)) ∙ ap at assoc

          by_there : (o : Option X) → at (p ++ t ∷ []) ≡ o
              → ((u : Step) (r2 : List Step) → length r2 < n → find path_cmp ((p ++ t ∷ []) ++ u ∷ r2) (listed at steps n (p ++ t ∷ [])) ≡ at ((p ++ t ∷ []) ++ u ∷ r2))
              → find path_cmp (p ++ t ∷ r) (flat_map (one n p) (steps p)) ≡ at (p ++ t ∷ r)
          by_there None e go =
              nowhere n p t r e (steps p)
              ∙ sym (closed_all (p ++ t ∷ []) r (long p t) e)
              ∙ ap at (append_assoc p (t ∷ []) r)
          by_there (Some x) e go =
              among n p t r (steps p) (once p) (complete p t (ap is_some e))
              ∙ ap (λ (o : Option X). find path_cmp (p ++ t ∷ r) (entry_and (p ++ t ∷ []) o (listed at steps n (p ++ t ∷ [])))) e
              ∙ in_one (Some x) x e refl go r h
