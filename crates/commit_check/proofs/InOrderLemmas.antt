-- What a look-up among entries in the order of their paths gives.
use Rattle.std.proofs.Common.{◌≡◌, ◌≢◌, Bool, true, false, cond, T, List, [], ◌∷◌, refl, sym, ap, subst, ◌∙◌, Some, is_some}
use Rattle.std.specs.Prelude.{IsSome, ◌&&◌}
use Rattle.std.specs.FinMap.Entries.{find, below_all}
use Rattle.std.specs.declared.cmp.Ordering.{Ordering}
use Rattle.std.specs.declared.cmp.Ordering.TheVariants.{Less, Equal, Greater}
use Rattle.std.specs.Ordering.{is_eq, is_lt, ordering_reverse}
use Rattle.cfg_base.specs.Order.{path_cmp, paths_total}
use Rattle.cfg_base.specs.declared.path.Step.{Step}
use Rattle.cfg_tree.proofs.MapLemmas.{same_path}

pub clash : (b : Bool) → b ≡ true → b ≡ false → ⊥
clash b t f = cc

pub both_hold : (a b : Bool) → T (a && b) → T a × T b
both_hold true b h = (tt, h)
both_hold false b h = absurd h

pub is_less : (o : Ordering) → T (is_lt o) → o ≡ Less
is_less Less h = refl
is_less Equal h = absurd h
is_less Greater h = absurd h

-- no path is before itself, and no two are before one another
not_less : (p : List Step) → path_cmp p p ≡ Less → ⊥
not_less p e = let m : is_eq (path_cmp p p) ≡ true = (same_path p p).1 refl in let c = sym m ∙ ap is_eq e in cc

not_both : (p q : List Step) → path_cmp p q ≡ Less → path_cmp q p ≡ Less → ⊥
not_both p q e f = let m = paths_total.antisymm q p ∙ ap ordering_reverse e in let c = sym m ∙ f in cc

module _ {X : Type 0} where
  -- a path that is there is that of the first entry, or stands among the others
  pub by_first : (e : List Step × X) (es : List (List Step × X)) (q : List Step) (P : Type 0) → IsSome (find path_cmp q (e ∷ es))
      → (q ≡ e.0 → P) → (q ≢ e.0 → IsSome (find path_cmp q es) → P) → P
  by_first e es q P there one more = by_test _ refl there
    where
      by_test : (b : Bool) → is_eq (path_cmp q e.0) ≡ b → IsSome (cond b (Some e.1) (find path_cmp q es)) → P
      by_test true k h = one ((same_path q e.0).0 k)
      by_test false k h = more (λ same. clash _ ((same_path q e.0).1 same) k) h

  pub first_there : (e : List Step × X) (es : List (List Step × X)) → IsSome (find path_cmp e.0 (e ∷ es))
  first_there e es = ap (λ (b : Bool). is_some (cond b (Some e.1) (find path_cmp e.0 es))) ((same_path e.0 e.0).1 refl)

  pub more_there : (e : List Step × X) (es : List (List Step × X)) (q : List Step) → IsSome (find path_cmp q es) → IsSome (find path_cmp q (e ∷ es))
  more_there e es q there = by_test (is_eq (path_cmp q e.0))
    where
      by_test : (b : Bool) → IsSome (cond b (Some e.1) (find path_cmp q es))
      by_test true = refl
      by_test false = there

  -- what stands among later entries is later
  pub later : (es : List (List Step × X)) (a q : List Step) → T (below_all path_cmp a es) → IsSome (find path_cmp q es) → path_cmp a q ≡ Less
  later [] a q below there = cc
  later (e ∷ es) a q below there =
      let k = both_hold (is_lt (path_cmp a e.0)) (below_all path_cmp a es) below
      in by_first e es q _ there (λ same. subst (λ (x : List Step). path_cmp a x ≡ Less) (sym same) (is_less _ k.0)) (λ _ more. later es a q k.1 more)

  -- before the first entry stands nothing
  pub nothing_before : (e : List Step × X) (es : List (List Step × X)) (q : List Step) → T (below_all path_cmp e.0 es) → path_cmp q e.0 ≡ Less
      → IsSome (find path_cmp q (e ∷ es)) → ⊥
  nothing_before e es q below less there =
      by_first e es q _ there
      (λ same. not_less e.0 (subst (λ (x : List Step). path_cmp x e.0 ≡ Less) same less))
      (λ _ more. not_both e.0 q (later es e.0 q below more) less)
