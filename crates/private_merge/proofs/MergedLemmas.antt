-- What is merged of three configurations without a conflict is a statement map, and typed.
use Rattle.std.proofs.Common.{◌≡◌, ◌≢◌, inl, inr, ⊎_elim, ℕ, ◌<◌, Bool, true, false, List, [], ◌∷◌, ◌++◌, length, refl, sym, ap, subst, ◌∙◌, Option, Some, None, is_some}
use Rattle.std.specs.Prelude.{IsSome, IfOk, Result, Ok, Err}
use Rattle.cfg_base.specs.declared.fault.NoMemory.{NoMemory}
use Rattle.std.specs.Bool.{Decides}
use Rattle.std.specs.FinMap as map
use Rattle.cfg_base.specs.declared.path.Step.{Step}
use Rattle.cfg_base.specs.declared.value.Value.{Value}
use Rattle.cfg_schema.specs.declared.place.Place.{Place}
use Rattle.cfg_schema.specs.Place.{place_of}
use Rattle.cfg_tree.specs.declared.limit.TheConstants.{MAX_STATEMENTS}
use Rattle.cfg_tree.specs.Statements.{Statements, size_of, parent_of, HasParent}
use Rattle.cfg_tree.specs.Values.{Stand, with_values}
use Rattle.cfg_tree.specs.Typed.{IsTypedPath, AreWordsOf}
use Rattle.cfg_tree.specs.Tree.{ordered_head, step_of, IsOrderBy, IsOrderOf, IsTree}
use Rattle.cfg_tree.specs.Union.{IsUnbounded}
use Rattle.cfg_tree.proofs.PutLemmas.{order_same}
use Rattle.cfg_tree.proofs.UnionLemmas.{no_child}
use Rattle.cfg_tree.proofs.ValuesLemmas.{value_or_not}
use Rattle.private_merge.specs.Merge.{IsMergedValue, IsMergedAt, IsMergeOf, IsChangedTwice, Conflicts, Agree, IsTooMany}
use Rattle.private_merge.specs.Walking.{PlaceView, StandsIn, IsUntouched, IsOnBoth, AreTwo, HasNoParent, IsOwn}
use Rattle.private_merge.proofs.ValueLemmas.{one_of_both, merged_once, stays}

no_value : (o : Option Value) → o ≡ None → is_some o ≡ true → ⊥
no_value None e h = cc
no_value (Some v) e h = cc

is_none : (o : Option Value) → is_some o ≡ false → o ≡ None
is_none None h = refl
is_none (Some v) h = cc

some_is : (o : Option Value) → (o ≡ None → ⊥) → is_some o ≡ true
some_is None h = absurd (h refl)
some_is (Some v) h = refl

-- two configurations with one value at a path have the same ordered children there
module _ (m n : Statements) (one : IsTree m) (other : IsTree n) (q : List Step) (long : 0 < length q) (same : map.get m q ≡ map.get n q) where
  by_orders : (h : List ℕ) (v : Value) → ordered_head (place_of q) ≡ Some h → map.get m q ≡ Some v → map.get n q ≡ Some v → (name : List ℕ)
      → is_some (map.get m (q ++ step_of h name ∷ [])) ≡ is_some (map.get n (q ++ step_of h name ∷ []))
  by_orders h v head a b name =
      let mine = subst (λ (o : Option (List ℕ)). IsOrderBy m q o v.order) head (one.statements.orders q v a)
      in let theirs = subst (λ (o : Option (List ℕ)). IsOrderBy n q o v.order) head (other.statements.orders q v b)
      in sym (mine.each name) ∙ theirs.each name

  pub same_children : (h : List ℕ) → ordered_head (place_of q) ≡ Some h → (name : List ℕ)
      → is_some (map.get m (q ++ step_of h name ∷ [])) ≡ is_some (map.get n (q ++ step_of h name ∷ []))
  same_children h head name = by_value (map.get m q) refl
    where
      by_value : (o : Option Value) → map.get m q ≡ o → is_some (map.get m (q ++ step_of h name ∷ [])) ≡ is_some (map.get n (q ++ step_of h name ∷ []))
      by_value None e =
          no_child m q (step_of h name) one.statements long e ∙ sym (no_child n q (step_of h name) other.statements long (sym same ∙ e))
      by_value (Some v) e = by_orders h v head e (sym same ∙ e) name

module _ (base active mine merged : Statements) (old : IsTree base) (now : IsTree active) (own : IsTree mine) (agree : Agree base active mine)
    (made : IsMergeOf base active mine merged) where
  -- a statement of the merged map is one of either side
  sides : (q : List Step) (v : Value) (P : Type 0) → map.get merged q ≡ Some v → (map.get mine q ≡ Some v → P) → (map.get active q ≡ Some v → P) → P
  sides q v P e f g =
      ⊎_elim (λ same. f (sym same ∙ e)) (λ same. g (sym same ∙ e)) (one_of_both (map.get base q) (map.get active q) (map.get mine q) (map.get merged q) (made q))

  there : (q : List Step) (P : Type 0) → IsSome (map.get merged q) → ((v : Value) → map.get merged q ≡ Some v → P) → P
  there q P h go = by_value (map.get merged q) refl h
    where
      by_value : (o : Option Value) → map.get merged q ≡ o → IsSome o → P
      by_value None e k = cc
      by_value (Some v) e k = go v e

  top : map.get merged [] ≡ None
  top =
      ⊎_elim (λ same. same ∙ own.statements.top) (λ same. same ∙ now.statements.top)
      (one_of_both (map.get base []) (map.get active []) (map.get mine []) (map.get merged []) (made []))

  steps : (q : List Step) (v : Value) → map.get merged q ≡ Some v → 0 < length q
  steps q v e =
      sides q v (0 < length q) e (λ f. (own.statements.parents q (ap is_some f)).steps) (λ f. (now.statements.parents q (ap is_some f)).steps)

  parent_there : (q : List Step) (v : Value) → map.get merged q ≡ Some v → 1 < length q → IsSome (map.get merged (parent_of q))
  parent_there q v e long =
      some_is (map.get merged (parent_of q)) (λ gone. agree q (inr record {
        value = v;
        there = subst (λ (o : Option Value). IsMergedAt base active mine q o) e (made q);
        inner = long;
        gone = subst (λ (o : Option Value). IsMergedAt base active mine (parent_of q) o) gone (made (parent_of q));
      }))

  parents : (q : List Step) → IsSome (map.get merged q) → HasParent merged q
  parents q h = there q (HasParent merged q) h (λ v e. record { steps = steps q v e; parent = parent_there q v e })

  -- the children of an ordered row, where the own value is merged at their parent
  own_children : (q : List Step) → 0 < length q → map.get mine q ≢ map.get base q → (name h : List ℕ) → ordered_head (place_of q) ≡ Some h
      → is_some (map.get merged (q ++ step_of h name ∷ [])) ≡ is_some (map.get mine (q ++ step_of h name ∷ []))
  own_children q long changed name h head = ⊎_elim (λ x. ap is_some x.1) (λ x. ap is_some x.1 ∙ others x.0) (made (q ++ step_of h name ∷ []))
    where
      others : map.get mine (q ++ step_of h name ∷ []) ≡ map.get base (q ++ step_of h name ∷ [])
          → is_some (map.get active (q ++ step_of h name ∷ [])) ≡ is_some (map.get mine (q ++ step_of h name ∷ []))
      others still =
          value_or_not (map.get active q) (map.get base q) _
          (λ e. same_children active base now old q long e h head name ∙ sym (ap is_some still))
          (λ differs. value_or_not (map.get mine q) (map.get active q) _
          (λ e. sym (same_children mine active own now q long e h head name))
          (λ apart. absurd (agree q (inl record { by_me = changed; by_others = differs; apart = apart }))))

  -- where the active one is
  active_children : (q : List Step) → 0 < length q → map.get mine q ≡ map.get base q → (name h : List ℕ) → ordered_head (place_of q) ≡ Some h
      → is_some (map.get merged (q ++ step_of h name ∷ [])) ≡ is_some (map.get active (q ++ step_of h name ∷ []))
  active_children q long same name h head = ⊎_elim (λ x. ap is_some x.1 ∙ changed x.0) (λ x. ap is_some x.1) (made (q ++ step_of h name ∷ []))
    where
      alike : is_some (map.get mine (q ++ step_of h name ∷ [])) ≡ is_some (map.get base (q ++ step_of h name ∷ []))
      alike = same_children mine base own old q long same h head name

      -- a child that the own side changed is there on all sides, or both changed it
      changed : map.get mine (q ++ step_of h name ∷ []) ≢ map.get base (q ++ step_of h name ∷ [])
          → is_some (map.get mine (q ++ step_of h name ∷ [])) ≡ is_some (map.get active (q ++ step_of h name ∷ []))
      changed differs = by_test (is_some (map.get mine (q ++ step_of h name ∷ []))) refl
        where
          by_test : (b : Bool) → is_some (map.get mine (q ++ step_of h name ∷ [])) ≡ b → b ≡ is_some (map.get active (q ++ step_of h name ∷ []))
          by_test false e = absurd (differs (is_none _ e ∙ sym (is_none _ (sym alike ∙ e))))
          by_test true e = sym (some_is (map.get active (q ++ step_of h name ∷ [])) (λ none. agree (q ++ step_of h name ∷ []) (inl record {
            by_me = differs;
            by_others = λ f. no_value _ (sym f ∙ none) (sym alike ∙ e);
            apart = λ f. no_value _ (f ∙ none) e;
          })))

  order_of : (q : List Step) (v : Value) → map.get merged q ≡ Some v → IsOrderOf merged q v.order
  order_of q v e =
      ⊎_elim
      (λ x. order_same mine merged q (ordered_head (place_of q)) v.order (own_children q (steps q v e) x.0) (own.statements.orders q v (sym x.1 ∙ e)))
      (λ x. order_same active merged q (ordered_head (place_of q)) v.order (active_children q (steps q v e) x.0) (now.statements.orders q v (sym x.1 ∙ e)))
      (made q)

  paths : (q : List Step) → IsSome (map.get merged q) → IsTypedPath q
  paths q h =
      there q (IsTypedPath q) h (λ v e. sides q v (IsTypedPath q) e (λ f. own.typed.paths q (ap is_some f)) (λ f. now.typed.paths q (ap is_some f)))

  words : (q : List Step) (v : Value) (here : Place) → map.get merged q ≡ Some v → place_of q ≡ Some here → AreWordsOf here.row v.words
  words q v here e placed =
      sides q v (AreWordsOf here.row v.words) e (λ f. own.typed.words q v here f placed) (λ f. now.typed.words q v here f placed)

  pub merged_unbounded : IsUnbounded merged
  merged_unbounded = record {
    statements = record { top = top; parents = parents; orders = order_of };
    typed = record { paths = paths; words = words };
  }

-- whether a path conflicts, by what stands there
module _ (base active mine : Statements) (place : PlaceView) (stands : StandsIn base active mine place) where
  -- where neither side changed it, it has its parent on both
  pub untouched_agrees : IsTree active → IsTree mine → IsUntouched place → ¬ (Conflicts base active mine place.path)
  untouched_agrees now own same (inl twice) = twice.by_me (sym stands.mine_has ∙ same.0 ∙ stands.base_has)
  untouched_agrees now own same (inr loses) =
      ⊎_elim
      (λ x. absurd (x.0 (sym stands.mine_has ∙ same.0 ∙ stands.base_has)))
      (λ x. parent (sym alike ∙ sym x.1) (sym x.1))
      loses.there
    where
      alike : map.get active place.path ≡ map.get mine place.path
      alike = sym stands.active_has ∙ same.1 ∙ sym same.0 ∙ stands.mine_has

      parent : map.get mine place.path ≡ Some loses.value → map.get active place.path ≡ Some loses.value → ⊥
      parent c a =
          ⊎_elim
          (λ x. no_value _ (sym x.1) ((own.statements.parents place.path (ap is_some c)).parent loses.inner))
          (λ x. no_value _ (sym x.1) ((now.statements.parents place.path (ap is_some a)).parent loses.inner))
          loses.gone

  pub twice_conflicts : AreTwo place → Conflicts base active mine place.path
  twice_conflicts two = inl record {
    by_me = λ e. two.0 (stands.mine_has ∙ e ∙ sym stands.base_has);
    by_others = λ e. two.1 (stands.active_has ∙ e ∙ sym stands.base_has);
    apart = λ e. two.2 (stands.mine_has ∙ e ∙ sym stands.active_has);
  }

  as_merged : (o : Option Value) → IsMergedValue place.base place.active place.mine o → IsMergedAt base active mine place.path o
  as_merged o (inl x) = inl (λ e. x.0 (stands.mine_has ∙ e ∙ sym stands.base_has), x.1 ∙ stands.mine_has)
  as_merged o (inr x) = inr (sym stands.mine_has ∙ x.0 ∙ stands.base_has, x.1 ∙ stands.active_has)

  as_standing : (o : Option Value) → IsMergedAt base active mine place.path o → IsMergedValue place.base place.active place.mine o
  as_standing o (inl x) = inl (λ e. x.0 (sym stands.mine_has ∙ e ∙ stands.base_has), x.1 ∙ sym stands.mine_has)
  as_standing o (inr x) = inr (stands.mine_has ∙ x.0 ∙ sym stands.base_has, x.1 ∙ sym stands.active_has)

  not_twice : ¬ (AreTwo place) → ¬ (IsChangedTwice base active mine place.path)
  not_twice not_two twice = not_two (
    λ e. twice.by_me (sym stands.mine_has ∙ e ∙ stands.base_has),
    λ e. twice.by_others (sym stands.active_has ∙ e ∙ stands.base_has),
    λ e. twice.apart (sym stands.mine_has ∙ e ∙ stands.active_has),
  )

  -- where both have a statement, and not both changed it, its parent is on both
  pub both_agree : IsTree active → IsTree mine → ¬ (AreTwo place) → IsOnBoth place → ¬ (Conflicts base active mine place.path)
  both_agree now own not_two both (inl twice) = not_twice not_two twice
  both_agree now own not_two both (inr loses) =
      ⊎_elim
      (λ x. no_value _ (sym x.1) ((own.statements.parents place.path (ap is_some (sym stands.mine_has) ∙ both.1)).parent loses.inner))
      (λ x. no_value _ (sym x.1) ((now.statements.parents place.path (ap is_some (sym stands.active_has) ∙ both.0)).parent loses.inner))
      loses.gone

  -- where nothing is merged, and not both changed it
  pub gone_agrees : ¬ (AreTwo place) → IsMergedValue place.base place.active place.mine None → ¬ (Conflicts base active mine place.path)
  gone_agrees not_two gone (inl twice) = not_twice not_two twice
  gone_agrees not_two gone (inr loses) =
      let same = merged_once place.base place.active place.mine None (Some loses.value) gone (as_standing (Some loses.value) loses.there) in cc

  loses_parent : ¬ (IsMergedValue place.base place.active place.mine None) → HasNoParent base active mine place.path → Conflicts base active mine place.path
  loses_parent not_gone no_parent =
      let kept = stays place.base place.active place.mine not_gone
      in inr record { value = kept.value; there = as_merged (Some kept.value) kept.is; inner = no_parent.0; gone = no_parent.1 }

  loses : ¬ (AreTwo place) → Conflicts base active mine place.path → HasNoParent base active mine place.path
  loses not_two (inl twice) = absurd (not_twice not_two twice)
  loses not_two (inr lost) = (lost.inner, lost.gone)

  -- elsewhere the parent decides
  pub parent_decides : ¬ (AreTwo place) → ¬ (IsMergedValue place.base place.active place.mine None) → (path : List Step) → path ≡ place.path
      → (answer : Result Bool NoMemory) → IfOk answer (λ lacks. Decides lacks (HasNoParent base active mine path))
      → IfOk answer (λ found. Decides found (Conflicts base active mine place.path))
  parent_decides not_two not_gone path same (Err fault) decides = tt
  parent_decides not_two not_gone path same (Ok lacks) decides =
      let here = subst (λ (q : List Step). Decides lacks (HasNoParent base active mine q)) same decides
      in (λ h. loses_parent not_gone (here.0 h), λ conflicts. here.1 (loses not_two conflicts))

-- what would be merged is too much
pub too_many : (base active mine merged : Statements) (own : List Stand) → IsOwn base active mine own → merged ≡ with_values active own
    → MAX_STATEMENTS < size_of merged → IsTooMany base active mine
too_many base active mine merged own is same many = record {
  agree = is.agree;
  merged = merged;
  made = subst (λ (m : Statements). IsMergeOf base active mine m) (sym same) is.made;
  many = many;
}
