-- What a copy and a change of a name leave is a tree.
use Rattle.std.proofs.Common.{◌≡◌, ◌≢◌, ℕ, ◌<◌, ◌≤◌, Bool, true, false, List, [], ◌∷◌, ◌++◌, length, length-append, append_assoc, append-nil, refl, sym, ap, subst, ◌∙◌, Option, Some, None, is_some, option_map, arith, if◌then◌else◌}
use Rattle.std.specs.Prelude.{IsSome}
use Rattle.std.specs.FinMap as map
use Rattle.cfg_base.specs.declared.path.Step.{Step}
use Rattle.cfg_base.specs.declared.value.Value.{Value}
use Rattle.cfg_schema.specs.declared.place.Place.{Place}
use Rattle.cfg_schema.specs.Place.{place_of}
use Rattle.cfg_tree.specs.declared.limit.TheConstants.{MAX_STATEMENTS}
use Rattle.cfg_tree.specs.Statements.{Statements, size_of, parent_of, last_of, is_below, HasParent}
use Rattle.cfg_tree.specs.Typed.{IsTypedPath, AreWordsOf}
use Rattle.cfg_tree.specs.Tree.{ordered_head, step_of, IsOrderBy, IsOrderOf, IsTree}
use Rattle.cfg_tree.specs.Moving.{IsNewName, Moves, reordered}
use Rattle.cfg_tree.proofs.PathLemmas.{split, same_ends, same_or_not}
use Rattle.cfg_tree.proofs.BelowLemmas.{below_more, below_first}
use Rattle.cfg_tree.proofs.OnceLemmas.{below_rest}
use Rattle.cfg_tree.proofs.PutLemmas.{order_same}
use Rattle.cfg_tree.proofs.StepLemmas.{parent_out}
use Rattle.cfg_tree.proofs.PartLemmas.{below_more_steps}
use Rattle.cfg_tree.proofs.BesideLemmas.{parent_behind, from_parent, lengths, none_new, same_place, typed_new}

-- an order is the same below another path where the children are
order_across : (m n : Statements) (p q : List Step) (head : Option (List ℕ)) (names : List (List ℕ))
    → ((name h : List ℕ) → head ≡ Some h → is_some (map.get n (q ++ step_of h name ∷ [])) ≡ is_some (map.get m (p ++ step_of h name ∷ [])))
    → IsOrderBy m p head names → IsOrderBy n q head names
order_across m n p q None names same_children e = e
order_across m n p q (Some h) names same_children order = record {
  once = order.once;
  each = λ name. order.each name ∙ sym (same_children name h refl);
}

module _ (m n : Statements) (from to : List Step) (stays : Bool) (change : List (List ℕ) → List (List ℕ))
    (tree : IsTree m) (new : IsNewName m from to) (moves : Moves m n from to stays change) where
  -- where a path stands: below the new name, below the old one, or elsewhere
  pub by_place : (q : List Step) (P : Type 0) → ((rest : List Step) → q ≡ to ++ rest → P) → ((rest : List Step) → q ≡ from ++ rest → P)
      → (is_below from q ≡ false → is_below to q ≡ false → P) → P
  by_place q P at_new at_old elsewhere = by_tests _ _ refl refl
    where
      by_tests : (a b : Bool) → is_below from q ≡ a → is_below to q ≡ b → P
      by_tests true b e f = let r = below_rest from q e in at_old r.0 r.1
      by_tests false true e f = let r = below_rest to q f in at_new r.0 r.1
      by_tests false false e f = elsewhere e f

  old_stays : stays ≡ true → (rest : List Step) → map.get n (from ++ rest) ≡ map.get m (from ++ rest)
  old_stays e rest = moves.old rest ∙ ap (λ (b : Bool). if b then map.get m (from ++ rest) else None) e

  old_goes : stays ≡ false → (rest : List Step) → map.get n (from ++ rest) ≡ None
  old_goes e rest = moves.old rest ∙ ap (λ (b : Bool). if b then map.get m (from ++ rest) else None) e

  by_stay : (P : Type 0) → (stays ≡ true → P) → (stays ≡ false → P) → P
  by_stay P one other = by_test _ refl
    where
      by_test : (b : Bool) → stays ≡ b → P
      by_test true e = one e
      by_test false e = other e

  -- what is there below the old name was there, and stays
  there_old : (rest : List Step) → IsSome (map.get n (from ++ rest)) → (stays ≡ true) × IsSome (map.get m (from ++ rest))
  there_old rest h =
      by_stay _ (λ e. (e, ap is_some (sym (old_stays e rest)) ∙ h))
      (λ e. let none = ap is_some (old_goes e rest) in cc)

  mapped : {A B : Type 0} (f : A → B) (o : Option A) → is_some (option_map f o) ≡ is_some o
  mapped f None = refl
  mapped f (Some x) = refl

  -- what stands elsewhere is there where it was
  pub there : (q : List Step) → is_below from q ≡ false → is_below to q ≡ false → is_some (map.get n q) ≡ is_some (map.get m q)
  there q a b =
      same_or_not q (parent_of from) (is_some (map.get n q) ≡ is_some (map.get m q))
      (λ e. subst (λ (x : List Step). is_some (map.get n x) ≡ is_some (map.get m x)) (sym e)
      (ap is_some moves.parent ∙ mapped _ (map.get m (parent_of from))))
      (λ h. ap is_some (moves.others q a b h))

  old_parent : HasParent m from
  old_parent = from_parent m from to tree.statements new

  -- what was there is there, but below the old name
  stay : (q : List Step) → IsSome (map.get m q) → (stays ≡ false → is_below from q ≡ false) → IsSome (map.get n q)
  stay q h outside =
      by_place q (IsSome (map.get n q))
      (λ rest e. let none = ap is_some (ap (map.get m) e ∙ none_new m from to tree.statements new rest) in cc)
      (λ rest e. by_stay _
      (λ s. ap (λ (x : List Step). is_some (map.get n x)) e ∙ ap is_some (old_stays s rest) ∙ ap (λ (x : List Step). is_some (map.get m x)) (sym e) ∙ h)
      (λ s. let out = outside s in let inside = ap (is_below from) e ∙ below_more_steps from rest in cc))
      (λ a b. there q a b ∙ h)

  from_out : is_below from (parent_of from) ≡ false
  from_out = parent_out from old_parent.steps

  parents_new : (rest : List Step) → IsSome (map.get n (to ++ rest)) → HasParent n (to ++ rest)
  parents_new [] h = subst (λ (p : List Step). HasParent n p) (sym (append-nil to)) record {
    steps = new.steps;
    parent = λ long.
        subst (λ (p : List Step). IsSome (map.get n p)) (sym new.beside)
        (stay (parent_of from) (old_parent.parent (as_long long)) (λ _. from_out));
  }
    where
      as_long : 1 < length to → 1 < length from
      as_long long = subst (λ (k : ℕ). 1 < k) (lengths m from to tree.statements new) long
  parents_new (s ∷ rest) h = record {
    steps = omega (arith, length-append to (s ∷ rest));
    parent = λ _. subst (λ (p : List Step). IsSome (map.get n p)) (sym (parent_behind to (s ∷ rest) some))
        (ap is_some (moves.new (parent_of (s ∷ rest)))
        ∙ ap (λ (p : List Step). is_some (map.get m p)) (sym (parent_behind from (s ∷ rest) some))
        ∙ (tree.statements.parents (from ++ s ∷ rest) (ap is_some (sym (moves.new (s ∷ rest))) ∙ h)).parent longer);
  }
    where
      some : 0 < length (s ∷ rest)
      some = omega arith

      longer : 1 < length (from ++ s ∷ rest)
      longer = let one = old_parent.steps in omega (arith, length-append from (s ∷ rest), one)

  parents : (q : List Step) → IsSome (map.get n q) → HasParent n q
  parents q h =
      by_place q (HasParent n q)
      (λ rest e. subst (λ (p : List Step). HasParent n p) (sym e) (parents_new rest (ap (λ (p : List Step). is_some (map.get n p)) (sym e) ∙ h)))
      (λ rest e.
      let was = there_old rest (ap (λ (p : List Step). is_some (map.get n p)) (sym e) ∙ h)
      in let old = tree.statements.parents q (ap (λ (p : List Step). is_some (map.get m p)) e ∙ was.1)
      in record { steps = old.steps; parent = λ long. stay (parent_of q) (old.parent long) (λ goes. let s = was.0 in cc) })
      (λ a b.
      let old = tree.statements.parents q (sym (there q a b) ∙ h)
      in record { steps = old.steps; parent = λ long. stay (parent_of q) (old.parent long) (λ _. parent_outside q old.steps a) })
    where
      parent_outside : (q : List Step) → 0 < length q → is_below from q ≡ false → is_below from (parent_of q) ≡ false
      parent_outside q long apart = by_test _ refl
        where
          by_test : (b : Bool) → is_below from (parent_of q) ≡ b → b ≡ false
          by_test true e =
              let d = ap (λ (x : List Step). is_below from x) (split q long) ∙ below_more from (parent_of q) (last_of q) e in cc
          by_test false e = refl

  top : map.get n [] ≡ None
  top = by_value _ refl
    where
      by_value : (o : Option Value) → map.get n [] ≡ o → o ≡ None
      by_value None e = refl
      by_value (Some v) e = let steps = (parents [] (ap is_some e)).steps in absurd (omega (arith, steps))

  -- a child of a path elsewhere, but for the parent's, is there where it was
  child_there : (q : List Step) (s : Step) → is_below from q ≡ false → is_below to q ≡ false → q ≢ parent_of from
      → is_some (map.get n (q ++ s ∷ [])) ≡ is_some (map.get m (q ++ s ∷ []))
  child_there q s a b differs = there (q ++ s ∷ []) (outside from old_parent.steps a refl) (outside to new.steps b new.beside)
    where
      outside : (p : List Step) → 0 < length p → is_below p q ≡ false → parent_of p ≡ parent_of from → is_below p (q ++ s ∷ []) ≡ false
      outside p long apart same = by_test _ refl
        where
          by_test : (t : Bool) → is_below p (q ++ s ∷ []) ≡ t → t ≡ false
          by_test true e = absurd (differs
              (sym (same_ends (parent_of p) q (last_of p) s (sym (split p long) ∙ below_first p q s e apart)).0 ∙ same))
          by_test false e = refl

  same_some : (v w : Value) → Some v ≡ Some w → v ≡ w
  same_some v w e = cc

  module _ (order : (w : Value) → map.get m (parent_of from) ≡ Some w → IsOrderOf n (parent_of from) (change w.order)) where
    parent_order : (v : Value) (o : Option Value) → map.get m (parent_of from) ≡ o → option_map (reordered change) o ≡ Some v → IsOrderOf n (parent_of from) v.order
    parent_order v None e f = cc
    parent_order v (Some w) e f = subst (λ (x : Value). IsOrderOf n (parent_of from) x.order) (same_some _ _ f) (order w e)

    orders : (q : List Step) (v : Value) → map.get n q ≡ Some v → IsOrderOf n q v.order
    orders q v e =
        by_place q (IsOrderOf n q v.order)
        (λ rest at. subst (λ (p : List Step). IsOrderOf n p v.order) (sym at)
        (order_across m n (from ++ rest) (to ++ rest) (ordered_head (place_of (to ++ rest))) v.order
        (λ name h _.
        ap (λ (p : List Step). is_some (map.get n p)) (append_assoc to rest (step_of h name ∷ []))
        ∙ ap is_some (moves.new (rest ++ step_of h name ∷ []))
        ∙ ap (λ (p : List Step). is_some (map.get m p)) (sym (append_assoc from rest (step_of h name ∷ []))))
        (subst (λ (o : Option Place). IsOrderBy m (from ++ rest) (ordered_head o) v.order) (sym (same_place m from to tree.statements new rest))
        (tree.statements.orders (from ++ rest) v (sym (moves.new rest) ∙ ap (map.get n) (sym at) ∙ e)))))
        (λ rest at.
        let was = there_old rest (ap (λ (p : List Step). is_some (map.get n p)) (sym at) ∙ ap is_some e)
        in subst (λ (p : List Step). IsOrderOf n p v.order) (sym at)
        (order_same m n (from ++ rest) (ordered_head (place_of (from ++ rest))) v.order
        (λ name h _.
        ap (λ (p : List Step). is_some (map.get n p)) (append_assoc from rest (step_of h name ∷ []))
        ∙ ap is_some (old_stays was.0 (rest ++ step_of h name ∷ []))
        ∙ ap (λ (p : List Step). is_some (map.get m p)) (sym (append_assoc from rest (step_of h name ∷ []))))
        (tree.statements.orders (from ++ rest) v (sym (old_stays was.0 rest) ∙ ap (map.get n) (sym at) ∙ e))))
        (λ a b. same_or_not q (parent_of from) (IsOrderOf n q v.order)
        (λ same. subst (λ (p : List Step). IsOrderOf n p v.order) (sym same)
        (parent_order v _ refl (sym moves.parent ∙ ap (map.get n) (sym same) ∙ e)))
        (λ differs. order_same m n q (ordered_head (place_of q)) v.order
        (λ name h _. child_there q (step_of h name) a b differs)
        (tree.statements.orders q v (sym (moves.others q a b differs) ∙ e))))

    paths : (q : List Step) → IsSome (map.get n q) → IsTypedPath q
    paths q h =
        by_place q (IsTypedPath q)
        (λ rest e. subst (λ (p : List Step). IsTypedPath p) (sym e)
        (typed_new m from to tree.statements new rest
        (tree.typed.paths (from ++ rest) (ap is_some (sym (moves.new rest)) ∙ ap (λ (p : List Step). is_some (map.get n p)) (sym e) ∙ h))))
        (λ rest e. tree.typed.paths q (ap (λ (p : List Step). is_some (map.get m p)) e ∙ (there_old rest (ap (λ (p : List Step). is_some (map.get n p)) (sym e) ∙ h)).1))
        (λ a b. tree.typed.paths q (sym (there q a b) ∙ h))

    parent_words : (v : Value) (o : Option Value) (here : Place) → map.get m (parent_of from) ≡ o → option_map (reordered change) o ≡ Some v
        → place_of (parent_of from) ≡ Some here → AreWordsOf here.row v.words
    parent_words v None here e f placed = cc
    parent_words v (Some w) here e f placed =
        subst (λ (x : Value). AreWordsOf here.row x.words) (same_some _ _ f) (tree.typed.words (parent_of from) w here e placed)

    words : (q : List Step) (v : Value) (here : Place) → map.get n q ≡ Some v → place_of q ≡ Some here → AreWordsOf here.row v.words
    words q v here e placed =
        by_place q (AreWordsOf here.row v.words)
        (λ rest at. tree.typed.words (from ++ rest) v here (sym (moves.new rest) ∙ ap (map.get n) (sym at) ∙ e)
        (sym (same_place m from to tree.statements new rest) ∙ ap (λ (p : List Step). place_of p) (sym at) ∙ placed))
        (λ rest at.
        let was = there_old rest (ap (λ (p : List Step). is_some (map.get n p)) (sym at) ∙ ap is_some e)
        in tree.typed.words q v here (ap (map.get m) at ∙ sym (old_stays was.0 rest) ∙ ap (map.get n) (sym at) ∙ e) placed)
        (λ a b. same_or_not q (parent_of from) (AreWordsOf here.row v.words)
        (λ same. parent_words v _ here refl (sym moves.parent ∙ ap (map.get n) (sym same) ∙ e) (ap (λ (p : List Step). place_of p) (sym same) ∙ placed))
        (λ differs. tree.typed.words q v here (sym (moves.others q a b differs) ∙ e) placed))

    pub moves_keep : size_of n ≤ MAX_STATEMENTS → IsTree n
    moves_keep few = record {
      statements = record { top = top; parents = parents; orders = orders };
      typed = record { paths = paths; words = words };
      few = few;
    }
