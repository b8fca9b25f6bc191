-- A put keeps what holds of a tree's statements.
use Rattle.std.proofs.Common.{◌≡◌, ◌≢◌, ℕ, Bool, true, false, ◌&&◌, ◌||◌, List, [], ◌∷◌, ◌++◌, length, refl, sym, ap, subst, ◌∙◌, Option, Some, None, is_some, is_none, option_map, arith, if◌then◌else◌}
use Rattle.std.specs.Prelude.{IsSome}
use Rattle.std.specs.FinMap as map
use Rattle.std.specs.Cmp.{IsEquivalence, nat_eq_equiv}
use Rattle.std.specs.Cmp.Lexicographic.{lists_equiv}
use Rattle.std.proofs.lemmas.Map.Keys.{IsDistinct-push}
use Rattle.cfg_base.specs.declared.path.Step.{Step}
use Rattle.cfg_base.specs.declared.value.Value.{Value}
use Rattle.cfg_schema.specs.declared.place.Place.{Place}
use Rattle.cfg_schema.specs.Profile.{same_word}
use Rattle.cfg_schema.specs.Place.{place_of}
use Rattle.cfg_schema.proofs.TestLemmas.{both, same, same_is}
use Rattle.cfg_tree.specs.Statements.{Statements, parent_of, last_of, HasParent}
use Rattle.cfg_tree.specs.Typed.{IsTypedPath, AreWordsOf}
use Rattle.cfg_tree.specs.Tree.{ordered_head, step_of, lists, IsOrderBy, IsOrderOf, IsStatementMap, IsTyped}
use Rattle.cfg_tree.specs.Change.{has_head, is_ordered, put_last, IsReady, FitsProfile}
use Rattle.cfg_tree.proofs.PathLemmas.{split, same_ends, child_differs, same_or_not, renamed}

-- an order is the same where the children are
pub order_same : (m n : Statements) (q : List Step) (head : Option (List ℕ)) (names : List (List ℕ))
    → ((name : List ℕ) (h : List ℕ) → head ≡ Some h → is_some (map.get n (q ++ step_of h name ∷ [])) ≡ is_some (map.get m (q ++ step_of h name ∷ [])))
    → IsOrderBy m q head names → IsOrderBy n q head names
order_same m n q None names same_children e = e
order_same m n q (Some h) names same_children order = record {
  once = order.once;
  each = λ name. order.each name ∙ sym (same_children name h refl);
}

words_equiv : IsEquivalence same_word
words_equiv = lists_equiv nat_eq_equiv

lists-push : (names : List (List ℕ)) (name other : List ℕ) → lists (names ++ name ∷ []) other ≡ (lists names other || same_word other name)
lists-push [] name other = or_nothing (same_word other name)
  where
    or_nothing : (b : Bool) → (b || false) ≡ b
    or_nothing true = refl
    or_nothing false = refl
lists-push (x ∷ names) name other = again (same_word other x) _ _ _ (lists-push names name other)
  where
    again : (a b c d : Bool) → b ≡ (c || d) → (a || b) ≡ ((a || c) || d)
    again true b c d e = refl
    again false b c d e = e

-- what a put and a change of the parent's order leave, stated by look-ups
pub record Puts (m n : Statements) (path : List Step) (value : Value) (adds : Bool) : Type 0 where
  pub here : map.get n path ≡ Some value
  pub others : (q : List Step) → q ≢ path → q ≢ parent_of path → map.get n q ≡ map.get m q
  pub parent : map.get n (parent_of path) ≡ option_map (renamed (if adds then put_last (last_of path).name else (λ names. names))) (map.get m (parent_of path))

module _ (m n : Statements) (path : List Step) (value : Value) (adds : Bool)
    (statements : IsStatementMap m) (typed : IsTyped m) (ready : IsReady m path value) (fits : FitsProfile path value) (put : Puts m n path value adds)
    (adds_is : adds ≡ (is_none (map.get m path) && is_ordered path)) where
  path_is : path ≡ parent_of path ++ last_of path ∷ []
  path_is = split path ready.parent.steps

  mapped : {A B : Type 0} (f : A → B) (o : Option A) → is_some (option_map f o) ≡ is_some o
  mapped f None = refl
  mapped f (Some x) = refl

  -- every other path is there where it was
  there : (q : List Step) → q ≢ path → is_some (map.get n q) ≡ is_some (map.get m q)
  there q differs =
      same_or_not q (parent_of path) (is_some (map.get n q) ≡ is_some (map.get m q))
      (λ e. subst (λ (x : List Step). is_some (map.get n x) ≡ is_some (map.get m x)) (sym e)
      (ap is_some put.parent ∙ mapped _ (map.get m (parent_of path))))
      (λ h. ap is_some (put.others q differs h))

  here_there : is_some (map.get n path) ≡ true
  here_there = ap is_some put.here

  -- what was there is there
  stays : (q : List Step) → IsSome (map.get m q) → IsSome (map.get n q)
  stays q h =
      same_or_not q path (IsSome (map.get n q))
      (λ e. subst (λ (x : List Step). IsSome (map.get n x)) (sym e) here_there)
      (λ differs. there q differs ∙ h)

  -- what is there was there, or is the path
  was : (q : List Step) → q ≢ path → IsSome (map.get n q) → IsSome (map.get m q)
  was q differs h = sym (there q differs) ∙ h

  parents : (q : List Step) → IsSome (map.get n q) → HasParent n q
  parents q h =
      same_or_not q path (HasParent n q)
      (λ e. subst (λ (x : List Step). HasParent n x) (sym e)
      record { steps = ready.parent.steps; parent = λ long. stays _ (ready.parent.parent long) })
      (λ differs. let old = statements.parents q (was q differs h)
      in record { steps = old.steps; parent = λ long. stays _ (old.parent long) })

  top_differs : [] ≢ path
  top_differs e = let k = ap (λ (xs : List Step). length xs) e in let some = ready.parent.steps in omega (arith, k, some)

  nothing : (o : Option Value) → is_some o ≡ is_some {T = Value} None → o ≡ None
  nothing None e = refl
  nothing (Some v) e = cc

  top : map.get n [] ≡ None
  top = nothing _ (there [] top_differs ∙ ap is_some statements.top)

  -- the children of another path than the parent are there where they were
  others_children : (q : List Step) (s : Step) → q ≢ parent_of path → is_some (map.get n (q ++ s ∷ [])) ≡ is_some (map.get m (q ++ s ∷ []))
  others_children q s differs =
      there (q ++ s ∷ []) (λ e. differs (same_ends q (parent_of path) s (last_of path) (e ∙ path_is)).0)

  path_not_parent : path ≢ parent_of path
  path_not_parent e = child_differs (parent_of path) (last_of path) (sym path_is ∙ e)

  order_here : IsOrderOf n path value.order
  order_here =
      order_same m n path (ordered_head (place_of path)) value.order
      (λ name h _. others_children path (step_of h name) path_not_parent) ready.order

  is_ordered_by : (h : List ℕ) → ordered_head (place_of (parent_of path)) ≡ Some h → h ≡ (last_of path).head → is_ordered path ≡ true
  is_ordered_by h e f = ap (λ (o : Option (List ℕ)). has_head o (last_of path)) e ∙ same_is _ _ f

  was_there : (o : Option Value) (b c : Bool) → c ≡ false → c ≡ (is_none o && b) → b ≡ true → is_some o ≡ true
  was_there None b c e f g = cc
  was_there (Some v) b c e f g = refl

  kept_child : adds ≡ false → (name h : List ℕ) → ordered_head (place_of (parent_of path)) ≡ Some h
      → is_some (map.get n (parent_of path ++ step_of h name ∷ [])) ≡ is_some (map.get m (parent_of path ++ step_of h name ∷ []))
  kept_child no_more name h e =
      same_or_not (parent_of path ++ step_of h name ∷ []) path _
      (λ is_path.
      let ends = (same_ends (parent_of path) (parent_of path) (step_of h name) (last_of path) (is_path ∙ path_is)).1
      in let before = was_there (map.get m path) (is_ordered path) adds no_more adds_is (is_ordered_by h e (ap (λ (t : Step). t.head) ends))
      in subst (λ (x : List Step). is_some (map.get n x) ≡ is_some (map.get m x)) (sym is_path) (here_there ∙ sym before))
      (λ differs. there _ differs)

  -- the names of the parent's ordered children, where the path is no new one of them
  kept_names : (w : Value) → adds ≡ false → map.get m (parent_of path) ≡ Some w → IsOrderOf n (parent_of path) w.order
  kept_names w no_more e =
      order_same m n (parent_of path) (ordered_head (place_of (parent_of path))) w.order (kept_child no_more) (statements.orders _ w e)

  or_true : (a b : Bool) → b ≡ true → (a || b) ≡ true
  or_true true b h = refl
  or_true false b h = h

  or_false : (a b : Bool) → b ≡ false → (a || b) ≡ a
  or_false true b h = refl
  or_false false b h = h

  absent : (o : Option Value) → is_none o ≡ true → is_some o ≡ false
  absent None e = refl
  absent (Some v) e = cc

  not_same : (xs ys : List ℕ) (b : Bool) → same_word xs ys ≡ b → xs ≢ ys → b ≡ false
  not_same xs ys true e h = absurd (h (same _ _ e))
  not_same xs ys false e h = refl

  more_by : (w : Value) (oh : Option (List ℕ)) → ordered_head (place_of (parent_of path)) ≡ oh → is_none (map.get m path) ≡ true
      → has_head oh (last_of path) ≡ true → IsOrderBy m (parent_of path) oh w.order
      → IsOrderBy n (parent_of path) oh (put_last (last_of path).name w.order)
  more_by w None e new headed order = cc
  more_by w (Some h) e new headed order =
      let heads = same _ _ headed
      in let path_by : path ≡ parent_of path ++ step_of h (last_of path).name ∷ [] =
      path_is ∙ ap (λ (x : List ℕ). parent_of path ++ step_of x (last_of path).name ∷ []) (sym heads)
      in let unlisted_yet = order.each (last_of path).name ∙ ap (λ (x : List Step). is_some (map.get m x)) (sym path_by) ∙ absent _ new
      in record {
        once = IsDistinct-push words_equiv w.order (last_of path).name order.once unlisted_yet;
        each = λ name.
            lists-push w.order (last_of path).name name
            ∙ same_or_not (parent_of path ++ step_of h name ∷ []) path
            ((lists w.order name || same_word name (last_of path).name) ≡ is_some (map.get n (parent_of path ++ step_of h name ∷ [])))
            (λ is_path.
            let ends = (same_ends (parent_of path) (parent_of path) (step_of h name) (last_of path) (is_path ∙ path_is)).1
            in or_true _ _ (same_is _ _ (ap (λ (t : Step). t.name) ends))
            ∙ sym here_there ∙ ap (λ (x : List Step). is_some (map.get n x)) (sym is_path))
            (λ differs.
            let other : name ≢ (last_of path).name = λ same_name.
            differs (ap (λ (x : List ℕ). parent_of path ++ step_of h x ∷ []) same_name ∙ sym path_by)
            in or_false _ _ (not_same name (last_of path).name _ refl other) ∙ order.each name ∙ sym (there _ differs));
      }

  -- and where it is
  more_names : (w : Value) → adds ≡ true → map.get m (parent_of path) ≡ Some w → IsOrderOf n (parent_of path) (put_last (last_of path).name w.order)
  more_names w more e =
      let parts = both (is_none (map.get m path)) _ (sym adds_is ∙ more)
      in more_by w _ refl parts.0 parts.1 (statements.orders _ w e)

  same_some : (v w : Value) → Some v ≡ Some w → v ≡ w
  same_some v w e = cc

  parent_by : (v : Value) (o : Option Value) (b : Bool) → map.get m (parent_of path) ≡ o → adds ≡ b
      → option_map (renamed (if b then put_last (last_of path).name else (λ names. names))) o ≡ Some v → IsOrderOf n (parent_of path) v.order
  parent_by v None b e f g = cc
  parent_by v (Some w) true e f g =
      subst (λ (x : Value). IsOrderOf n (parent_of path) x.order) (same_some _ _ g) (more_names w f e)
  parent_by v (Some w) false e f g =
      subst (λ (x : Value). IsOrderOf n (parent_of path) x.order) (same_some _ _ g) (kept_names w f e)

  order_parent : (v : Value) → map.get n (parent_of path) ≡ Some v → IsOrderOf n (parent_of path) v.order
  order_parent v e = parent_by v _ _ refl refl (sym put.parent ∙ e)

  orders : (q : List Step) (v : Value) → map.get n q ≡ Some v → IsOrderOf n q v.order
  orders q v e =
      same_or_not q path (IsOrderOf n q v.order)
      (λ is_path.
      let is_value = same_some value v (sym put.here ∙ ap (λ (x : List Step). map.get n x) (sym is_path) ∙ e)
      in subst (λ (x : List Step). IsOrderOf n x v.order) (sym is_path)
      (subst (λ (x : Value). IsOrderOf n path x.order) is_value order_here))
      (λ differs. same_or_not q (parent_of path) (IsOrderOf n q v.order)
      (λ is_parent. subst (λ (x : List Step). IsOrderOf n x v.order) (sym is_parent) (order_parent v (subst (λ (x : List Step). map.get n x ≡ Some v) is_parent e)))
      (λ not_parent. order_same m n q (ordered_head (place_of q)) v.order
      (λ name h _. others_children q (step_of h name) not_parent)
      (statements.orders q v (sym (put.others q differs not_parent) ∙ e))))

  paths : (q : List Step) → IsSome (map.get n q) → IsTypedPath q
  paths q h =
      same_or_not q path (IsTypedPath q)
      (λ e. subst (λ (x : List Step). IsTypedPath x) (sym e) fits.typed)
      (λ differs. typed.paths q (was q differs h))

  words_by : (v : Value) (o : Option Value) (here : Place) → map.get m (parent_of path) ≡ o
      → option_map (renamed (if adds then put_last (last_of path).name else (λ names. names))) o ≡ Some v
      → place_of (parent_of path) ≡ Some here → AreWordsOf here.row v.words
  words_by v None here e g placed = cc
  words_by v (Some w) here e g placed =
      subst (λ (x : Value). AreWordsOf here.row x.words) (same_some _ _ g) (typed.words (parent_of path) w here e placed)

  words : (q : List Step) (v : Value) (here : Place) → map.get n q ≡ Some v → place_of q ≡ Some here → AreWordsOf here.row v.words
  words q v here e placed =
      same_or_not q path (AreWordsOf here.row v.words)
      (λ is_path.
      let is_value = same_some value v (sym put.here ∙ ap (λ (x : List Step). map.get n x) (sym is_path) ∙ e)
      in subst (λ (x : Value). AreWordsOf here.row x.words) is_value
      (fits.words here (ap (λ (x : List Step). place_of x) (sym is_path) ∙ placed)))
      (λ differs. same_or_not q (parent_of path) (AreWordsOf here.row v.words)
      (λ is_parent. words_by v _ here refl
      (sym put.parent ∙ ap (λ (x : List Step). map.get n x) (sym is_parent) ∙ e)
      (ap (λ (x : List Step). place_of x) (sym is_parent) ∙ placed))
      (λ not_parent. typed.words q v here (sym (put.others q differs not_parent) ∙ e) placed))

  pub put_statements : IsStatementMap n
  put_statements = record { top = top; parents = parents; orders = orders }

  pub put_typed : IsTyped n
  put_typed = record { paths = paths; words = words }
