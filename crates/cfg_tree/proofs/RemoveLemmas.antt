-- A removal keeps what holds of a tree's statements.
use Rattle.std.proofs.Common.{◌≡◌, ◌≢◌, ℕ, ◌<◌, ◌≤◌, Bool, true, false, cond, not, ◌&&◌, ◌||◌, List, [], ◌∷◌, ◌++◌, length, refl, sym, ap, subst, ◌∙◌, Option, Some, None, is_some, option_map, arith}
use Rattle.std.specs.Prelude.{IsSome}
use Rattle.std.specs.List.{IsDistinct, AllByRecursion}
use Rattle.std.specs.FinMap as map
use Rattle.std.proofs.lemmas.Map.Keys.{IsDistinct-head, IsDistinct-tail, IsDistinct-cons}
use Rattle.cfg_base.specs.declared.path.Step.{Step}
use Rattle.cfg_base.specs.declared.value.Value.{Value}
use Rattle.cfg_schema.specs.declared.place.Place.{Place}
use Rattle.cfg_schema.specs.Profile.{same_word}
use Rattle.cfg_schema.specs.Place.{place_of}
use Rattle.cfg_schema.proofs.TestLemmas.{same, same_is}
use Rattle.cfg_tree.specs.declared.limit.TheConstants.{MAX_STATEMENTS}
use Rattle.cfg_tree.specs.Statements.{Statements, size_of, parent_of, last_of, is_below, HasParent}
use Rattle.cfg_tree.specs.Typed.{IsTypedPath, AreWordsOf}
use Rattle.cfg_tree.specs.Tree.{ordered_head, step_of, lists, IsOrderBy, IsOrderOf, IsTree}
use Rattle.cfg_tree.specs.Change.{has_head, is_ordered, without}
use Rattle.cfg_tree.proofs.PathLemmas.{split, same_ends, child_longer, same_or_not, renamed}
use Rattle.cfg_tree.proofs.BelowLemmas.{below_more, below_first, below_self}
use Rattle.cfg_tree.proofs.OrderLemmas.{top_is_unordered}
use Rattle.cfg_tree.proofs.PutLemmas.{order_same}

-- what a removal leaves, stated by look-ups
pub record Removes (m n : Statements) (path : List Step) : Type 0 where
  pub below : (q : List Step) → is_below path q ≡ true → map.get n q ≡ None
  pub others : (q : List Step) → is_below path q ≡ false → (is_ordered path ≡ true → q ≢ parent_of path) → map.get n q ≡ map.get m q
  pub parent : is_below path (parent_of path) ≡ false → is_ordered path ≡ true
      → map.get n (parent_of path) ≡ option_map (renamed (without (last_of path).name)) (map.get m (parent_of path))
  pub size : size_of n ≤ MAX_STATEMENTS

pub lists-without : (name : List ℕ) (names : List (List ℕ)) (other : List ℕ) → lists (without name names) other ≡ (lists names other && not (same_word name other))
lists-without name [] other = refl
lists-without name (x ∷ names) other = by_tests _ _ refl refl (lists-without name names other)
  where
    by_tests : (a b : Bool) → same_word name x ≡ a → same_word other x ≡ b
        → lists (without name names) other ≡ (lists names other && not (same_word name other))
        → lists (cond (not a) (x ∷ without name names) (without name names)) other ≡ ((b || lists names other) && not (same_word name other))
    by_tests true true e f go =
        let equal = same_is name other (same _ _ e ∙ sym (same _ _ f))
        in go ∙ ap (λ (c : Bool). lists names other && not c) equal ∙ never (lists names other) ∙ sym (ap (λ (c : Bool). not c) equal)
      where
        never : (c : Bool) → (c && false) ≡ false
        never true = refl
        never false = refl
    by_tests true false e f go = go
    by_tests false true e f go =
        ap (λ (c : Bool). c || lists (without name names) other) f ∙ sym (ap (λ (c : Bool). not c) (unequal _ refl))
      where
        unequal : (c : Bool) → same_word name other ≡ c → c ≡ false
        unequal true g = let d = same_is name x (same _ _ g ∙ same _ _ f) in cc
        unequal false g = refl
    by_tests false false e f go = ap (λ (c : Bool). c || lists (without name names) other) f ∙ go

all-without : (y name : List ℕ) (names : List (List ℕ)) → AllByRecursion (λ x. same_word y x ≡ false) names → AllByRecursion (λ x. same_word y x ≡ false) (without name names)
all-without y name [] h = h
all-without y name (x ∷ names) h = by_test (not (same_word name x)) (all-without y name names h.1)
  where
    by_test : (c : Bool) → AllByRecursion (λ z. same_word y z ≡ false) (without name names)
        → AllByRecursion (λ z. same_word y z ≡ false) (cond c (x ∷ without name names) (without name names))
    by_test true go = (h.0, go)
    by_test false go = go

pub distinct-without : (name : List ℕ) (names : List (List ℕ)) → IsDistinct same_word names → IsDistinct same_word (without name names)
distinct-without name [] h = h
distinct-without name (x ∷ names) h =
    by_test (not (same_word name x)) (distinct-without name names (IsDistinct-tail same_word x names h))
  where
    by_test : (c : Bool) → IsDistinct same_word (without name names) → IsDistinct same_word (cond c (x ∷ without name names) (without name names))
    by_test true go = IsDistinct-cons same_word x (without name names) (all-without x name names (IsDistinct-head same_word x names h)) go
    by_test false go = go

module _ (m n : Statements) (path : List Step) (tree : IsTree m) (gone : Removes m n path) where
  mapped : {A B : Type 0} (f : A → B) (o : Option A) → is_some (option_map f o) ≡ is_some o
  mapped f None = refl
  mapped f (Some x) = refl

  -- what isn't below the path is there where it was
  there : (q : List Step) → is_below path q ≡ false → is_some (map.get n q) ≡ is_some (map.get m q)
  there q apart =
      same_or_not q (parent_of path) (is_some (map.get n q) ≡ is_some (map.get m q))
      (λ e. by_order _ refl e)
      (λ h. ap is_some (gone.others q apart (λ _. h)))
    where
      by_order : (b : Bool) → is_ordered path ≡ b → q ≡ parent_of path → is_some (map.get n q) ≡ is_some (map.get m q)
      by_order true f e =
          subst (λ (x : List Step). is_below path x ≡ false → is_some (map.get n x) ≡ is_some (map.get m x)) (sym e)
          (λ not_above. ap is_some (gone.parent not_above f) ∙ mapped _ (map.get m (parent_of path))) apart
      by_order false f e = ap is_some (gone.others q apart (λ t. absurd (clash t f)))
        where
          clash : is_ordered path ≡ true → is_ordered path ≡ false → ⊥
          clash t u = cc

  -- what is there isn't below the path, and was there
  not_below : (q : List Step) → IsSome (map.get n q) → is_below path q ≡ false
  not_below q h = by_test _ refl
    where
      by_test : (b : Bool) → is_below path q ≡ b → is_below path q ≡ false
      by_test true e = let none = ap is_some (gone.below q e) in cc
      by_test false e = e

  was : (q : List Step) → IsSome (map.get n q) → IsSome (map.get m q)
  was q h = sym (there q (not_below q h)) ∙ h

  nothing : (o : Option Value) → is_some o ≡ false → o ≡ None
  nothing None e = refl
  nothing (Some v) e = cc

  top : map.get n [] ≡ None
  top = by_test _ refl
    where
      by_test : (o : Option Value) → map.get n [] ≡ o → o ≡ None
      by_test None e = refl
      by_test (Some v) e = let old = was [] (ap is_some e) in let none = ap is_some tree.statements.top in cc

  parent_not_below : (q : List Step) → 0 < length q → is_below path q ≡ false → is_below path (parent_of q) ≡ false
  parent_not_below q long apart = by_test _ refl
    where
      by_test : (b : Bool) → is_below path (parent_of q) ≡ b → is_below path (parent_of q) ≡ false
      by_test true e =
          let d = below_more path (parent_of q) (last_of q) e
          in let d' = ap (λ (x : List Step). is_below path x) (split q long) ∙ d in cc
      by_test false e = e

  parents : (q : List Step) → IsSome (map.get n q) → HasParent n q
  parents q h =
      let old = tree.statements.parents q (was q h)
      in record {
        steps = old.steps;
        parent = λ long. there (parent_of q) (parent_not_below q old.steps (not_below q h)) ∙ old.parent long;
      }

  has_steps : (q : List Step) (s : Step) → path ≡ q ++ s ∷ [] → 0 < length path
  has_steps q s e = let k = ap (λ (xs : List Step). length xs) e in omega (arith, k, child_longer q s)

  ordered_by : (q : List Step) (h name : List ℕ) → ordered_head (place_of q) ≡ Some h → path ≡ q ++ step_of h name ∷ []
      → (is_ordered path ≡ true) × (parent_of path ≡ q) × (last_of path ≡ step_of h name)
  ordered_by q h name e is_path =
      let ends = same_ends (parent_of path) q (last_of path) (step_of h name) (sym (split path (has_steps q _ is_path)) ∙ is_path)
      in (
        ap (λ (x : List Step). has_head (ordered_head (place_of x)) (last_of path)) ends.0
            ∙ ap (λ (o : Option (List ℕ)). has_head o (last_of path)) e
            ∙ same_is h (last_of path).head (sym (ap (λ (t : Step). t.head) ends.1)),
        ends.0,
        ends.1,
      )

  clash_here : is_ordered path ≡ true → is_ordered path ≡ false → ⊥
  clash_here t u = cc

  -- the children of another path than the parent are there where they were
  others_children : (q : List Step) → is_below path q ≡ false → (is_ordered path ≡ true → q ≢ parent_of path)
      → (name h : List ℕ) → ordered_head (place_of q) ≡ Some h
      → is_some (map.get n (q ++ step_of h name ∷ [])) ≡ is_some (map.get m (q ++ step_of h name ∷ []))
  others_children q apart differs name h e = by_test _ refl
    where
      by_test : (b : Bool) → is_below path (q ++ step_of h name ∷ []) ≡ b
          → is_some (map.get n (q ++ step_of h name ∷ [])) ≡ is_some (map.get m (q ++ step_of h name ∷ []))
      by_test true f =
          let ordered = ordered_by q h name e (below_first path q (step_of h name) f apart)
          in absurd (differs ordered.0 (sym ordered.1))
      by_test false f = there _ f

  same_some : (v w : Value) → Some v ≡ Some w → v ≡ w
  same_some v w e = cc

  not_same : (xs ys : List ℕ) (b : Bool) → same_word xs ys ≡ b → xs ≢ ys → b ≡ false
  not_same xs ys true e h = absurd (h (same _ _ e))
  not_same xs ys false e h = refl

  kept : (a b : Bool) → b ≡ false → (a && not b) ≡ a
  kept true b h = ap not h
  kept false b h = refl

  dropped : (a b : Bool) → b ≡ true → (a && not b) ≡ false
  dropped true b h = ap not h
  dropped false b h = refl

  -- the parent's order without the name is that of the children that are left
  order_by : (w : Value) (oh : Option (List ℕ)) → 0 < length path → is_below path (parent_of path) ≡ false
      → ordered_head (place_of (parent_of path)) ≡ oh → has_head oh (last_of path) ≡ true
      → IsOrderBy m (parent_of path) oh w.order → IsOrderBy n (parent_of path) oh (without (last_of path).name w.order)
  order_by w None long apart e headed order = cc
  order_by w (Some h) long apart e headed order =
      let heads = same _ _ headed
      in let path_by : path ≡ parent_of path ++ step_of h (last_of path).name ∷ [] =
      split path long ∙ ap (λ (x : List ℕ). parent_of path ++ step_of x (last_of path).name ∷ []) (sym heads)
      in record {
        once = distinct-without (last_of path).name w.order order.once;
        each = λ name.
            lists-without (last_of path).name w.order name
            ∙ same_or_not (parent_of path ++ step_of h name ∷ []) path
            ((lists w.order name && not (same_word (last_of path).name name)) ≡ is_some (map.get n (parent_of path ++ step_of h name ∷ [])))
            (λ is_path.
            let ends = same_ends (parent_of path) (parent_of path) (step_of h name) (last_of path) (is_path ∙ split path long)
            in dropped (lists w.order name) _ (same_is _ _ (sym (ap (λ (t : Step). t.name) ends.1)))
            ∙ sym (ap is_some (gone.below path (below_self path)))
            ∙ ap (λ (x : List Step). is_some (map.get n x)) (sym is_path))
            (λ differs.
            let other : (last_of path).name ≢ name = λ same_name.
            differs (ap (λ (x : List ℕ). parent_of path ++ step_of h x ∷ []) (sym same_name) ∙ sym path_by)
            in let outside = not_the_path name h differs apart _ refl
            in kept (lists w.order name) _ (not_same (last_of path).name name _ refl other) ∙ order.each name ∙ sym (there _ outside));
      }
    where
      not_the_path : (name h : List ℕ) → parent_of path ++ step_of h name ∷ [] ≢ path → is_below path (parent_of path) ≡ false
          → (b : Bool) → is_below path (parent_of path ++ step_of h name ∷ []) ≡ b → is_below path (parent_of path ++ step_of h name ∷ []) ≡ false
      not_the_path name h differs apart true f = absurd (differs (sym (below_first path (parent_of path) (step_of h name) f apart)))
      not_the_path name h differs apart false f = f

  parent_order : (v : Value) (o : Option Value) → 0 < length path → is_ordered path ≡ true → is_below path (parent_of path) ≡ false
      → map.get m (parent_of path) ≡ o → option_map (renamed (without (last_of path).name)) o ≡ Some v → IsOrderOf n (parent_of path) v.order
  parent_order v None long ordered apart e f = cc
  parent_order v (Some w) long ordered apart e f =
      subst (λ (x : Value). IsOrderOf n (parent_of path) x.order) (same_some _ _ f)
      (order_by w _ long apart refl ordered (tree.statements.orders (parent_of path) w e))

  long_by : (p : List Step) → is_ordered p ≡ true → 0 < length p
  long_by [] h = let d = top_is_unordered [] refl in cc
  long_by (x ∷ p) h = omega arith

  orders : (q : List Step) (v : Value) → map.get n q ≡ Some v → IsOrderOf n q v.order
  orders q v e =
      same_or_not q (parent_of path) (IsOrderOf n q v.order)
      (λ is_parent. by_order is_parent _ refl)
      (λ differs. elsewhere (λ _. differs))
    where
      apart : is_below path q ≡ false
      apart = not_below q (ap is_some e)

      elsewhere : (is_ordered path ≡ true → q ≢ parent_of path) → IsOrderOf n q v.order
      elsewhere differs =
          order_same m n q (ordered_head (place_of q)) v.order (others_children q apart differs)
          (tree.statements.orders q v (sym (gone.others q apart differs) ∙ e))

      by_order : q ≡ parent_of path → (b : Bool) → is_ordered path ≡ b → IsOrderOf n q v.order
      by_order is_parent true f =
          let apart_there = ap (λ (x : List Step). is_below path x) (sym is_parent) ∙ apart
          in subst (λ (x : List Step). IsOrderOf n x v.order) (sym is_parent)
          (parent_order v _ (long_by path f) f apart_there refl
          (sym (gone.parent apart_there f) ∙ ap (λ (x : List Step). map.get n x) (sym is_parent) ∙ e))
      by_order is_parent false f = elsewhere (λ t. absurd (clash_here t f))

  paths : (q : List Step) → IsSome (map.get n q) → IsTypedPath q
  paths q h = tree.typed.paths q (was q h)

  parent_words : (v : Value) (o : Option Value) (here : Place) → map.get m (parent_of path) ≡ o
      → option_map (renamed (without (last_of path).name)) o ≡ Some v → place_of (parent_of path) ≡ Some here → AreWordsOf here.row v.words
  parent_words v None here e f placed = cc
  parent_words v (Some w) here e f placed =
      subst (λ (x : Value). AreWordsOf here.row x.words) (same_some _ _ f) (tree.typed.words (parent_of path) w here e placed)

  words : (q : List Step) (v : Value) (here : Place) → map.get n q ≡ Some v → place_of q ≡ Some here → AreWordsOf here.row v.words
  words q v here e placed =
      same_or_not q (parent_of path) (AreWordsOf here.row v.words)
      (λ is_parent. by_order is_parent _ refl)
      (λ differs. elsewhere (λ _. differs))
    where
      apart : is_below path q ≡ false
      apart = not_below q (ap is_some e)

      elsewhere : (is_ordered path ≡ true → q ≢ parent_of path) → AreWordsOf here.row v.words
      elsewhere differs = tree.typed.words q v here (sym (gone.others q apart differs) ∙ e) placed

      by_order : q ≡ parent_of path → (b : Bool) → is_ordered path ≡ b → AreWordsOf here.row v.words
      by_order is_parent true f =
          let apart_there = ap (λ (x : List Step). is_below path x) (sym is_parent) ∙ apart
          in parent_words v _ here refl
          (sym (gone.parent apart_there f) ∙ ap (λ (x : List Step). map.get n x) (sym is_parent) ∙ e)
          (ap (λ (x : List Step). place_of x) (sym is_parent) ∙ placed)
      by_order is_parent false f = elsewhere (λ t. absurd (clash_here t f))

  pub remove_keeps : IsTree n
  remove_keeps = record {
    statements = record { top = top; parents = parents; orders = orders };
    typed = record { paths = paths; words = words };
    few = gone.size;
  }
