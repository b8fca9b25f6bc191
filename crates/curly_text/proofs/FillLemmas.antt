-- The statements of a tree, said in printing order, make that tree.
use Rattle.std.proofs.Common.{◌≡◌, ◌≢◌, ℕ, zero, suc, ◌+◌, ◌≤◌, Bool, true, false, cond, List, [], ◌∷◌, ◌++◌, length, map as each, filter, flat_map, refl, sym, ap, subst, ◌∙◌, inl, inr, Option, Some, None, is_some, is_none, option_map, if◌then◌else◌, ◌&&◌, arith, length-append, append-nil}
use Rattle.std.specs.FinMap as map
use Rattle.std.proofs.lemmas.List.{append_assoc, append_cancel_left}
use Rattle.cfg_base.specs.Order.{path_cmp}
use Rattle.cfg_base.specs.declared.path.Step.{Step}
use Rattle.cfg_base.specs.declared.path.TheConstants.{MAX_STEPS}
use Rattle.cfg_base.specs.declared.value.Value.{Value}
use Rattle.cfg_entries.specs.EntryMap.{Pair}
use Rattle.cfg_schema.specs.Place.{top_place, place_of}
use Rattle.cfg_tree.specs.Statements.{Statements, parent_of, last_of}
use Rattle.cfg_tree.specs.Tree.{ordered_head, IsTree}
use Rattle.cfg_tree.specs.Change.{has_head, with_order, put_last, put_at}
use Rattle.cfg_tree.specs.Children.{children_of}
use Rattle.cfg_tree.specs.Gather.{joined_at}
use Rattle.cfg_tree.specs.Stated.{stated_one, stated, stated_from_none}
use Rattle.cfg_tree.proofs.MapLemmas.{same_statements}
use Rattle.cfg_tree.proofs.PathLemmas.{child_longer, child_differs, get_here, get_other, renamed, order_at, order_other}
use Rattle.cfg_tree.proofs.FollowLemmas.{typed_place}
use Rattle.cfg_tree.proofs.StatedLemmas.{stated-append}
pub use Rattle.printing_order.proofs.ListedLemmas.{Lists, Differ, children_differ, child_there, there_listed, none_below, parent_child, no_deeper}
use Rattle.curly_text.proofs.OrderBackLemmas.{ordered_names, order_back}

-- a statement without its order, and the statements below it; none where it isn't there
abbrev pub item_and : List Step → Option Value → List (Pair Value) → List (Pair Value)
item_and path None inner = []
item_and path (Some value) inner = (path, record value { order = [] }) ∷ inner

-- the statements below a path in printing order, so many levels deep
unfoldable pub items_below : ℕ → Statements → List Step → List (Pair Value)
items_below zero m path = []
items_below (suc levels) m path =
    flat_map (λ (step : Step). item_and (path ++ step ∷ []) (map.get m (path ++ step ∷ [])) (items_below levels m (path ++ step ∷ []))) (children_of m path)

-- a child of a path with what is below it
abbrev pub child_items : ℕ → Statements → List Step → Step → List (Pair Value)
child_items levels m path step = item_and (path ++ step ∷ []) (map.get m (path ++ step ∷ [])) (items_below levels m (path ++ step ∷ []))

longer : (p rest : List Step) (s : Step) → p ++ s ∷ rest ≢ p
longer p rest s e = let k = ap (λ (xs : List Step). length xs) e in omega (arith, k, length-append p (s ∷ rest))

same_first : (p a b : List Step) (s t : Step) → p ++ s ∷ a ≡ p ++ t ∷ b → s ≡ t
same_first p a b s t e = let f = append_cancel_left p (s ∷ a) (t ∷ b) e in cc

-- what saying these children of a path, with all below them, makes of statements that have none of it
pub record Adds (m x y : Statements) (p steps : List Step) : Type 0 where
  pub inside : (s : Step) (rest : List Step) → Lists steps s → map.get y (p ++ s ∷ rest) ≡ map.get m (p ++ s ∷ rest)
  pub outside : (q : List Step) → q ≢ p → ((s : Step) (rest : List Step) → Lists steps s → q ≢ p ++ s ∷ rest) → map.get y q ≡ map.get x q
  pub here : map.get y p ≡ option_map (renamed (λ names. names ++ ordered_names p steps)) (map.get x p)

more_names : (o : Option Value) → o ≡ option_map (renamed (λ names. names ++ [])) o
more_names None = refl
more_names (Some v) = ap (λ (names : List (List ℕ)). Some (record v { order = names })) (sym (append-nil v.order))

adds_none : (m x : Statements) (p : List Step) → Adds m x x p []
adds_none m x p = record {
  inside = λ s rest l. absurd l;
  outside = λ q d h. refl;
  here = more_names (map.get x p);
}

names_more : (p : List Step) (s : Step) (steps : List Step) → ordered_names p (s ∷ steps) ≡ ordered_names p (s ∷ []) ++ ordered_names p steps
names_more p s steps = by_test (has_head (ordered_head (place_of p)) s)
  where
    by_test : (b : Bool) → each (λ (t : Step). t.name) (cond b (s ∷ filter (has_head (ordered_head (place_of p))) steps) (filter (has_head (ordered_head (place_of p))) steps))
        ≡ each (λ (t : Step). t.name) (cond b (s ∷ []) []) ++ each (λ (t : Step). t.name) (filter (has_head (ordered_head (place_of p))) steps)
    by_test true = refl
    by_test false = refl

named_twice : (a b : List (List ℕ)) (o : Option Value)
    → option_map (renamed (λ names. names ++ b)) (option_map (renamed (λ names. names ++ a)) o) ≡ option_map (renamed (λ names. names ++ (a ++ b))) o
named_twice a b None = refl
named_twice a b (Some v) = ap (λ (names : List (List ℕ)). Some (record v { order = names })) (append_assoc v.order a b)

adds_more : (m x z y : Statements) (p : List Step) (s : Step) (steps : List Step) → (Lists steps s → ⊥)
    → Adds m x z p (s ∷ []) → Adds m z y p steps → Adds m x y p (s ∷ steps)
adds_more m x z y p s steps apart one rest = record {
  inside = λ t below l. elim l [
    | inl e ↦
        subst (λ (u : Step). map.get y (p ++ u ∷ below) ≡ map.get m (p ++ u ∷ below)) (sym e)
        (rest.outside (p ++ s ∷ below) (longer p below s) (λ u other l f. apart (subst (λ (v : Step). Lists steps v) (sym (same_first p below other s u f)) l))
        ∙ one.inside s below (inl refl))
    | inr r ↦ rest.inside t below r
  ];
  outside = λ q d h.
      rest.outside q d (λ u below l. h u below (inr l))
      ∙ one.outside q d (λ u below l. elim l [ inl e ↦ h u below (inl e) | inr r ↦ absurd r ]);
  here =
      rest.here
      ∙ ap (λ (o : Option Value). option_map (renamed (λ names. names ++ ordered_names p steps)) o) one.here
      ∙ named_twice (ordered_names p (s ∷ [])) (ordered_names p steps) (map.get x p)
      ∙ ap (λ (more : List (List ℕ)). option_map (renamed (λ names. names ++ more)) (map.get x p)) (sym (names_more p s steps));
}

-- a new child of a path
module _ (x : Statements) (p : List Step) (s : Step) (w : Value) (new : map.get x (p ++ s ∷ []) ≡ None) where
  abbrev put_by : Bool → Statements
  put_by b = if b then with_order (map.insert x (p ++ s ∷ []) w) p (put_last s.name) else map.insert x (p ++ s ∷ []) w

  one_new : stated_one x (p ++ s ∷ [], w) ≡ put_by (has_head (ordered_head (place_of p)) s)
  one_new =
      ap (λ (o : Option Value). put_at x (p ++ s ∷ []) (joined_at (p ++ s ∷ []) o w)) new
      ∙ ap (λ (o : Option Value). if is_none o && has_head (ordered_head (place_of (parent_of (p ++ s ∷ [])))) (last_of (p ++ s ∷ []))
      then with_order (map.insert x (p ++ s ∷ []) w) (parent_of (p ++ s ∷ [])) (put_last (last_of (p ++ s ∷ [])).name) else map.insert x (p ++ s ∷ []) w) new
      ∙ ap (λ (q : List Step). if has_head (ordered_head (place_of q)) (last_of (p ++ s ∷ []))
      then with_order (map.insert x (p ++ s ∷ []) w) q (put_last (last_of (p ++ s ∷ [])).name) else map.insert x (p ++ s ∷ []) w) (parent_child p s).0
      ∙ ap (λ (t : Step). if has_head (ordered_head (place_of p)) t then with_order (map.insert x (p ++ s ∷ []) w) p (put_last t.name) else map.insert x (p ++ s ∷ []) w) (parent_child p s).1

  put_here : (b : Bool) → map.get (put_by b) (p ++ s ∷ []) ≡ Some w
  put_here true = order_other (map.insert x (p ++ s ∷ []) w) p (p ++ s ∷ []) (put_last s.name) (child_differs p s) ∙ get_here x (p ++ s ∷ []) w
  put_here false = get_here x (p ++ s ∷ []) w

  parent_differs : p ≢ p ++ s ∷ []
  parent_differs e = child_differs p s (sym e)

  put_above : (b : Bool) → map.get (put_by b) p ≡ option_map (renamed (λ names. names ++ each (λ (t : Step). t.name) (cond b (s ∷ []) []))) (map.get x p)
  put_above true =
      order_at (map.insert x (p ++ s ∷ []) w) p (put_last s.name)
      ∙ ap (λ (o : Option Value). option_map (renamed (put_last s.name)) o) (get_other x (p ++ s ∷ []) p w parent_differs)
  put_above false = get_other x (p ++ s ∷ []) p w parent_differs ∙ more_names (map.get x p)

  put_other : (b : Bool) (q : List Step) → q ≢ p → q ≢ p ++ s ∷ [] → map.get (put_by b) q ≡ map.get x q
  put_other true q d e = order_other (map.insert x (p ++ s ∷ []) w) p q (put_last s.name) d ∙ get_other x (p ++ s ∷ []) q w e
  put_other false q d e = get_other x (p ++ s ∷ []) q w e

  new_here : map.get (stated_one x (p ++ s ∷ [], w)) (p ++ s ∷ []) ≡ Some w
  new_here = ap (λ (y : Statements). map.get y (p ++ s ∷ [])) one_new ∙ put_here _

  new_above : map.get (stated_one x (p ++ s ∷ [], w)) p ≡ option_map (renamed (λ names. names ++ ordered_names p (s ∷ []))) (map.get x p)
  new_above = ap (λ (y : Statements). map.get y p) one_new ∙ put_above (has_head (ordered_head (place_of p)) s)

  new_other : (q : List Step) → q ≢ p → q ≢ p ++ s ∷ [] → map.get (stated_one x (p ++ s ∷ [], w)) q ≡ map.get x q
  new_other q d e = ap (λ (y : Statements). map.get y q) one_new ∙ put_other _ q d e

-- a child of a path is said, and then what is below it
module _ (m : Statements) (tree : IsTree m) (p : List Step) (s : Step) (v : Value) (found : map.get m (p ++ s ∷ []) ≡ Some v)
    (x y : Statements) (free : (rest : List Step) → map.get x (p ++ s ∷ rest) ≡ None)
    (below : Adds m (stated_one x (p ++ s ∷ [], record v { order = [] })) y (p ++ s ∷ []) (children_of m (p ++ s ∷ []))) where
  abbrev child : List Step
  child = p ++ s ∷ []

  along : (rest : List Step) → (p ++ s ∷ []) ++ rest ≡ p ++ s ∷ rest
  along rest = append_assoc p (s ∷ []) rest

  names_given : ordered_names (p ++ s ∷ []) (children_of m (p ++ s ∷ [])) ≡ v.order
  names_given =
      let there = typed_place (p ++ s ∷ []) top_place (tree.typed.paths (p ++ s ∷ []) (ap is_some found))
      in order_back m (p ++ s ∷ []) there.0 v tree there.1 found

  said_here : map.get y (p ++ s ∷ []) ≡ Some v
  said_here =
      below.here
      ∙ ap (λ (o : Option Value). option_map (renamed (λ names. names ++ ordered_names (p ++ s ∷ []) (children_of m (p ++ s ∷ [])))) o)
      (new_here x p s (record v { order = [] }) (free []))
      ∙ ap (λ (names : List (List ℕ)). Some (record v { order = names })) names_given

  said_below : (t : Step) (rest : List Step) (o : Option Value) → map.get m ((p ++ s ∷ []) ++ t ∷ []) ≡ o
      → map.get y ((p ++ s ∷ []) ++ t ∷ rest) ≡ map.get m ((p ++ s ∷ []) ++ t ∷ rest)
  said_below t rest (Some u) e = below.inside t rest (there_listed m tree (p ++ s ∷ []) t (ap is_some e))
  said_below t rest None e =
      below.outside ((p ++ s ∷ []) ++ t ∷ rest) (longer (p ++ s ∷ []) rest t)
      (λ u other l f.
      let gone = ap is_some e
      in let there = child_there m tree (p ++ s ∷ []) u l
      in let same = same_first (p ++ s ∷ []) rest other t u f
      in let also = ap (λ (z : Step). is_some (map.get m ((p ++ s ∷ []) ++ z ∷ []))) same
      in cc)
      ∙ new_other x p s (record v { order = [] }) (free []) ((p ++ s ∷ []) ++ t ∷ rest)
      (λ f. longer p (t ∷ rest) s (sym (along (t ∷ rest)) ∙ f)) (longer (p ++ s ∷ []) rest t)
      ∙ ap (λ (q : List Step). map.get x q) (along (t ∷ rest))
      ∙ free (t ∷ rest)
      ∙ sym (ap (λ (q : List Step). map.get m q) (sym (append_assoc (p ++ s ∷ []) (t ∷ []) rest))
      ∙ none_below m rest ((p ++ s ∷ []) ++ t ∷ []) tree.statements (omega (arith, child_longer (p ++ s ∷ []) t)) e)

  said_inside : (rest : List Step) → map.get y ((p ++ s ∷ []) ++ rest) ≡ map.get m ((p ++ s ∷ []) ++ rest)
  said_inside [] = ap (λ (q : List Step). map.get y q) (append-nil (p ++ s ∷ [])) ∙ said_here ∙ sym found ∙ sym (ap (λ (q : List Step). map.get m q) (append-nil (p ++ s ∷ [])))
  said_inside (t ∷ rest) = said_below t rest _ refl

  adds_child : Adds m x y p (s ∷ [])
  adds_child = record {
    inside = λ t rest l. elim l [
      | inl e ↦
          subst (λ (u : Step). map.get y (p ++ u ∷ rest) ≡ map.get m (p ++ u ∷ rest)) (sym e)
          (ap (λ (q : List Step). map.get y q) (sym (along rest)) ∙ said_inside rest ∙ ap (λ (q : List Step). map.get m q) (along rest))
      | inr r ↦ absurd r
    ];
    outside = λ q d h.
        below.outside q (λ e. h s [] (inl refl) e) (λ u rest l e. h s (u ∷ rest) (inl refl) (e ∙ along (u ∷ rest)))
        ∙ new_other x p s (record v { order = [] }) (free []) q d (λ e. h s [] (inl refl) e);
    here =
        below.outside p (λ e. child_differs p s (sym e)) (λ u rest l e. longer p (u ∷ rest) s (sym (along (u ∷ rest)) ∙ sym e))
        ∙ new_above x p s (record v { order = [] }) (free []);
  }

-- so a tree is made of what is said in printing order
module _ (m : Statements) (tree : IsTree m) where
  abbrev AddsBelow : ℕ → List Step → Type 0
  AddsBelow levels p = (x : Statements) → ((s : Step) (rest : List Step) → map.get x (p ++ s ∷ rest) ≡ None)
      → Adds m x (stated x (items_below levels m p)) p (children_of m p)

  one_child : (levels : ℕ) (p : List Step) (s : Step) (o : Option Value) (x : Statements) → map.get m (p ++ s ∷ []) ≡ o → is_some o ≡ true
      → ((rest : List Step) → map.get x (p ++ s ∷ rest) ≡ None) → AddsBelow levels (p ++ s ∷ [])
      → Adds m x (stated x (item_and (p ++ s ∷ []) o (items_below levels m (p ++ s ∷ [])))) p (s ∷ [])
  one_child levels p s None x found there free more = cc
  one_child levels p s (Some v) x found there free more =
      adds_child m tree p s v found x _ free
      (more (stated_one x (p ++ s ∷ [], record v { order = [] }))
      (λ t rest.
      new_other x p s (record v { order = [] }) (free []) ((p ++ s ∷ []) ++ t ∷ rest)
      (λ f. longer p (t ∷ rest) s (sym (append_assoc p (s ∷ []) (t ∷ rest)) ∙ f)) (longer (p ++ s ∷ []) rest t)
      ∙ ap (λ (q : List Step). map.get x q) (append_assoc p (s ∷ []) (t ∷ rest))
      ∙ free (t ∷ rest)))

  all_children : (levels : ℕ) (p steps : List Step) (x : Statements) → Differ steps
      → ((s : Step) → Lists steps s → is_some (map.get m (p ++ s ∷ [])) ≡ true)
      → ((s : Step) (rest : List Step) → Lists steps s → map.get x (p ++ s ∷ rest) ≡ None)
      → ((s : Step) → AddsBelow levels (p ++ s ∷ []))
      → Adds m x (stated x (flat_map (child_items levels m p) steps)) p steps
  all_children levels p [] x differ there free more = adds_none m x p
  all_children levels p (s ∷ steps) x differ there free more =
      let one = one_child levels p s _ x refl (there s (inl refl)) (λ rest. free s rest (inl refl)) (more s)
      in subst (λ (y : Statements). Adds m x y p (s ∷ steps)) (sym (stated-append x (child_items levels m p s) (flat_map (child_items levels m p) steps)))
      (adds_more m x (stated x (child_items levels m p s)) _ p s steps differ.0 one
      (all_children levels p steps (stated x (child_items levels m p s)) differ.1 (λ t l. there t (inr l))
      (λ t rest l.
      one.outside (p ++ t ∷ rest) (longer p rest t)
      (λ u other k f. elim k [
        | inl e ↦ differ.0 (subst (λ (z : Step). Lists steps z) (same_first p rest other t u f ∙ e) l)
        | inr r ↦ absurd r
      ])
      ∙ free t rest (inr l))
      more))

  adds_below : (levels : ℕ) (p : List Step) → 10 ≤ levels + length p → AddsBelow levels p
  unfolding items_below
  adds_below zero p deep x free =
      subst (λ (steps : List Step). Adds m x x p steps) (sym (no_deeper m tree p (omega (arith, deep)))) (adds_none m x p)
  adds_below (suc levels) p deep x free =
      all_children levels p (children_of m p) x (children_differ m tree p) (child_there m tree p) (λ s rest l. free s rest)
      (λ s. adds_below levels (p ++ s ∷ []) (omega (arith, deep, child_longer p s)))

  nothing_there : (q : List Step) → map.get (map.empty {X = Value} {R = path_cmp}) q ≡ None
  nothing_there q = map.get-empty {X = Value} path_cmp q

  from_none : Adds m map.empty (stated_from_none (items_below MAX_STEPS m [])) [] (children_of m [])
  from_none = adds_below MAX_STEPS [] (omega arith) map.empty (λ s rest. nothing_there (s ∷ rest))

  at_each : (q : List Step) → map.get (stated_from_none (items_below MAX_STEPS m [])) q ≡ map.get m q
  at_each [] =
      from_none.here
      ∙ ap (λ (o : Option Value). option_map (renamed (λ names. names ++ ordered_names [] (children_of m []))) o) (nothing_there [])
      ∙ sym tree.statements.top
  at_each (s ∷ rest) = by_child _ refl
    where
      by_child : (o : Option Value) → map.get m (s ∷ []) ≡ o → map.get (stated_from_none (items_below MAX_STEPS m [])) (s ∷ rest) ≡ map.get m (s ∷ rest)
      by_child (Some v) e = from_none.inside s rest (there_listed m tree [] s (ap is_some e))
      by_child None e =
          from_none.outside (s ∷ rest) (longer [] rest s)
          (λ t other l f.
          let gone = ap is_some e
          in let there = child_there m tree [] t l
          in let same = same_first [] rest other s t f
          in let also = ap (λ (z : Step). is_some (map.get m (z ∷ []))) same
          in cc)
          ∙ nothing_there (s ∷ rest)
          ∙ sym (none_below m rest (s ∷ []) tree.statements (omega arith) e)

  -- what is said in printing order, from nothing, is the tree
  pub said_back : m ≡ stated_from_none (items_below MAX_STEPS m [])
  said_back = sym (same_statements _ m at_each)
