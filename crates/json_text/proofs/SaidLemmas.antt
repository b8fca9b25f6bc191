-- What is written of a tree says its statements in printing order.
use Rattle.std.proofs.Common.{◌≡◌, inl, inr, ◌<◌, ◌≤◌, ◌+◌, ◌==◌, ℕ, zero, suc, Bool, true, false, cond, List, [], ◌∷◌, ◌++◌, length, map as each, filter, flat_map, refl, sym, ap, subst, ◌∙◌, Option, Some, None, is_some, arith, append_assoc, append-nil, eqb-true, if◌then◌else◌}
use Rattle.std.specs.Prelude.{◌||◌, slice_index_or}
use Rattle.std.specs.FinMap as map
use Rattle.std.specs.List.{AllByRecursion}
use Rattle.std.specs.Ordering.{match_ordering}
use Rattle.std.specs.declared.cmp.Ordering.{Ordering}
use Rattle.std.specs.declared.cmp.Ordering.TheVariants.{Less, Equal, Greater}
use Rattle.std.proofs.lemmas.List.Elements.{All-head, All-tail}
use Rattle.cfg_base.specs.Words.{lists, same_word}
use Rattle.cfg_base.specs.declared.kind.Kind.{Kind}
use Rattle.cfg_base.specs.declared.kind.Shape.{Shape}
use Rattle.cfg_base.specs.declared.kind.Shape.TheVariants.{Container, Fixed, Keyed, Bare, Leaf, Flag, Many}
use Rattle.cfg_base.specs.declared.path.Step.{Step}
use Rattle.cfg_base.specs.declared.path.TheConstants.{MAX_STEPS}
use Rattle.cfg_base.specs.declared.value.Value.{Value}
use Rattle.cfg_schema.specs.declared.place.Place.{Place}
use Rattle.cfg_schema.specs.Profile.{profile, row_of, head_of, is_named, is_level, is_step_of, rows_below, StandsBelow}
use Rattle.cfg_schema.specs.Place.{top_place, entered, place_of}
use Rattle.cfg_schema.proofs.LevelLemmas.{led_to, path_most}
use Rattle.cfg_schema.proofs.TestLemmas.{same, same_is}
use Rattle.cfg_schema.proofs.WordsLemmas.{ordered_told}
use Rattle.cfg_tree.specs.Statements.{Statements, parent_of, last_of}
use Rattle.cfg_tree.specs.Children.{steps_below, order_in, row_steps, step_if, children_of, children_at}
use Rattle.cfg_tree.specs.Tree.{step_of, IsTree}
use Rattle.cfg_tree.specs.Typed.{IsNamed, AreCounted, AreCanonical}
use Rattle.cfg_tree.proofs.PathLemmas.{split, same_ends, child_longer}
use Rattle.cfg_tree.proofs.FollowLemmas.{typed_last, below_is_level}
use Rattle.cfg_values.specs.Spelling.{IsCanonical}
use Rattle.printing_order.proofs.ListedLemmas.{Lists, Differ, children_differ, child_there}
use Rattle.printing_order.proofs.RowsLemmas.{by_rows}
use Rattle.serde_json.specs.Data.{Data, boolean, string, array, Members, no_members, member, put}
use Rattle.serde_json.specs.Find.{get_member}
use Rattle.curly_text.proofs.FillLemmas.{item_and, items_below, child_items, said_back}
use Rattle.serde_json.specs.View.{items_of}
use Rattle.json_text.specs.Keys.{name_key, level_marks_key, marks_key, key_of, row_keys, own_keys, keys_below, keys_at}
use Rattle.json_text.specs.Written.{Pair, put_all, strings, marks_set, listed, marks_at, own_pairs, level_object, alone_at, alone_if, object_if, child_object, child_alone, steps_of_row, pairs_by, pairs_of_row, pairs_at, pairs_below, json_of}
use Rattle.json_text.specs.Said.{Item, Spot, value_said, IsMarked, AreWordsOf, AreManyWords, SaysLevel, IsNameIn, SaysNamed, SaysEach, SaysList, SaysWords, IsLeafWord, IsTrueFlag, SaysRow, NoMarks, SaysRowIf, SaysRows, AreInOrder, AreKeys, SaysInside, top_spot, Says, single_of}
use Rattle.json_text.proofs.LookLemmas.{last_with, get-put_all, last-append, Among, among-append, among-more, last-none, lists-left, lists-right, distinct, distinct-apart, distinct-after, distinct-back}
use Rattle.json_text.proofs.KeyLemmas.{keys_once}
use Rattle.json_text.proofs.MarkLemmas.{marked, marks_among, found_at}
use Rattle.json_text.proofs.OrderLemmas.{names_sorted, names_distinct, differ-left, differ-right, lists-in_left, lists-in_right}
use Rattle.json_text.proofs.RowLemmas.{of_row, own_head, all_stand, single_own, single_steps}

-- the objects of the children of a path
abbrev objects_of : Statements → List Step → (List Step → List Pair) → List Step → List Data
objects_of m path below steps = flat_map (child_object m path below) steps

-- keys
here_first : (key : List ℕ) (keys : List (List ℕ)) → lists (key ∷ keys) key ≡ true
here_first key keys = ap (λ (b : Bool). b || lists keys key) (same_is key key refl)

abbrev keys_by : Shape → List ℕ → List (List ℕ)
keys_by shape key = key ∷ (if is_level shape then [] else marks_key key ∷ [])

marks_second : (key : List ℕ) → lists (key ∷ marks_key key ∷ []) (marks_key key) ≡ true
marks_second key = lists-right (key ∷ []) (marks_key key ∷ []) (marks_key key) (here_first (marks_key key) [])

listed_among : (keys : List (List ℕ)) (key : List ℕ) (ds : List Data) → lists keys key ≡ true → Among keys (listed key ds)
listed_among keys key [] h = tt
listed_among keys key (d ∷ ds) h = (h, tt)

alone_among : (shape : Shape) (key : List ℕ) (step : Step) (o : Option Value) (inner : List Pair) → Among (keys_by shape key) (alone_if shape key step o inner)
alone_among shape key step None inner = tt
alone_among Container key step (Some value) inner = (here_first key [], tt)
alone_among Fixed key step (Some value) inner = (here_first key [], tt)
alone_among Keyed key step (Some value) inner = tt
alone_among Bare key step (Some value) inner = tt
alone_among Leaf key step (Some value) inner = (here_first key (marks_key key ∷ []), marks_among (key ∷ marks_key key ∷ []) (marks_key key) value (marks_second key))
alone_among Flag key step (Some value) inner = (here_first key (marks_key key ∷ []), marks_among (key ∷ marks_key key ∷ []) (marks_key key) value (marks_second key))
alone_among Many key step (Some value) inner = (here_first key (marks_key key ∷ []), marks_among (key ∷ marks_key key ∷ []) (marks_key key) value (marks_second key))

alones_among : (m : Statements) (path : List Step) (below : List Step → List Pair) (id : ℕ) (steps : List Step)
    → Among (row_keys id) (flat_map (child_alone m path below id) steps)
alones_among m path below id [] = tt
alones_among m path below id (step ∷ steps) =
    among-append (row_keys id) (child_alone m path below id step) (flat_map (child_alone m path below id) steps)
    (alone_among (row_of id).shape (key_of id) step (map.get m (path ++ step ∷ [])) (below (path ++ step ∷ []))) (alones_among m path below id steps)

row_among : (m : Statements) (path : List Step) (below : List Step → List Pair) (id : ℕ) → Among (row_keys id) (pairs_of_row m path below id)
row_among m path below id = by_named (is_named (row_of id).shape)
  where
    by_named : (b : Bool) → Among (row_keys id) (pairs_by m path below b id (steps_of_row m path below id))
    by_named true = listed_among (row_keys id) (key_of id) (objects_of m path below (steps_of_row m path below id)) (here_first (key_of id) _)
    by_named false = alones_among m path below id (steps_of_row m path below id)

all_among : (m : Statements) (path : List Step) (below : List Step → List Pair) (ids : List ℕ) → Among (keys_below ids) (flat_map (pairs_of_row m path below) ids)
all_among m path below [] = tt
all_among m path below (id ∷ ids) =
    among-append (keys_below (id ∷ ids)) (pairs_of_row m path below id) (flat_map (pairs_of_row m path below) ids)
    (among-more (row_keys id) (keys_below (id ∷ ids)) (λ k h. lists-left (row_keys id) (keys_below ids) k h) _ (row_among m path below id))
    (among-more (keys_below ids) (keys_below (id ∷ ids)) (λ k h. lists-right (row_keys id) (keys_below ids) k h) _ (all_among m path below ids))

-- each key that is put is one of the level's
keys_match : (here : Place) (o : Ordering) (a b c : Members) → AreKeys here a → AreKeys here b → AreKeys here c → AreKeys here (match_ordering o a b c)
keys_match here Less a b c x y z = x
keys_match here Equal a b c x y z = y
keys_match here Greater a b c x y z = z

keys_put : (here : Place) (k : List ℕ) (d : Data) (ms : Members) → lists (keys_at here) k ≡ true → AreKeys here ms → AreKeys here (put k d ms)
keys_put here k d no_members h a = (h, tt)
keys_put here k d (member l e ms) h a = keys_match here _ (member k d (member l e ms)) (member l d ms) (member l e (put k d ms)) (h, a) (a.0, a.1) (a.0, keys_put here k d ms h a.1)

keys_put_all : (here : Place) (ps : List Pair) (ms : Members) → Among (keys_at here) ps → AreKeys here ms → AreKeys here (put_all ms ps)
keys_put_all here [] ms h a = a
keys_put_all here (p ∷ ps) ms h a = keys_put_all here ps (put p.0 p.1 ms) h.1 (keys_put here p.0 p.1 ms h.0 a)

-- the top isn't a row below another one
top_never : (here : Place) → StandsBelow here.row here.in_group 0 → ⊥
unfolding profile
top_never here h = let e : false ≡ true = h.1 in cc

not_top : (here : Place) (id : ℕ) → StandsBelow here.row here.in_group id → (id == 0) ≡ false
not_top here id h = by_test (id == 0) refl
  where
    by_test : (b : Bool) → (id == 0) ≡ b → b ≡ false
    by_test true e = absurd (top_never here (subst (λ (n : ℕ). StandsBelow here.row here.in_group n) (eqb-true id 0 e) h))
    by_test false e = refl

-- shapes
named_is_level : (shape : Shape) → is_named shape ≡ true → is_level shape ≡ true
named_is_level Container e = cc
named_is_level Fixed e = cc
named_is_level Keyed e = refl
named_is_level Bare e = refl
named_is_level Leaf e = cc
named_is_level Flag e = cc
named_is_level Many e = cc

no_words : (shape : Shape) (words : List (List ℕ)) → is_level shape ≡ true → AreCounted shape words → words ≡ []
no_words Container words e h = h
no_words Fixed words e h = h
no_words Keyed words e h = h
no_words Bare words e h = h
no_words Leaf words e h = cc
no_words Flag words e h = cc
no_words Many words e h = cc

own_among : (id : ℕ) (step : Step) (value : Value) → (id == 0) ≡ false → Among (own_keys id) (own_pairs (is_named (row_of id).shape) step value)
own_among id step value e =
    subst (λ (b : Bool). Among ((if is_named (row_of id).shape then name_key ∷ [] else []) ++ (if b then [] else level_marks_key ∷ [])) (own_pairs (is_named (row_of id).shape) step value)) (sym e)
    (by_named (is_named (row_of id).shape))
  where
    by_named : (b : Bool) → Among ((if b then name_key ∷ [] else []) ++ level_marks_key ∷ []) (own_pairs b step value)
    by_named true = (refl, marks_among (name_key ∷ level_marks_key ∷ []) level_marks_key value refl)
    by_named false = marks_among (level_marks_key ∷ []) level_marks_key value refl

marks_own : (b : Bool) (step : Step) (value : Value) → last_with level_marks_key None (own_pairs b step value) ≡ last_with level_marks_key None (marks_at level_marks_key value)
marks_own true step value = refl
marks_own false step value = refl

marks_listed : (id : ℕ) → (id == 0) ≡ false → lists (own_keys id) level_marks_key ≡ true
marks_listed id e =
    ap (λ (b : Bool). lists ((if is_named (row_of id).shape then name_key ∷ [] else []) ++ (if b then [] else level_marks_key ∷ [])) level_marks_key) e
    ∙ by_named (is_named (row_of id).shape)
  where
    by_named : (b : Bool) → lists ((if b then name_key ∷ [] else []) ++ level_marks_key ∷ []) level_marks_key ≡ true
    by_named true = refl
    by_named false = refl

words_each : (kind : Kind) (words : List (List ℕ)) → AreCanonical kind words → AreWordsOf kind (items_of (strings words)) words
words_each kind [] h = tt
words_each kind (word ∷ words) h = (All-head (IsCanonical kind) word words h, words_each kind words (All-tail (IsCanonical kind) word words h))

leaf_word : (kind : Kind) (words : List (List ℕ)) → length words ≡ 1 → AreCanonical kind words → IsLeafWord kind (string (slice_index_or words 0 [])) words
leaf_word kind [] n h = absurd (omega (arith, n))
leaf_word kind (word ∷ []) n h = record { word = word; is_word = All-head (IsCanonical kind) word [] h; alone = refl }
leaf_word kind (word ∷ other ∷ words) n h = absurd (omega (arith, n))

some_same : (x y : Value) → Some x ≡ Some y → x ≡ y
some_same x y e = cc

none_some : (y : Value) → None ≡ Some y → ⊥
none_some y e = cc

module _ (m : Statements) (tree : IsTree m) where
  abbrev SaysBelow : ℕ → List Step → Type 0
  SaysBelow levels path = (here : Place) → place_of path ≡ Some here → (own : List Pair) → Among (own_keys here.row) own
      → SaysInside levels (put_all no_members (own ++ pairs_below levels m path)) (record { path = path; place = here }) (items_below levels m path)

  -- what stands in a statement that is no level is nothing
  nothing_in : (path : List Step) (here : Place) → place_of path ≡ Some here → is_level (row_of here.row).shape ≡ false → children_of m path ≡ []
  nothing_in path here placed closed = by_steps (children_of m path) refl
    where
      by_steps : (steps : List Step) → children_of m path ≡ steps → steps ≡ []
      by_steps [] e = refl
      by_steps (s ∷ steps) e =
          let there = child_there m tree path s (subst (λ (ss : List Step). Lists ss s) (sym e) (inl refl))
          in let long : 0 < length (path ++ s ∷ []) = omega (arith, child_longer path s)
          in let typed = tree.typed.paths (path ++ s ∷ []) there
          in let ends = same_ends (parent_of (path ++ s ∷ [])) path (last_of (path ++ s ∷ [])) s (sym (split (path ++ s ∷ []) long))
          in let last = typed_last (path ++ s ∷ []) long typed here (ap (λ (p : List Step). place_of p) ends.0 ∙ placed)
          in let led = led_to here last.0 (last_of (path ++ s ∷ [])) last.1
          in let level = below_is_level here last.0.row (path_most path here placed).0 led.stood
          in cc

  no_items_in : (levels : ℕ) (path : List Step) → children_of m path ≡ [] → items_below levels m path ≡ []
  unfolding items_below
  no_items_in zero path e = refl
  no_items_in (suc levels) path e = ap (λ (steps : List Step). flat_map (child_items levels m path) steps) e

  module _ (n : ℕ) (path : List Step) (here : Place) (placed : place_of path ≡ Some here) (more : (step : Step) → SaysBelow n (path ++ step ∷ [])) where
    abbrev below : List Step → List Pair
    below p = pairs_below n m p

    abbrev spot : Spot
    spot = record { path = path; place = here }

    abbrev steps_at : ℕ → List Step
    steps_at id = row_steps id (order_in (map.get m path)) (steps_below m path)

    abbrev row_items : ℕ → List Item
    row_items id = flat_map (child_items n m path) (steps_at id)

    abbrev own_item : Step → Value → List Item
    own_item step value = (path ++ step ∷ [], record value { order = [] }) ∷ items_below n m (path ++ step ∷ [])

    value_at : (step : Step) → is_some (map.get m (path ++ step ∷ [])) ≡ true → (v : Value) × (map.get m (path ++ step ∷ []) ≡ Some v)
    value_at step there = by_value _ refl there
      where
        by_value : (o : Option Value) → map.get m (path ++ step ∷ []) ≡ o → is_some o ≡ true → (v : Value) × (map.get m (path ++ step ∷ []) ≡ Some v)
        by_value None e h = cc
        by_value (Some v) e h = (v, e)

    module _ (id : ℕ) (stood : StandsBelow here.row here.in_group id) where
      abbrev shape_of : Shape
      shape_of = (row_of id).shape

      abbrev level_members : Step → Value → Members
      level_members step value = put_all no_members (own_pairs (is_named (row_of id).shape) step value ++ below (path ++ step ∷ []))

      -- what stands in the object of a child's level avoids the keys of the level itself
      apart_from_own : (q : List ℕ) → lists (own_keys id) q ≡ true → (step : Step) (value : Value)
          → place_of (path ++ step ∷ []) ≡ Some (entered here id)
          → get_member q (level_members step value) ≡ last_with q None (own_pairs (is_named (row_of id).shape) step value)
      unfolding pairs_below
      apart_from_own q listed_there step value placed_there =
          get-put_all q no_members (own_pairs (is_named (row_of id).shape) step value ++ below (path ++ step ∷ []))
          ∙ last-append q None (own_pairs (is_named (row_of id).shape) step value) (below (path ++ step ∷ []))
          ∙ by_levels n
        where
          by_place : (levels : ℕ) (o : Option Place) → o ≡ Some (entered here id)
              → last_with q (last_with q None (own_pairs (is_named (row_of id).shape) step value)) (pairs_at m (path ++ step ∷ []) (pairs_below levels m) o)
              ≡ last_with q None (own_pairs (is_named (row_of id).shape) step value)
          by_place levels None e = cc
          by_place levels (Some there) e =
              let is : there ≡ entered here id = cc
              in let rows = rows_below there.row there.in_group
              in let differ = keys_once there (subst (λ (p : Place). p.row < length profile) (sym is) stood.0)
              in last-none (keys_below rows) q _ (flat_map (pairs_of_row m (path ++ step ∷ []) (pairs_below levels m)) rows)
              (distinct-apart (own_keys there.row) (keys_below rows) q differ (ap (λ (p : Place). lists (own_keys p.row) q) is ∙ listed_there))
              (all_among m (path ++ step ∷ []) (pairs_below levels m) rows)

          by_levels : (levels : ℕ)
              → last_with q (last_with q None (own_pairs (is_named (row_of id).shape) step value)) (pairs_below levels m (path ++ step ∷ []))
              ≡ last_with q None (own_pairs (is_named (row_of id).shape) step value)
          by_levels zero = refl
          by_levels (suc levels) = by_place levels (place_of (path ++ step ∷ [])) placed_there

      -- the object of a child that is a level
      level_said : (step : Step) (value : Value) → map.get m (path ++ step ∷ []) ≡ Some value → is_step_of id step ≡ true → is_level (row_of id).shape ≡ true
          → SaysLevel (SaysInside n) spot id step (level_members step value) (own_item step value)
      level_said step value found own level =
          let row = of_row m tree path here placed id stood step value found own
          in let e = not_top here id stood
          in record {
            inactive = value.inactive;
            protected = value.protected;
            marks =
                subst (λ (o : Option Data). IsMarked o value.inactive value.protected)
                (sym (apart_from_own level_marks_key (marks_listed id e) step value row.1 ∙ marks_own (is_named (row_of id).shape) step value))
                (marked level_marks_key value);
            inner = items_below n m (path ++ step ∷ []);
            inside = more step (entered here id) row.1 (own_pairs (is_named (row_of id).shape) step value) (own_among id step value e);
            said = ap (λ (words : List (List ℕ)). (path ++ step ∷ [], value_said value.inactive value.protected words) ∷ items_below n m (path ++ step ∷ []))
                (no_words (row_of id).shape value.words level row.0.words.0);
          }

      -- the objects of a list
      module _ (named : is_named (row_of id).shape ≡ true) where
        name_in : (shape : Shape) (name : List ℕ) → is_named shape ≡ true → IsNamed here id shape name → IsNameIn here id shape name name
        name_in Container name e h = cc
        name_in Fixed name e h = cc
        name_in Keyed name e h = h
        name_in Bare name e h = h
        name_in Leaf name e h = cc
        name_in Flag name e h = cc
        name_in Many name e h = cc

        name_there : (step : Step) (value : Value) → place_of (path ++ step ∷ []) ≡ Some (entered here id)
            → get_member name_key (level_members step value) ≡ Some (string step.name)
        name_there step value placed_there =
            apart_from_own name_key (ap (λ (b : Bool). lists ((if b then name_key ∷ [] else []) ++ (if id == 0 then [] else level_marks_key ∷ [])) name_key) named) step value placed_there
            ∙ ap (λ (b : Bool). last_with name_key None (own_pairs b step value)) named
            ∙ marks_apart value.inactive value.protected
          where
            marks_apart : (i p : Bool) → last_with name_key (Some (string step.name)) (listed level_marks_key (strings (marks_set i p))) ≡ Some (string step.name)
            marks_apart true true = refl
            marks_apart true false = refl
            marks_apart false true = refl
            marks_apart false false = refl

        step_made : (step : Step) → step.head ≡ head_of id → step_of (head_of id) step.name ≡ step
        step_made step h = λ i. record { head = sym h i; name = step.name }

        one_said_by : (step : Step) (value : Value) → map.get m (path ++ step ∷ []) ≡ Some value → is_step_of id step ≡ true
            → SaysNamed (SaysInside n) spot id (put_all no_members (own_pairs true step value ++ below (path ++ step ∷ []))) step.name (own_item step value)
        one_said_by step value found own =
            let row = of_row m tree path here placed id stood step value found own
            in subst (λ (b : Bool). SaysNamed (SaysInside n) spot id (put_all no_members (own_pairs b step value ++ below (path ++ step ∷ []))) step.name (own_item step value)) named
            (record {
              bytes = step.name;
              there = name_there step value row.1;
              is_name = name_in (row_of id).shape step.name named row.0.named;
              level =
                  subst (λ (s : Step). SaysLevel (SaysInside n) spot id s (level_members step value) (own_item step value)) (sym (step_made step (own_head id step own)))
                  (level_said step value found own (named_is_level (row_of id).shape named));
            })

        objects_said : (steps : List Step) → ((s : Step) → Lists steps s → is_some (map.get m (path ++ s ∷ [])) ≡ true)
            → AllByRecursion (λ s. is_step_of id s ≡ true) steps
            → SaysEach (SaysInside n) spot id (items_of (objects_of m path below steps)) (each (λ (s : Step). s.name) steps) (flat_map (child_items n m path) steps)
        objects_said [] there owns = (refl, refl)
        objects_said (s ∷ steps) there owns =
            let v = value_at s (there s (inl refl))
            in by_value (map.get m (path ++ s ∷ [])) v.0 v.1 (one_said_by s v.0 v.1 owns.0) (objects_said steps (λ t l. there t (inr l)) owns.1)
          where
            by_value : (o : Option Value) (value : Value) → o ≡ Some value
                → SaysNamed (SaysInside n) spot id (put_all no_members (own_pairs true s value ++ below (path ++ s ∷ []))) s.name (own_item s value)
                → SaysEach (SaysInside n) spot id (items_of (objects_of m path below steps)) (each (λ (t : Step). t.name) steps) (flat_map (child_items n m path) steps)
                → SaysEach (SaysInside n) spot id (items_of (object_if s o (below (path ++ s ∷ [])) ++ objects_of m path below steps)) (s.name ∷ each (λ (t : Step). t.name) steps)
                (item_and (path ++ s ∷ []) o (items_below n m (path ++ s ∷ [])) ++ flat_map (child_items n m path) steps)
            by_value None value e one go = absurd (none_some value e)
            by_value (Some other) value e one go = (
              own_item s other,
              flat_map (child_items n m path) steps,
              subst (λ (u : Value). SaysNamed (SaysInside n) spot id (put_all no_members (own_pairs true s u ++ below (path ++ s ∷ []))) s.name (own_item s u)) (sym (some_same other value e)) one,
              go,
              refl,
            )

        -- what a row with names has at its key
        owns_at : (steps : List Step) → AllByRecursion (λ s. is_step_of id s ≡ true) (filter (is_step_of id) steps)
        owns_at [] = tt
        owns_at (s ∷ steps) = by_test (is_step_of id s) refl (owns_at steps)
          where
            by_test : (b : Bool) → is_step_of id s ≡ b → AllByRecursion (λ t. is_step_of id t ≡ true) (filter (is_step_of id) steps)
                → AllByRecursion (λ t. is_step_of id t ≡ true) (cond b (s ∷ filter (is_step_of id) steps) (filter (is_step_of id) steps))
            by_test true e go = (e, go)
            by_test false e go = go

        owns_named : (row_of id).ordered ≡ true → (names : List (List ℕ)) → AllByRecursion (λ s. is_step_of id s ≡ true) (each (step_of (head_of id)) names)
        owns_named e [] = tt
        owns_named e (x ∷ names) = (ordered_told id (step_of (head_of id) x) e ∙ same_is (head_of id) (head_of id) refl, owns_named e names)

        owns_of : AllByRecursion (λ s. is_step_of id s ≡ true) (steps_at id)
        owns_of = by_order (row_of id).ordered refl
          where
            by_order : (b : Bool) → (row_of id).ordered ≡ b → AllByRecursion (λ s. is_step_of id s ≡ true)
                (if b then each (step_of (head_of id)) (order_in (map.get m path)) else filter (is_step_of id) (steps_below m path))
            by_order true e = owns_named e (order_in (map.get m path))
            by_order false e = owns_at (steps_below m path)

        heads_in : (steps : List Step) → AllByRecursion (λ s. is_step_of id s ≡ true) steps → AllByRecursion (λ s. s.head ≡ head_of id) steps
        heads_in [] a = tt
        heads_in (s ∷ steps) a = (own_head id s a.0, heads_in steps a.1)

        names_in_order : Differ (steps_at id) → AreInOrder (row_of id).ordered (each (λ (s : Step). s.name) (steps_at id))
        names_in_order differ = by_order (row_of id).ordered refl
          where
            by_order : (b : Bool) → (row_of id).ordered ≡ b → AreInOrder b (each (λ (s : Step). s.name) (steps_at id))
            by_order true e = names_distinct (head_of id) (steps_at id) (heads_in (steps_at id) owns_of) differ
            by_order false e =
                subst (λ (steps : List Step). AreInOrder false (each (λ (s : Step). s.name) steps))
                (sym (ap (λ (b : Bool). if b then each (step_of (head_of id)) (order_in (map.get m path)) else filter (is_step_of id) (steps_below m path)) e))
                (names_sorted m path id)

        list_is : (shape : Shape) → is_named shape ≡ true → (d : Data) (marks : Option Data) (items : List Item) → SaysList (SaysInside n) spot id d items
            → SaysRow (SaysInside n) shape spot id d marks items
        list_is Container e d marks items l = cc
        list_is Fixed e d marks items l = cc
        list_is Keyed e d marks items l = l
        list_is Bare e d marks items l = l
        list_is Leaf e d marks items l = cc
        list_is Flag e d marks items l = cc
        list_is Many e d marks items l = cc

        no_marks : (marks : Option Data) → NoMarks (row_of id).shape marks
        no_marks marks closed = let level = named_is_level (row_of id).shape named in cc

        by_steps : (steps : List Step) → steps_at id ≡ steps → (marks : Option Data) → Differ (steps_at id) → ((s : Step) → Lists (steps_at id) s → is_some (map.get m (path ++ s ∷ [])) ≡ true)
            → SaysRowIf (SaysInside n) spot id (last_with (key_of id) None (listed (key_of id) (objects_of m path below steps))) marks (flat_map (child_items n m path) steps)
        by_steps [] e marks differ there = (refl, no_marks marks)
        by_steps (s ∷ steps) e marks differ there = by_objects (objects_of m path below (s ∷ steps)) refl
          where
            there_in : (t : Step) → Lists (s ∷ steps) t → is_some (map.get m (path ++ t ∷ [])) ≡ true
            there_in t l = there t (subst (λ (ss : List Step). Lists ss t) (sym e) l)

            owns_in : AllByRecursion (λ t. is_step_of id t ≡ true) (s ∷ steps)
            owns_in = subst (λ (ss : List Step). AllByRecursion (λ t. is_step_of id t ≡ true) ss) e owns_of

            said : SaysEach (SaysInside n) spot id (items_of (objects_of m path below (s ∷ steps))) (each (λ (t : Step). t.name) (s ∷ steps)) (flat_map (child_items n m path) (s ∷ steps))
            said = objects_said (s ∷ steps) there_in owns_in

            by_objects : (ds : List Data) → objects_of m path below (s ∷ steps) ≡ ds
                → SaysRowIf (SaysInside n) spot id (last_with (key_of id) None (listed (key_of id) ds)) marks (flat_map (child_items n m path) (s ∷ steps))
            by_objects [] f =
                let none = subst (λ (ds : List Data). SaysEach (SaysInside n) spot id (items_of ds) (each (λ (t : Step). t.name) (s ∷ steps)) (flat_map (child_items n m path) (s ∷ steps))) f said
                in let c = none.0 in cc
            by_objects (d ∷ ds) f =
                subst (λ (o : Option Data). SaysRowIf (SaysInside n) spot id o marks (flat_map (child_items n m path) (s ∷ steps))) (sym (found_at (key_of id) (array (items_of (d ∷ ds)))))
                (list_is (row_of id).shape named (array (items_of (d ∷ ds))) marks (flat_map (child_items n m path) (s ∷ steps))
                (record {
                  objects = items_of (d ∷ ds);
                  is = refl;
                  names = each (λ (t : Step). t.name) (s ∷ steps);
                  some = omega arith;
                  in_order = subst (λ (ss : List Step). AreInOrder (row_of id).ordered (each (λ (t : Step). t.name) ss)) e (names_in_order differ);
                  each = subst (λ (os : List Data). SaysEach (SaysInside n) spot id (items_of os) (each (λ (t : Step). t.name) (s ∷ steps)) (flat_map (child_items n m path) (s ∷ steps))) f said;
                }))

      -- a statement of a row without names
      module _ (plain : is_named (row_of id).shape ≡ false) where
        abbrev only : Step
        only = single_of id

        marks_found : (key : List ℕ) (d : Data) (value : Value) → same_word (marks_key key) key ≡ false
            → IsMarked (last_with (marks_key key) None ((key, d) ∷ marks_at (marks_key key) value)) value.inactive value.protected
        marks_found key d value apart =
            subst (λ (b : Bool). IsMarked (last_with (marks_key key) (cond b (Some d) None) (marks_at (marks_key key) value)) value.inactive value.protected) (sym apart)
            (marked (marks_key key) value)

        longer_key : (key : List ℕ) → same_word (marks_key key) key ≡ false
        longer_key key = by_test (same_word (marks_key key) key) refl
          where
            by_test : (b : Bool) → same_word (marks_key key) key ≡ b → b ≡ false
            by_test true e = let f : length (marks_key key) ≡ length key = ap (λ (xs : List ℕ). length xs) (same (marks_key key) key e) in absurd (omega (arith, f))
            by_test false e = refl

        key_found : (key : List ℕ) (d : Data) (value : Value) → last_with key None ((key, d) ∷ marks_at (marks_key key) value) ≡ Some d
        key_found key d value =
            last-append key None ((key, d) ∷ []) (marks_at (marks_key key) value)
            ∙ last-none (marks_key key ∷ []) key (last_with key None ((key, d) ∷ [])) (marks_at (marks_key key) value) (apart (same_word key (marks_key key)) refl)
            (marks_among (marks_key key ∷ []) (marks_key key) value (here_first (marks_key key) []))
            ∙ found_at key d
          where
            apart : (b : Bool) → same_word key (marks_key key) ≡ b → (b || false) ≡ false
            apart true e = let f : length key ≡ length (marks_key key) = ap (λ (xs : List ℕ). length xs) (same key (marks_key key) e) in absurd (omega (arith, f))
            apart false e = refl

        abbrev words_item : Value → List Item
        words_item value = (path ++ only ∷ [], record value { order = [] }) ∷ []

        words_said : (Words : List (List ℕ) → Type 0) (value : Value) (d : Data) (marks : Option Data) → marks ≡ last_with (marks_key (key_of id)) None ((key_of id, d) ∷ marks_at (marks_key (key_of id)) value)
            → Words value.words → SaysWords Words spot id marks (words_item value)
        words_said Words value d marks e are_words = record {
          inactive = value.inactive;
          protected = value.protected;
          marked = subst (λ (o : Option Data). IsMarked o value.inactive value.protected) (sym e) (marks_found (key_of id) d value (longer_key (key_of id)));
          words = value.words;
          are_words = are_words;
          said = refl;
        }

        abbrev alone_items : Shape → Value → List Item
        alone_items shape value = (if is_level shape then own_item only value else words_item value)

        -- by the shape of the row
        shape_said : (shape : Shape) → (row_of id).shape ≡ shape → (value : Value) → map.get m (path ++ only ∷ []) ≡ Some value → (marks : Option Data)
            → (is_level shape ≡ false → marks ≡ last_with (marks_key (key_of id)) None (alone_at shape (key_of id) only value (below (path ++ only ∷ []))))
            → SaysRowIf (SaysInside n) spot id (last_with (key_of id) None (alone_at shape (key_of id) only value (below (path ++ only ∷ [])))) marks (alone_items shape value)
        shape_said Container e value found marks is_marks =
            subst (λ (o : Option Data). SaysRowIf (SaysInside n) spot id o marks (own_item only value)) (sym (found_at (key_of id) (level_object false only value (below (path ++ only ∷ [])))))
            (subst (λ (sh : Shape). SaysRow (SaysInside n) sh spot id (level_object false only value (below (path ++ only ∷ []))) marks (own_item only value)) (sym e)
            (subst (λ (b : Bool). SaysLevel (SaysInside n) spot id only (put_all no_members (own_pairs b only value ++ below (path ++ only ∷ []))) (own_item only value)) plain
            (level_said only value found (single_own m tree path here placed id stood plain) (ap is_level e))))
        shape_said Fixed e value found marks is_marks =
            subst (λ (o : Option Data). SaysRowIf (SaysInside n) spot id o marks (own_item only value)) (sym (found_at (key_of id) (level_object false only value (below (path ++ only ∷ [])))))
            (subst (λ (sh : Shape). SaysRow (SaysInside n) sh spot id (level_object false only value (below (path ++ only ∷ []))) marks (own_item only value)) (sym e)
            (subst (λ (b : Bool). SaysLevel (SaysInside n) spot id only (put_all no_members (own_pairs b only value ++ below (path ++ only ∷ []))) (own_item only value)) plain
            (level_said only value found (single_own m tree path here placed id stood plain) (ap is_level e))))
        shape_said Keyed e value found marks is_marks = let c = sym plain ∙ ap is_named e in cc
        shape_said Bare e value found marks is_marks = let c = sym plain ∙ ap is_named e in cc
        shape_said Leaf e value found marks is_marks =
            let row = (of_row m tree path here placed id stood only value found (single_own m tree path here placed id stood plain)).0
            in subst (λ (o : Option Data). SaysRowIf (SaysInside n) spot id o marks (words_item value)) (sym (key_found (key_of id) (string (slice_index_or value.words 0 [])) value))
            (subst (λ (sh : Shape). SaysRow (SaysInside n) sh spot id (string (slice_index_or value.words 0 [])) marks (words_item value)) (sym e)
            (words_said (IsLeafWord (row_of id).value_kind (string (slice_index_or value.words 0 []))) value (string (slice_index_or value.words 0 [])) marks (is_marks refl)
            (leaf_word (row_of id).value_kind value.words (subst (λ (sh : Shape). AreCounted sh value.words) e row.words.0) row.words.1)))
        shape_said Flag e value found marks is_marks =
            let row = (of_row m tree path here placed id stood only value found (single_own m tree path here placed id stood plain)).0
            in subst (λ (o : Option Data). SaysRowIf (SaysInside n) spot id o marks (words_item value)) (sym (key_found (key_of id) (boolean true) value))
            (subst (λ (sh : Shape). SaysRow (SaysInside n) sh spot id (boolean true) marks (words_item value)) (sym e)
            (words_said (IsTrueFlag (boolean true)) value (boolean true) marks (is_marks refl)
            (record { is = refl; none = subst (λ (sh : Shape). AreCounted sh value.words) e row.words.0 })))
        shape_said Many e value found marks is_marks =
            let row = (of_row m tree path here placed id stood only value found (single_own m tree path here placed id stood plain)).0
            in let counted = subst (λ (sh : Shape). AreCounted sh value.words) e row.words.0
            in subst (λ (o : Option Data). SaysRowIf (SaysInside n) spot id o marks (words_item value)) (sym (key_found (key_of id) (array (items_of (strings value.words))) value))
            (subst (λ (sh : Shape). SaysRow (SaysInside n) sh spot id (array (items_of (strings value.words))) marks (words_item value)) (sym e)
            (words_said (AreManyWords (row_of id).value_kind (array (items_of (strings value.words)))) value (array (items_of (strings value.words))) marks (is_marks refl)
            (record { items = items_of (strings value.words); is = refl; each = words_each (row_of id).value_kind value.words row.words.1; some = counted.0; once = counted.1 })))

        -- what stands in a statement that is no level
        items_alone : (value : Value) → map.get m (path ++ only ∷ []) ≡ Some value → own_item only value ≡ alone_items (row_of id).shape value
        items_alone value found = by_level (is_level (row_of id).shape) refl
          where
            by_level : (b : Bool) → is_level (row_of id).shape ≡ b → own_item only value ≡ (if b then own_item only value else words_item value)
            by_level true e = refl
            by_level false e =
                let row = of_row m tree path here placed id stood only value found (single_own m tree path here placed id stood plain)
                in ap (λ (inner : List Item). (path ++ only ∷ [], record value { order = [] }) ∷ inner)
                (no_items_in n (path ++ only ∷ []) (nothing_in (path ++ only ∷ []) (entered here id) row.1 e))

        single_said : (o : Option Value) → map.get m (path ++ only ∷ []) ≡ o → (marks : Option Data)
            → (is_level (row_of id).shape ≡ false → marks ≡ last_with (marks_key (key_of id)) None (alone_if (row_of id).shape (key_of id) only o (below (path ++ only ∷ []))))
            → SaysRowIf (SaysInside n) spot id (last_with (key_of id) None (alone_if (row_of id).shape (key_of id) only o (below (path ++ only ∷ [])))) marks
            (flat_map (child_items n m path) (step_if (is_some o) only))
        single_said None found marks is_marks = (refl, λ closed. is_marks closed)
        single_said (Some value) found marks is_marks =
            subst (λ (items : List Item). SaysRowIf (SaysInside n) spot id (last_with (key_of id) None (alone_at (row_of id).shape (key_of id) only value (below (path ++ only ∷ [])))) marks items)
            (sym (append-nil (item_and (path ++ only ∷ []) (map.get m (path ++ only ∷ [])) (items_below n m (path ++ only ∷ [])))
            ∙ ap (λ (o : Option Value). item_and (path ++ only ∷ []) o (items_below n m (path ++ only ∷ []))) found
            ∙ items_alone value found))
            (shape_said (row_of id).shape refl value found marks is_marks)

      abbrev alone_pairs : List Step → List Pair
      alone_pairs steps = flat_map (child_alone m path below id) steps

      -- a row of the level
      row_said : (marks : Option Data) → Differ (steps_at id) → ((s : Step) → Lists (steps_at id) s → is_some (map.get m (path ++ s ∷ [])) ≡ true)
          → (is_level (row_of id).shape ≡ false → marks ≡ last_with (marks_key (key_of id)) None (pairs_of_row m path below id))
          → SaysRowIf (SaysInside n) spot id (last_with (key_of id) None (pairs_of_row m path below id)) marks (row_items id)
      row_said marks differ there is_marks = by_named (is_named (row_of id).shape) refl
        where
          alone : alone_pairs (step_if (is_some (map.get m (path ++ single_of id ∷ []))) (single_of id))
              ≡ alone_if (row_of id).shape (key_of id) (single_of id) (map.get m (path ++ single_of id ∷ [])) (below (path ++ single_of id ∷ []))
          alone = by_there (map.get m (path ++ single_of id ∷ [])) refl
            where
              by_there : (o : Option Value) → map.get m (path ++ single_of id ∷ []) ≡ o
                  → alone_pairs (step_if (is_some o) (single_of id)) ≡ alone_if (row_of id).shape (key_of id) (single_of id) o (below (path ++ single_of id ∷ []))
              by_there None e = refl
              by_there (Some value) e =
                  append-nil (child_alone m path below id (single_of id))
                  ∙ ap (λ (o : Option Value). alone_if (row_of id).shape (key_of id) (single_of id) o (below (path ++ single_of id ∷ []))) e

          by_named : (b : Bool) → is_named (row_of id).shape ≡ b → SaysRowIf (SaysInside n) spot id (last_with (key_of id) None (pairs_of_row m path below id)) marks (row_items id)
          by_named true e =
              subst (λ (b : Bool). SaysRowIf (SaysInside n) spot id (last_with (key_of id) None (pairs_by m path below b id (steps_at id))) marks (row_items id)) (sym e)
              (by_steps e (steps_at id) refl marks differ there)
          by_named false e =
              let steps = single_steps m tree path here placed id stood e
              in let made = ap (λ (ss : List Step). alone_pairs ss) steps ∙ alone
              in subst (λ (b : Bool). SaysRowIf (SaysInside n) spot id (last_with (key_of id) None (pairs_by m path below b id (steps_at id))) marks (row_items id)) (sym e)
              (subst (λ (ps : List Pair). SaysRowIf (SaysInside n) spot id (last_with (key_of id) None ps) marks (row_items id)) (sym made)
              (subst (λ (ss : List Step). SaysRowIf (SaysInside n) spot id (last_with (key_of id) None (alone_if (row_of id).shape (key_of id) (single_of id) (map.get m (path ++ single_of id ∷ [])) (below (path ++ single_of id ∷ [])))) marks
              (flat_map (child_items n m path) ss)) (sym steps)
              (single_said e (map.get m (path ++ single_of id ∷ [])) refl marks
              (λ closed. is_marks closed ∙ ap (λ (b : Bool). last_with (marks_key (key_of id)) None (pairs_by m path below b id (steps_at id))) e ∙ ap (λ (ps : List Pair). last_with (marks_key (key_of id)) None ps) made))))

    -- all rows of the level, one after another
    rows_said : (ids : List ℕ) (seen : List (List ℕ)) (done : List Pair) → AllByRecursion (StandsBelow here.row here.in_group) ids → Among seen done
        → distinct (seen ++ keys_below ids) ≡ true → (ms : Members) → ((q : List ℕ) → get_member q ms ≡ last_with q None (done ++ flat_map (pairs_of_row m path below) ids))
        → Differ (flat_map steps_at ids) → ((s : Step) → Lists (flat_map steps_at ids) s → is_some (map.get m (path ++ s ∷ [])) ≡ true)
        → SaysRows (SaysInside n) spot ms ids (flat_map row_items ids)
    rows_said [] seen done stood among d ms look differ there = refl
    rows_said (id ∷ ids) seen done stood among d ms look differ there = (
      row_items id,
      flat_map row_items ids,
      subst (λ (o : Option Data). SaysRowIf (SaysInside n) spot id o (get_member (marks_key (key_of id)) ms) (row_items id)) (sym (own_look (key_of id) (here_first (key_of id) _)))
          (row_said id stood.0 (get_member (marks_key (key_of id)) ms) (differ-left (steps_at id) (flat_map steps_at ids) differ)
          (λ s l. there s (lists-in_left (steps_at id) (flat_map steps_at ids) s l)) (λ closed. own_look (marks_key (key_of id)) (marks_in closed))),
      rows_said ids (seen ++ row_keys id) (done ++ pairs_of_row m path below id) stood.1
          (among-append (seen ++ row_keys id) done (pairs_of_row m path below id)
          (among-more seen (seen ++ row_keys id) (λ k h. lists-left seen (row_keys id) k h) done among)
          (among-more (row_keys id) (seen ++ row_keys id) (λ k h. lists-right seen (row_keys id) k h) (pairs_of_row m path below id) (row_among m path below id)))
          (ap distinct (append_assoc seen (row_keys id) (keys_below ids)) ∙ d) ms
          (λ q. look q ∙ ap (last_with q None) (sym (append_assoc done (pairs_of_row m path below id) (flat_map (pairs_of_row m path below) ids))))
          (differ-right (steps_at id) (flat_map steps_at ids) differ) (λ s l. there s (lists-in_right (steps_at id) (flat_map steps_at ids) s l)),
      refl,
    )
      where
        marks_in : is_level (row_of id).shape ≡ false → lists (row_keys id) (marks_key (key_of id)) ≡ true
        marks_in closed =
            ap (λ (b : Bool). lists (key_of id ∷ (if b then [] else marks_key (key_of id) ∷ [])) (marks_key (key_of id))) closed ∙ marks_second (key_of id)

        own_look : (q : List ℕ) → lists (row_keys id) q ≡ true → get_member q ms ≡ last_with q None (pairs_of_row m path below id)
        own_look q h =
            look q
            ∙ last-append q None done (pairs_of_row m path below id ++ flat_map (pairs_of_row m path below) ids)
            ∙ ap (λ (o : Option Data). last_with q o (pairs_of_row m path below id ++ flat_map (pairs_of_row m path below) ids))
            (last-none seen q None done (distinct-back seen (row_keys id ++ keys_below ids) q d (lists-left (row_keys id) (keys_below ids) q h)) among)
            ∙ last-append q None (pairs_of_row m path below id) (flat_map (pairs_of_row m path below) ids)
            ∙ last-none (keys_below ids) q (last_with q None (pairs_of_row m path below id)) (flat_map (pairs_of_row m path below) ids)
            (distinct-apart (row_keys id) (keys_below ids) q (distinct-after seen (row_keys id ++ keys_below ids) d) h) (all_among m path below ids)

  -- a level says what is below it
  says_here : (n : ℕ) (path : List Step) (here : Place) (placed : place_of path ≡ Some here) → ((step : Step) → SaysBelow n (path ++ step ∷ []))
      → (own : List Pair) → Among (own_keys here.row) own
      → AreKeys here (put_all no_members (own ++ flat_map (pairs_of_row m path (pairs_below n m)) (rows_below here.row here.in_group)))
      × SaysRows (SaysInside n) (record { path = path; place = here }) (put_all no_members (own ++ flat_map (pairs_of_row m path (pairs_below n m)) (rows_below here.row here.in_group)))
      (rows_below here.row here.in_group) (flat_map (child_items n m path) (children_of m path))
  says_here n path here placed more own among = (
    keys_put_all here (own ++ flat_map (pairs_of_row m path (pairs_below n m)) (rows_below here.row here.in_group)) no_members
        (among-append (keys_at here) own (flat_map (pairs_of_row m path (pairs_below n m)) (rows_below here.row here.in_group))
        (among-more (own_keys here.row) (keys_at here) (λ k h. lists-left (own_keys here.row) (keys_below (rows_below here.row here.in_group)) k h) own among)
        (among-more (keys_below (rows_below here.row here.in_group)) (keys_at here) (λ k h. lists-right (own_keys here.row) (keys_below (rows_below here.row here.in_group)) k h)
        (flat_map (pairs_of_row m path (pairs_below n m)) (rows_below here.row here.in_group)) (all_among m path (pairs_below n m) (rows_below here.row here.in_group)))) tt,
    subst (λ (items : List Item). SaysRows (SaysInside n) (record { path = path; place = here })
        (put_all no_members (own ++ flat_map (pairs_of_row m path (pairs_below n m)) (rows_below here.row here.in_group))) (rows_below here.row here.in_group) items)
        (sym (by_rows m path (child_items n m path) here placed))
        (rows_said n path here placed more (rows_below here.row here.in_group) (own_keys here.row) own (all_stand here) among
        (keys_once here (path_most path here placed).0)
        (put_all no_members (own ++ flat_map (pairs_of_row m path (pairs_below n m)) (rows_below here.row here.in_group)))
        (λ q. get-put_all q no_members (own ++ flat_map (pairs_of_row m path (pairs_below n m)) (rows_below here.row here.in_group)))
        (subst Differ (ap (λ (o : Option Place). children_at m path o) placed) (children_differ m tree path))
        (λ s l. child_there m tree path s (subst (λ (steps : List Step). Lists steps s) (sym (ap (λ (o : Option Place). children_at m path o) placed)) l))),
  )

  says_below : (levels : ℕ) (path : List Step) → 10 ≤ levels + length path → SaysBelow levels path
  unfolding SaysInside pairs_below items_below
  says_below zero path deep here placed own among = let most = (path_most path here placed).2 in absurd (omega (arith, deep, most))
  says_below (suc n) path deep here placed own among =
      let said = says_here n path here placed (λ step. says_below n (path ++ step ∷ []) (omega (arith, deep, child_longer path step))) own among
      in subst (λ (o : Option Place). AreKeys here (put_all no_members (own ++ pairs_at m path (pairs_below n m) o))
      × SaysRows (SaysInside n) (record { path = path; place = here }) (put_all no_members (own ++ pairs_at m path (pairs_below n m) o))
      (rows_below here.row here.in_group) (flat_map (child_items n m path) (children_of m path))) (sym placed) said

  -- the whole of it
  pub says_top : SaysInside MAX_STEPS (put_all no_members (pairs_below MAX_STEPS m [])) top_spot (items_below MAX_STEPS m [])
  says_top = says_below MAX_STEPS [] (omega arith) top_place refl [] tt

-- what is written of a tree says it
pub says_back : (m : Statements) → IsTree m → Says (json_of m) m
says_back m tree = record {
  members = put_all no_members (pairs_below MAX_STEPS m []);
  is = refl;
  items = items_below MAX_STEPS m [];
  inside = says_top m tree;
  makes = said_back m tree;
}
