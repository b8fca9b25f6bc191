-- What is left once tagged paths are gone is a tree.
use Rattle.std.proofs.Common.{eqb-true, ◌≡◌, inl, inr, ℕ, zero, suc, ◌+◌, ◌-◌, ◌<◌, ◌≤◌, Bool, T, true, false, cond, not, ◌&&◌, ◌||◌, List, [], ◌∷◌, ◌++◌, take, length, filter, refl, sym, ap, subst, ◌∙◌, Option, Some, None, is_some, is_le, arith, length-append}
use Rattle.std.specs.Prelude.{IsSome, IfOk, ◌==◌, Result, Ok, Err}
use Rattle.cfg_base.specs.declared.fault.NoMemory.{NoMemory}
use Rattle.std.specs.List.{IsDistinct, AllByRecursion}
use Rattle.std.specs.FinMap as map
use Rattle.std.specs.FinMap.Entries.{is_sorted, below_all}
use Rattle.std.specs.Map.{keys_of}
use Rattle.std.specs.List.Sorted.{IsStrictlySortedBy}
use Rattle.std.specs.declared.cmp.Ordering.TheVariants.{Less}
use Rattle.std.proofs.lemmas.List.{length-map}
use Rattle.std.proofs.lemmas.Map.Keys.{IsDistinct-head, IsDistinct-tail, IsDistinct-cons}
use Rattle.cfg_base.specs.Order.{path_cmp, paths_total}
use Rattle.cfg_base.specs.declared.path.Step.{Step}
use Rattle.cfg_base.specs.declared.value.Value.{Value}
use Rattle.cfg_entries.specs.EntryMap.{Pair}
use Rattle.cfg_schema.specs.declared.place.Place.{Place}
use Rattle.cfg_schema.specs.Profile.{same_word}
use Rattle.cfg_schema.specs.Place.{place_of}
use Rattle.cfg_schema.proofs.TestLemmas.{same}
use Rattle.cfg_tree.specs.Statements.{Statements, size_of, parent_of, last_of, is_below, HasParent}
use Rattle.cfg_tree.specs.Typed.{AreWordsOf}
use Rattle.cfg_tree.specs.Tree.{ordered_head, step_of, lists, IsOrderBy, IsOrderOf, IsStatementMap, IsTyped, IsTree}
use Rattle.cfg_tree.specs.Limit.{paths_of, IsPathPast}
use Rattle.cfg_tree.specs.Gather.{gathered_from_none}
use Rattle.cfg_tree.specs.Union.{value_in_both, IsUnion}
use Rattle.cfg_tree.proofs.MapLemmas.{same_statements, entries_is}
use Rattle.cfg_tree.proofs.PathLemmas.{split}
use Rattle.cfg_tree.proofs.BelowLemmas.{below_first, below_le, below_self}
use Rattle.cfg_tree.proofs.LimitLemmas.{different-length}
use Rattle.edit_ops.proofs.WayLemmas.{take_below, below_take, below_short, way_whole}
use Rattle.load_ops.specs.Left.{is_tagged, is_replaced, names_left, value_left, left_at, IsLeft, IsReplacement}
use Rattle.load_ops.specs.Parts.{entries_left}
use Rattle.load_ops.proofs.OrderLemmas.{first, second, is_less}
use Rattle.load_ops.proofs.LeftLemmas.{Above, above_of, replaced_by_tag, replaced_below, Passed, is_there, sorted_left, find_left}

-- two maps of what is left are one
pub left_once : (m one other : Statements) (tags : List (List Step)) → IsLeft m tags one → IsLeft m tags other → one ≡ other
left_once m one other tags a b = same_statements one other (λ q. a q ∙ sym (b q))

pub replacement_once : (old said one other : Statements) (tags : List (List Step)) → IsReplacement old said tags one → IsReplacement old said tags other
    → one ≡ other
replacement_once old said one other tags a b = same_statements one other (λ q. a q ∙ sym (b q))

there_by : (tags : List (List Step)) (q : List Step) (o : Option Value) → is_some (left_at tags q o) ≡ (is_some o && not (is_replaced tags q))
there_by tags q None = refl
there_by tags q (Some v) = by_test (is_replaced tags q)
  where
    by_test : (b : Bool) → is_some (cond b None (Some (value_left tags q v))) ≡ not b
    by_test true = refl
    by_test false = refl

-- a statement is left exactly where it is at none of the paths and below none
pub left_where : (m left : Statements) (tags : List (List Step)) (q : List Step) → IsLeft m tags left
    → is_some (map.get left q) ≡ (is_some (map.get m q) && not (is_replaced tags q))
left_where m left tags q is = ap is_some (is q) ∙ there_by tags q (map.get m q)

all_pass : {X : Type 0} (xs : List X) → filter (λ _. true) xs ≡ xs
all_pass [] = refl
all_pass (x ∷ xs) = ap (λ (ys : List _). x ∷ ys) (all_pass xs)

untagged_names : (q : List Step) (h : Option (List ℕ)) (names : List (List ℕ)) → names_left [] q h names ≡ names
untagged_names q None names = refl
untagged_names q (Some h) names = all_pass names

untagged_at : (q : List Step) (o : Option Value) → left_at [] q o ≡ o
untagged_at q None = refl
untagged_at q (Some v) = ap (λ (names : List (List ℕ)). Some (record v { order = names })) (untagged_names q (ordered_head (place_of q)) v.order)

-- where nothing is tagged, all is left
pub untagged_left : (m left : Statements) (tags : List (List Step)) → tags ≡ [] → left ≡ m → IsLeft m tags left
untagged_left m left tags none same q =
    ap (λ (n : Statements). map.get n q) same
    ∙ sym (ap (λ (ts : List (List Step)). left_at ts q (map.get m q)) none ∙ untagged_at q (map.get m q))

pub copied_left : (m : Statements) (tags : List (List Step)) (answer : Result Statements NoMemory) → tags ≡ [] → IfOk answer (λ tree. tree ≡ m)
    → IfOk answer (IsLeft m tags)
copied_left m tags (Ok left) none same = untagged_left m left tags none same
copied_left m tags (Err fault) none same = tt

pub none_by : (tags : List (List Step)) (b : Bool) → b ≡ (length tags == 0) → b ≡ true → tags ≡ []
none_by [] b e f = refl
none_by (t ∷ tags) b e f = absurd (omega (arith, eqb-true (length (t ∷ tags)) 0 (sym e ∙ f)))

-- where nothing is tagged, all is joined
pub untagged_union : (old said new : Statements) → IsReplacement old said [] new → IsUnion old said new
untagged_union old said new is q = is q ∙ ap (λ (o : Option Value). value_in_both q o (map.get said q)) (untagged_at q (map.get old q))

lists-where : (p : List ℕ → Bool) (names : List (List ℕ)) (name : List ℕ) → lists (filter p names) name ≡ (lists names name && p name)
lists-where p [] name = refl
lists-where p (x ∷ names) name = by_tests (p x) (same_word name x) refl refl (lists-where p names name)
  where
    by_tests : (a b : Bool) → p x ≡ a → same_word name x ≡ b → lists (filter p names) name ≡ (lists names name && p name)
        → lists (cond a (x ∷ filter p names) (filter p names)) name ≡ ((b || lists names name) && p name)
    by_tests true true f g go = ap (λ (c : Bool). c || lists (filter p names) name) g ∙ sym (ap p (same _ _ g) ∙ f)
    by_tests true false f g go = ap (λ (c : Bool). c || lists (filter p names) name) g ∙ go
    by_tests false true f g go =
        let out = ap p (same _ _ g) ∙ f in go ∙ ap (λ (c : Bool). lists names name && c) out ∙ never (lists names name) ∙ sym out
      where
        never : (c : Bool) → (c && false) ≡ false
        never true = refl
        never false = refl
    by_tests false false f g go = go

all-where : (p : List ℕ → Bool) (y : List ℕ) (names : List (List ℕ)) → AllByRecursion (λ x. same_word y x ≡ false) names
    → AllByRecursion (λ x. same_word y x ≡ false) (filter p names)
all-where p y [] h = h
all-where p y (x ∷ names) h = by_test (p x) (all-where p y names h.1)
  where
    by_test : (c : Bool) → AllByRecursion (λ z. same_word y z ≡ false) (filter p names) → AllByRecursion (λ z. same_word y z ≡ false) (cond c (x ∷ filter p names) (filter p names))
    by_test true go = (h.0, go)
    by_test false go = go

distinct-where : (p : List ℕ → Bool) (names : List (List ℕ)) → IsDistinct same_word names → IsDistinct same_word (filter p names)
distinct-where p [] h = h
distinct-where p (x ∷ names) h = by_test (p x) (distinct-where p names (IsDistinct-tail same_word x names h))
  where
    by_test : (c : Bool) → IsDistinct same_word (filter p names) → IsDistinct same_word (cond c (x ∷ filter p names) (filter p names))
    by_test true go = IsDistinct-cons same_word x (filter p names) (all-where p x names (IsDistinct-head same_word x names h)) go
    by_test false go = go

-- the value that is left, and what it was
record Was (tags : List (List Step)) (q : List Step) (o : Option Value) (v : Value) : Type 0 where
  old : Value
  found : o ≡ Some old
  stays : is_replaced tags q ≡ false
  left : v ≡ value_left tags q old

was_of : (tags : List (List Step)) (q : List Step) (o : Option Value) (v : Value) → left_at tags q o ≡ Some v → Was tags q o v
was_of tags q None v h = cc
was_of tags q (Some w) v h = by_test (is_replaced tags q) refl h
  where
    same_some : (a b : Value) → Some a ≡ Some b → a ≡ b
    same_some a b e = cc

    by_test : (b : Bool) → is_replaced tags q ≡ b → cond b None (Some (value_left tags q w)) ≡ Some v → Was tags q (Some w) v
    by_test true e f = cc
    by_test false e f = record { old = w; found = refl; stays = e; left = sym (same_some _ _ f) }

module _ (m n : Statements) (tags : List (List Step)) (tree : IsTree m) (is : IsLeft m tags n) where
  clash : (b : Bool) → b ≡ true → b ≡ false → ⊥
  clash b t f = cc

  parts : (a b : Bool) → (a && not b) ≡ true → (a ≡ true) × (b ≡ false)
  parts true true h = cc
  parts true false h = (refl, refl)
  parts false b h = cc

  was : (q : List Step) → IsSome (map.get n q) → (IsSome (map.get m q)) × (is_replaced tags q ≡ false)
  was q h = parts _ _ (sym (left_where m n tags q is) ∙ h)

  stays_there : (q : List Step) → IsSome (map.get m q) → is_replaced tags q ≡ false → IsSome (map.get n q)
  stays_there q h f = left_where m n tags q is ∙ ap (λ (b : Bool). is_some (map.get m q) && not b) f ∙ kept h
    where
      kept : is_some (map.get m q) ≡ true → (is_some (map.get m q) && true) ≡ true
      kept e = ap (λ (b : Bool). b && true) e

  -- a path stays where one below it does
  above_stays : (p q : List Step) → is_below p q ≡ true → is_replaced tags q ≡ false → is_replaced tags p ≡ false
  above_stays p q below f = by_test (is_replaced tags p) refl
    where
      by_test : (b : Bool) → is_replaced tags p ≡ b → b ≡ false
      by_test true e = absurd (clash _ (replaced_below tags p q e below) f)
      by_test false e = refl

  parents : (q : List Step) → IsSome (map.get n q) → HasParent n q
  parents q h =
      let old = was q h
      in let parent = tree.statements.parents q old.0
      in record {
        steps = parent.steps;
        parent = λ long. stays_there (parent_of q) (parent.parent long) (above_stays (parent_of q) q (take_below (length q - 1) q) old.1);
      }

  top : map.get n [] ≡ None
  top = is [] ∙ ap (λ (o : Option Value). left_at tags [] o) tree.statements.top

  -- a child of a path that stays goes exactly where it is tagged
  child_goes : (q : List Step) (s : Step) → is_replaced tags q ≡ false → is_replaced tags (q ++ s ∷ []) ≡ is_tagged tags (q ++ s ∷ [])
  child_goes q s f = by_tests (is_replaced tags (q ++ s ∷ [])) (is_tagged tags (q ++ s ∷ [])) refl refl
    where
      tagged_itself : Above tags (q ++ s ∷ []) → is_tagged tags (q ++ s ∷ []) ≡ true
      tagged_itself a = subst (λ (p : List Step). is_tagged tags p ≡ true) (below_first a.above q s a.on_way (apart _ refl)) a.tagged
        where
          apart : (b : Bool) → is_below a.above q ≡ b → is_below a.above q ≡ false
          apart true e = absurd (clash _ (replaced_by_tag tags a.above q a.tagged e) f)
          apart false e = e

      by_tests : (a b : Bool) → is_replaced tags (q ++ s ∷ []) ≡ a → is_tagged tags (q ++ s ∷ []) ≡ b → a ≡ b
      by_tests true true e g = refl
      by_tests true false e g = absurd (clash _ (tagged_itself (above_of tags (q ++ s ∷ []) e)) g)
      by_tests false true e g = absurd (clash _ (replaced_by_tag tags (q ++ s ∷ []) (q ++ s ∷ []) g (below_self (q ++ s ∷ []))) e)
      by_tests false false e g = refl

  order_by : (q : List Step) (oh : Option (List ℕ)) (names : List (List ℕ)) → is_replaced tags q ≡ false → IsOrderBy m q oh names
      → IsOrderBy n q oh (names_left tags q oh names)
  order_by q None names f order = order
  order_by q (Some h) names f order = record {
    once = distinct-where (λ name. not (is_tagged tags (q ++ step_of h name ∷ []))) names order.once;
    each = λ name.
        lists-where (λ other. not (is_tagged tags (q ++ step_of h other ∷ []))) names name
        ∙ ap (λ (b : Bool). b && not (is_tagged tags (q ++ step_of h name ∷ []))) (order.each name)
        ∙ ap (λ (b : Bool). is_some (map.get m (q ++ step_of h name ∷ [])) && not b) (sym (child_goes q (step_of h name) f))
        ∙ sym (left_where m n tags (q ++ step_of h name ∷ []) is);
  }

  orders : (q : List Step) (v : Value) → map.get n q ≡ Some v → IsOrderOf n q v.order
  orders q v e =
      let old = was_of tags q (map.get m q) v (sym (is q) ∙ e)
      in subst (λ (x : Value). IsOrderOf n q x.order) (sym old.left)
      (order_by q (ordered_head (place_of q)) old.old.order old.stays (tree.statements.orders q old.old old.found))

  pub left_statements : IsStatementMap n
  left_statements = record { top = top; parents = parents; orders = orders }

  words : (q : List Step) (v : Value) (here : Place) → map.get n q ≡ Some v → place_of q ≡ Some here → AreWordsOf here.row v.words
  words q v here e placed =
      let old = was_of tags q (map.get m q) v (sym (is q) ∙ e)
      in subst (λ (x : Value). AreWordsOf here.row x.words) (sym old.left) (tree.typed.words q old.old here old.found placed)

  pub left_typed : IsTyped n
  left_typed = record { paths = λ q h. tree.typed.paths q (was q h).0; words = words }

-- what is on the way to a statement is there
ancestor : (m : Statements) → IsStatementMap m → (k : ℕ) (t q : List Step) → length q ≡ length t + k → 0 < length t → is_below t q ≡ true → IsSome (map.get m q)
    → IsSome (map.get m t)
ancestor m tree zero t q n some below there =
    let whole : length t ≡ length q = omega (arith, n)
    in subst (λ (p : List Step). IsSome (map.get m p))
    (sym (below_take t q below ∙ ap (λ (i : ℕ). take i q) whole ∙ way_whole q)) there
ancestor m tree (suc k) t q n some below there =
    let parent = tree.parents q there
    in let whole = split q parent.steps
    in let shorter : length q ≡ length (parent_of q) + 1 = ap (λ (p : List Step). length p) whole ∙ length-append (parent_of q) (last_of q ∷ [])
    in ancestor m tree k t (parent_of q) (omega (arith, n, shorter)) some (by_test shorter whole (is_below t (parent_of q)) refl) (parent.parent (omega (arith, n, some)))
  where
    by_test : length q ≡ length (parent_of q) + 1 → q ≡ parent_of q ++ last_of q ∷ [] → (b : Bool) → is_below t (parent_of q) ≡ b → is_below t (parent_of q) ≡ true
    by_test shorter whole true e = e
    by_test shorter whole false e =
        let same = below_first t (parent_of q) (last_of q) (sym (ap (λ (p : List Step). is_below t p) whole) ∙ below) e
        in let long = ap (λ (p : List Step). length p) same ∙ length-append (parent_of q) (last_of q ∷ []) in absurd (omega (arith, n, long, shorter))

-- a walk begins with nothing gone, or with all gone below the top
pub walk_begins : (m : Statements) (tags : List (List Step)) (gone : Option (List Step)) (left : List (Pair Value)) → IsTree m → left ≡ map.entries m
    → gone ≡ cond (is_tagged tags []) (Some []) None → Passed tags gone left
walk_begins m tags gone left tree e f =
    subst (λ (xs : List (Pair Value)). Passed tags gone xs) (sym e)
    (subst (λ (o : Option (List Step)). Passed tags o (map.entries m)) (sym f) (by_test (is_tagged tags []) refl))
  where
    there_is : (q : List Step) → is_there q (map.entries m) ≡ is_some (map.get m q)
    there_is q = ap is_some (sym (map.get-entries m q))

    some_same : (a b : List Step) → Some a ≡ Some b → a ≡ b
    some_same a b h = cc

    from_top : (es : List (Pair Value)) → AllByRecursion (λ e. is_le (path_cmp [] e.0) ≡ true) es
    from_top [] = tt
    from_top (x ∷ es) = (below_le [] x.0 refl, from_top es)

    on_way : (t q : List Step) → is_tagged tags [] ≡ false → is_tagged tags t ≡ true → is_below t q ≡ true → is_there q (map.entries m) ≡ true
        → is_there t (map.entries m) ≡ true
    on_way [] q no_top tagged below there = absurd (clash _ tagged no_top)
      where
        clash : (b : Bool) → b ≡ true → b ≡ false → ⊥
        clash b x y = cc
    on_way (s ∷ t) q no_top tagged below there =
        there_is (s ∷ t)
        ∙ ancestor m tree.statements (length q - length (s ∷ t)) (s ∷ t) q
        (let short = below_short (s ∷ t) q below in omega (arith, short)) (omega arith) below (sym (there_is q) ∙ there)

    by_test : (b : Bool) → is_tagged tags [] ≡ b → Passed tags (cond b (Some []) None) (map.entries m)
    by_test true h = record {
      sorted = map.entries_sorted m;
      goes = λ g same. subst (λ (p : List Step). (is_replaced tags p ≡ true) × AllByRecursion (λ e. is_le (path_cmp p e.0) ≡ true) (map.entries m)) (some_same [] g same)
          (replaced_by_tag tags [] [] h refl, from_top (map.entries m));
      above = λ t q tagged below there. inl refl;
    }
    by_test false h = record {
      sorted = map.entries_sorted m;
      goes = λ g same. absurd (never g same);
      above = λ t q tagged below there. inr (on_way t q h tagged below there);
    }
      where
        never : (g : List Step) → None ≡ Some g → ⊥
        never g same = cc

all_keys : (k : List Step) (es : List (Pair Value)) → T (below_all path_cmp k es) → AllByRecursion (λ y. path_cmp k y ≡ Less) (keys_of es)
all_keys k [] h = tt
all_keys k (e ∷ es) h = (is_less _ (first _ _ h), all_keys k es (second _ _ h))

ascends : (es : List (Pair Value)) → T (is_sorted path_cmp es) → IsStrictlySortedBy path_cmp (keys_of es)
unfolding IsStrictlySortedBy
ascends [] h = tt
ascends (e ∷ es) h = (all_keys e.0 es (first _ _ h), ascends es (second _ _ h))

-- the entries that are left, gathered, are what is left of the map
pub gathered_left : (m : Statements) (tags : List (List Step)) (items : List (Pair Value)) → ((n : Statements) → gathered_from_none (map.entries n) ≡ n)
    → items ≡ entries_left tags (map.entries m) → IsLeft m tags (gathered_from_none items)
gathered_left m tags items again e q =
    ap (λ (n : Statements). map.get n q) whole
    ∙ map.get-from_entries paths_total kept q
    ∙ find_left tags q (map.entries m) (map.entries_sorted m)
    ∙ ap (λ (o : Option Value). left_at tags q o) (sym (map.get-entries m q))
  where
    kept : List (Pair Value)
    kept = entries_left tags (map.entries m)

    whole : gathered_from_none items ≡ map.from_entries {R = path_cmp} kept
    whole =
        ap (λ (es : List (Pair Value)). gathered_from_none es)
        (e ∙ sym (entries_is kept (ascends kept (sorted_left tags (map.entries m) (map.entries_sorted m)))))
        ∙ again (map.from_entries kept)

length_take : (n : ℕ) (paths : List (List Step)) → n ≤ length paths → length (take n paths) ≡ n
length_take zero paths l = refl
length_take (suc n) [] l = absurd (omega (arith, l))
length_take (suc n) (p ∷ paths) l = let go = length_take n paths (omega (arith, l)) in omega (arith, go)

fewer : (tags : List (List Step)) (es : List (Pair Value)) → length (entries_left tags es) ≤ length es
fewer tags [] = omega arith
fewer tags (e ∷ es) = by_test (is_replaced tags e.0) (fewer tags es)
  where
    by_test : (b : Bool) → length (entries_left tags es) ≤ length es
        → length (cond b (entries_left tags es) ((e.0, value_left tags e.0 e.1) ∷ entries_left tags es)) ≤ length (e ∷ es)
    by_test true h = omega (arith, h)
    by_test false h = omega (arith, h)

-- they aren't too many for a tree
pub never_past : (m : Statements) (tags : List (List Step)) (items : List (Pair Value)) (at : ℕ) → IsTree m → items ≡ entries_left tags (map.entries m)
    → IsPathPast (paths_of items) at → ⊥
never_past m tags items at tree e past =
    let few = fewer tags (map.entries m)
    in let same_length = ap (λ (es : List (Pair Value)). length es) e
    in let whole : size_of m ≡ length (map.entries m) = map.len-entries m
    in let paths : length (paths_of items) ≡ length items = length-map items (λ (x : Pair Value). x.0)
    in let most = different-length (take (at + 1) (paths_of items))
    in let taken = length_take (at + 1) (paths_of items) (omega (arith, past.within))
    in let bound = tree.few
    in let many = past.new
    in omega (arith, few, same_length, whole, paths, most, taken, bound, many)
