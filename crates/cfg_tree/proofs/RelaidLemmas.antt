-- All statements laid anew with a part under another path: they ascend, and are the map with the part put there.
use Rattle.std.proofs.Common.{◌≡◌, ◌≢◌, Bool, true, false, cond, not, ◌||◌, ◌&&◌, List, [], ◌∷◌, ◌++◌, filter, drop, length, append-nil, append_assoc, refl, sym, ap, subst, ◌∙◌, Option, Some, None, Ordering, Less, Equal, Greater, is_le, is_lt}
use Rattle.std.specs.List.{AllByRecursion}
use Rattle.std.specs.FinMap as map
use Rattle.std.specs.FinMap.Entries.{find, find-where_key}
use Rattle.std.specs.Map.{keys_of}
use Rattle.std.specs.Ordering.{eq_by_cmp, ordering_then}
use Rattle.std.specs.Cmp.{tied_itself}
use Rattle.std.specs.List.Sorted.{IsStrictlySortedBy}
use Rattle.cfg_base.specs.Order.{path_cmp, paths_total, steps_total}
use Rattle.cfg_base.specs.declared.path.Step.{Step}
use Rattle.cfg_base.specs.declared.value.Value.{Value}
use Rattle.cfg_entries.specs.EntryMap.{EntryMap, IsOrdered, Pair, past}
use Rattle.cfg_entries.specs.Places.{AreBehind}
use Rattle.cfg_entries.proofs.OrderLemmas.{path_same, behind, behind_it, before_le}
use Rattle.cfg_entries.proofs.RowLemmas.{all_join, all_each, Rises, rises, ascends}
use Rattle.cfg_tree.specs.Statements.{Statements, is_below}
use Rattle.cfg_tree.specs.Shown.{shown}
use Rattle.cfg_tree.specs.Moving.{part_of, placed, with_part}
use Rattle.cfg_tree.specs.Relaid.{is_kept, left_by, kept, before, moved, relaid}
use Rattle.cfg_tree.proofs.MapLemmas.{same_statements, entries_is}
use Rattle.cfg_tree.proofs.BelowLemmas.{front_of, below_self, below_le, below_between}
use Rattle.cfg_tree.proofs.OnceLemmas.{below_rest}
use Rattle.cfg_tree.proofs.StepLemmas.{get-cleared}
use Rattle.cfg_tree.proofs.PartLemmas.{AreBelow, filter_below, or_else, placed_at, placed_is, below_more_steps, find_part, get-with_part}

abbrev pub is_before : List Step → Pair Value → Bool
is_before to e = is_lt (path_cmp e.0 to)

is_less : (o : Ordering) → is_lt o ≡ true → o ≡ Less
is_less Less h = refl
is_less Equal h = cc
is_less Greater h = cc

not_less : (a to b : List Step) → is_lt (path_cmp a to) ≡ false → path_cmp a b ≡ Less → is_lt (path_cmp b to) ≡ false
not_less a to b h less = by_test _ refl
  where
    by_test : (t : Bool) → is_lt (path_cmp b to) ≡ t → t ≡ false
    by_test true e = let d = ap is_lt (paths_total.trans a b to less (is_less _ e)) in cc
    by_test false e = refl

none_before : (a to : List Step) (es : List (Pair Value)) → is_lt (path_cmp a to) ≡ false → AreBehind a es → before to es ≡ []
none_before a to [] h far = refl
none_before a to (e ∷ es) h far =
    ap (λ (b : Bool). cond b (e ∷ before to es) (before to es)) (not_less a to e.0 h far.0) ∙ none_before a to es h far.1

-- of entries in order, those before a path come first
front_is : (to : List Step) (es : List (Pair Value)) → Rises es → front_of (is_before to) es ≡ before to es
front_is to [] up = refl
front_is to (e ∷ es) up = by_test _ refl (front_is to es up.1)
  where
    by_test : (b : Bool) → is_before to e ≡ b → front_of (is_before to) es ≡ before to es
        → cond b (e ∷ front_of (is_before to) es) [] ≡ cond b (e ∷ before to es) (before to es)
    by_test true h go = ap (λ (xs : List (Pair Value)). e ∷ xs) go
    by_test false h go = sym (none_before e.0 to es h up.0)

-- what is laid so far is all, where nothing is left or the next one isn't before the path
pub front_end : (stays : Bool) (from to : List Step) (made all left : List (Pair Value)) → left ≡ []
    → made ++ kept stays from (front_of (is_before to) left) ≡ all → made ≡ all
front_end stays from to made all left none e =
    sym (append-nil made) ∙ ap (λ (xs : List (Pair Value)). made ++ kept stays from (front_of (is_before to) xs)) (sym none) ∙ e

pub front_other : (stays : Bool) (from to : List Step) (entry : Pair Value) (made all left rest : List (Pair Value)) → left ≡ entry ∷ rest
    → false ≡ is_before to entry → made ++ kept stays from (front_of (is_before to) left) ≡ all → made ≡ all
front_other stays from to entry made all left rest next f e =
    sym (append-nil made)
    ∙ ap (λ (c : Bool). made ++ kept stays from (cond c (entry ∷ front_of (is_before to) rest) [])) f
    ∙ ap (λ (xs : List (Pair Value)). made ++ kept stays from (front_of (is_before to) xs)) (sym next)
    ∙ e

-- and all is what stands before the path
pub front_found : (stays : Bool) (from to : List Step) (made start : List (Pair Value)) (m : EntryMap (List Step) Value) → IsOrdered path_cmp m → start ≡ m.entries
    → made ++ kept stays from (front_of (is_before to) start) ≡ made ++ kept stays from (before to m.entries)
front_found stays from to made start m up e =
    ap (λ (xs : List (Pair Value)). made ++ kept stays from (front_of (is_before to) xs)) e
    ∙ ap (λ (xs : List (Pair Value)). made ++ kept stays from xs) (front_is to m.entries (rises m.entries up))

-- the three rows that are laid one after another
pub laid : (stays : Bool) (from to : List Step) (part es none front both rest made : List (Pair Value)) → none ≡ []
    → front ≡ none ++ kept stays from (before to es) → both ≡ front ++ moved from to part → rest ≡ past to es → made ≡ both ++ kept stays from rest
    → made ≡ relaid stays from to part es
laid stays from to part es none front both rest made a b c d e =
    e
    ∙ ap (λ (xs : List (Pair Value)). both ++ kept stays from xs) d
    ∙ ap (λ (xs : List (Pair Value)). xs ++ kept stays from (past to es))
    (c ∙ ap (λ (xs : List (Pair Value)). xs ++ moved from to part) (b ∙ ap (λ (xs : List (Pair Value)). xs ++ kept stays from (before to es)) a))
    ∙ append_assoc (kept stays from (before to es)) (moved from to part) (kept stays from (past to es))

-- what a filter leaves
module _ (p : Pair Value → Bool) where
  all_kept : (P : Pair Value → Type 0) (es : List (Pair Value)) → AllByRecursion P es → AllByRecursion P (filter p es)
  all_kept P [] h = tt
  all_kept P (e ∷ es) h = by_test (p e) (all_kept P es h.1)
    where
      by_test : (b : Bool) → AllByRecursion P (filter p es) → AllByRecursion P (cond b (e ∷ filter p es) (filter p es))
      by_test true go = (h.0, go)
      by_test false go = go

  all_pass : (es : List (Pair Value)) → AllByRecursion (λ e. p e ≡ true) (filter p es)
  all_pass [] = tt
  all_pass (e ∷ es) = by_test _ refl (all_pass es)
    where
      by_test : (b : Bool) → p e ≡ b → AllByRecursion (λ x. p x ≡ true) (filter p es) → AllByRecursion (λ x. p x ≡ true) (cond b (e ∷ filter p es) (filter p es))
      by_test true h go = (h, go)
      by_test false h go = go

  rises_kept : (es : List (Pair Value)) → Rises es → Rises (filter p es)
  rises_kept [] h = tt
  rises_kept (e ∷ es) h = by_test (p e) (rises_kept es h.1)
    where
      by_test : (b : Bool) → Rises (filter p es) → Rises (cond b (e ∷ filter p es) (filter p es))
      by_test true go = (all_kept (λ x. path_cmp e.0 x.0 ≡ Less) es h.0, go)
      by_test false go = go

rises_join : (xs ys : List (Pair Value)) → Rises xs → Rises ys → AllByRecursion (λ x. AreBehind x.0 ys) xs → Rises (xs ++ ys)
rises_join [] ys g h far = h
rises_join (x ∷ xs) ys g h far = (all_join (λ y. path_cmp x.0 y.0 ≡ Less) xs ys g.0 far.0, rises_join xs ys g.1 h far.1)

-- steps before both don't count
cmp_front : (p a b : List Step) → path_cmp (p ++ a) (p ++ b) ≡ path_cmp a b
cmp_front [] a b = refl
cmp_front (s ∷ p) a b = ap (λ (o : Ordering). ordering_then o (path_cmp (p ++ a) (p ++ b))) (tied_itself steps_total s) ∙ cmp_front p a b

cmp_placed : (from to a b : List Step) → is_below from a ≡ true → is_below from b ≡ true → path_cmp (placed from to a) (placed from to b) ≡ path_cmp a b
cmp_placed from to a b g h =
    let one = below_rest from a g
    in let two = below_rest from b h
    in cmp_front to (drop (length from) a) (drop (length from) b)
    ∙ sym (cmp_front from (drop (length from) a) (drop (length from) b))
    ∙ ap (λ (x : List Step). path_cmp x (from ++ drop (length from) b)) (back a one.0 one.1)
    ∙ ap (path_cmp a) (back b two.0 two.1)
  where
    back : (k rest : List Step) → k ≡ from ++ rest → from ++ drop (length from) k ≡ k
    back k rest e = ap (placed from from) e ∙ placed_at from from rest ∙ sym e

behind_moved : (from to : List Step) (e : Pair Value) (es : List (Pair Value)) → is_below from e.0 ≡ true → AreBelow from es → AreBehind e.0 es
    → AreBehind (placed from to e.0) (moved from to es)
behind_moved from to e [] h below far = tt
behind_moved from to e (f ∷ es) h below far = (cmp_placed from to e.0 f.0 h below.0 ∙ far.0, behind_moved from to e es h below.1 far.1)

rises_moved : (from to : List Step) (es : List (Pair Value)) → Rises es → AreBelow from es → Rises (moved from to es)
rises_moved from to [] up below = tt
rises_moved from to (e ∷ es) up below = (behind_moved from to e es below.0 below.1 up.0, rises_moved from to es up.1 below.1)

moved_below : (from to : List Step) (es : List (Pair Value)) → AreBelow to (moved from to es)
moved_below from to [] = tt
moved_below from to (e ∷ es) = (below_more_steps to (drop (length from) e.0), moved_below from to es)

-- where an entry stands after a path and all below it
abbrev IsPast : List Step → Pair Value → Type 0
IsPast to c = (is_le (path_cmp c.0 to) ≡ false) × (is_below to c.0 ≡ false)

is_past : (to : List Step) (c : Pair Value) → not (is_le (path_cmp c.0 to) || is_below to c.0) ≡ true → IsPast to c
is_past to c h = by_tests _ _ refl refl
  where
    by_tests : (a b : Bool) → is_le (path_cmp c.0 to) ≡ a → is_below to c.0 ≡ b → IsPast to c
    by_tests true b e f = let d = ap (λ (x : Bool). not (x || is_below to c.0)) (sym e) ∙ h in cc
    by_tests false true e f = let d = ap (λ (x : Bool). not (is_le (path_cmp c.0 to) || x)) (sym f) ∙ h in let g = ap (λ (x : Bool). not (x || true)) (sym e) ∙ d in cc
    by_tests false false e f = (e, f)

below_past : (to y c : List Step) → is_below to y ≡ true → is_le (path_cmp c to) ≡ false → is_below to c ≡ false → path_cmp y c ≡ Less
below_past to y c below past apart = by_order _ refl
  where
    after : path_cmp to c ≡ Less
    after = behind_it c to past

    by_order : (o : Ordering) → path_cmp y c ≡ o → o ≡ Less
    by_order Less e = refl
    by_order Equal e = let d = ap (is_below to) (sym (path_same y c e)) ∙ below in cc
    by_order Greater e = let d = below_between to c y (ap is_le after) (behind y c e) below in cc

far_part : (from to : List Step) (x : Pair Value) (es : List (Pair Value)) → path_cmp x.0 to ≡ Less → AreBehind x.0 (moved from to es)
far_part from to x es h =
    all_each (λ y. is_below to y.0 ≡ true) (λ y. path_cmp x.0 y.0 ≡ Less) (λ y b. before_le x.0 to y.0 h (below_le to y.0 b))
    (moved from to es) (moved_below from to es)

module _ (stays : Bool) (from to : List Step) (part es : List (Pair Value)) where
  front_part : AllByRecursion (λ x. path_cmp x.0 to ≡ Less) (kept stays from (before to es))
  front_part =
      all_kept (λ e. is_kept stays from e.0) (λ x. path_cmp x.0 to ≡ Less) (before to es)
      (all_each (λ x. is_before to x ≡ true) (λ x. path_cmp x.0 to ≡ Less) (λ x h. is_less _ h) (before to es) (all_pass (is_before to) es))

  past_part : AllByRecursion (IsPast to) (kept stays from (past to es))
  past_part =
      all_kept (λ e. is_kept stays from e.0) (IsPast to) (past to es)
      (all_each (λ c. not (is_le (path_cmp c.0 to) || is_below to c.0) ≡ true) (IsPast to) (λ c h. is_past to c h) (past to es)
      (all_pass (λ c. not (is_le (path_cmp c.0 to) || is_below to c.0)) es))

  -- what is laid ascends
  rises_relaid : Rises es → Rises part → AreBelow from part → Rises (relaid stays from to part es)
  rises_relaid up rising below =
      rises_join (kept stays from (before to es)) (moved from to part ++ kept stays from (past to es))
      (rises_kept _ (before to es) (rises_kept _ es up))
      (rises_join (moved from to part) (kept stays from (past to es))
      (rises_moved from to part rising below)
      (rises_kept _ (past to es) (rises_kept _ es up))
      (all_each (λ y. is_below to y.0 ≡ true) (λ y. AreBehind y.0 (kept stays from (past to es)))
      (λ y b. all_each (IsPast to) (λ c. path_cmp y.0 c.0 ≡ Less) (λ c h. below_past to y.0 c.0 b h.0 h.1) (kept stays from (past to es)) past_part)
      (moved from to part) (moved_below from to part)))
      (all_each (λ x. path_cmp x.0 to ≡ Less) (λ x. AreBehind x.0 (moved from to part ++ kept stays from (past to es)))
      (λ x h. all_join (λ y. path_cmp x.0 y.0 ≡ Less) (moved from to part) (kept stays from (past to es))
      (far_part from to x part h)
      (all_each (IsPast to) (λ c. path_cmp x.0 c.0 ≡ Less) (λ c g. paths_total.trans x.0 to c.0 h (behind_it c.0 to g.0)) (kept stays from (past to es)) past_part))
      (kept stays from (before to es)) front_part)

find_join : (q : List Step) (xs ys : List (Pair Value)) → find path_cmp q (xs ++ ys) ≡ or_else (find path_cmp q xs) (find path_cmp q ys)
find_join q [] ys = refl
find_join q (x ∷ xs) ys = by_tie (eq_by_cmp path_cmp q x.0) (find_join q xs ys)
  where
    by_tie : (b : Bool) → find path_cmp q (xs ++ ys) ≡ or_else (find path_cmp q xs) (find path_cmp q ys)
        → cond b (Some x.1) (find path_cmp q (xs ++ ys)) ≡ or_else (cond b (Some x.1) (find path_cmp q xs)) (find path_cmp q ys)
    by_tie true go = refl
    by_tie false go = go

find_moved : (from to : List Step) (es : List (Pair Value)) (q : List Step) → AreBelow from es
    → find path_cmp q (moved from to es) ≡ cond (is_below to q) (find path_cmp (placed to from q) es) None
find_moved from to [] q below = alike (is_below to q)
  where
    alike : (b : Bool) → None ≡ cond {A = Option Value} b None None
    alike true = refl
    alike false = refl
find_moved from to (e ∷ es) q below =
    ap (λ (b : Bool). cond b (Some e.1) (find path_cmp q (moved from to es))) (placed_is from to q e.0 below.0)
    ∙ ap (λ (o : Option Value). cond (is_below to q && eq_by_cmp path_cmp (placed to from q) e.0) (Some e.1) o) (find_moved from to es q below.1)
    ∙ by_tests (is_below to q) (eq_by_cmp path_cmp (placed to from q) e.0)
  where
    by_tests : (b t : Bool) → cond (b && t) (Some e.1) (cond b (find path_cmp (placed to from q) es) None)
        ≡ cond b (cond t (Some e.1) (find path_cmp (placed to from q) es)) None
    by_tests true true = refl
    by_tests true false = refl
    by_tests false t = refl

-- what is found among the entries that pass a test of their paths
find_where : (p : List Step → Bool) (q : List Step) (es : List (Pair Value)) → find path_cmp q (filter (λ e. p e.0) es) ≡ cond (p q) (find path_cmp q es) None
find_where p q es = find-where_key path_cmp p q (λ x tie. ap p (sym (path_same q x tie))) es

get_left : (stays : Bool) (m : Statements) (from q : List Step) → map.get (left_by stays m from) q ≡ cond (is_kept stays from q) (map.get m q) None
get_left true m from q = refl
get_left false m from q = get-cleared m from q

or_none : (o : Option Value) → or_else o None ≡ o
or_none None = refl
or_none (Some v) = refl

-- below the other path stands the part alone
at_new : (k b c : Bool) (o : Option Value) → or_else (cond k (cond b None None) None) (or_else o (cond k (cond c None None) None)) ≡ or_else o (cond k None None)
at_new true true true o = refl
at_new true true false o = refl
at_new true false true o = refl
at_new true false false o = refl
at_new false b c o = refl

-- and elsewhere what stays
elsewhere : (k : Bool) (o : Ordering) (g : Option Value) → o ≢ Equal
    → or_else (cond k (cond (is_lt o) g None) None) (or_else None (cond k (cond (not (is_le o || false)) g None) None)) ≡ cond k g None
elsewhere true Less g h = or_none g
elsewhere true Equal g h = absurd (h refl)
elsewhere true Greater g h = refl
elsewhere false o g h = refl

module _ (stays : Bool) (m : EntryMap (List Step) Value) (from to : List Step) (free : (rest : List Step) → map.get (shown m) (to ++ rest) ≡ None) where
  found : (q : List Step) → find path_cmp q m.entries ≡ map.get (shown m) q
  found q = sym (map.get-from_entries paths_total m.entries q)

  find_front : (q : List Step) → find path_cmp q (kept stays from (before to m.entries))
      ≡ cond (is_kept stays from q) (cond (is_lt (path_cmp q to)) (map.get (shown m) q) None) None
  find_front q =
      find_where (is_kept stays from) q (before to m.entries)
      ∙ ap (λ (o : Option Value). cond (is_kept stays from q) o None)
      (find_where (λ x. is_lt (path_cmp x to)) q m.entries ∙ ap (λ (o : Option Value). cond (is_lt (path_cmp q to)) o None) (found q))

  find_past : (q : List Step) → find path_cmp q (kept stays from (past to m.entries))
      ≡ cond (is_kept stays from q) (cond (not (is_le (path_cmp q to) || is_below to q)) (map.get (shown m) q) None) None
  find_past q =
      find_where (is_kept stays from) q (past to m.entries)
      ∙ ap (λ (o : Option Value). cond (is_kept stays from q) o None)
      (find_where (λ x. not (is_le (path_cmp x to) || is_below to x)) q m.entries
      ∙ ap (λ (o : Option Value). cond (not (is_le (path_cmp q to) || is_below to q)) o None) (found q))

  find_placed : (q : List Step) → find path_cmp q (moved from to (part_of (shown m) from)) ≡ cond (is_below to q) (map.get (shown m) (placed to from q)) None
  find_placed q =
      find_moved from to (part_of (shown m) from) q (filter_below from (map.entries (shown m)))
      ∙ ap (λ (o : Option Value). cond (is_below to q) o None) (find_part (shown m) from (placed to from q) (below_more_steps from (drop (length to) q)))

  none_at : (q : List Step) → is_below to q ≡ true → map.get (shown m) q ≡ None
  none_at q h = let r = below_rest to q h in ap (map.get (shown m)) r.1 ∙ free r.0

  differs : (q : List Step) → is_below to q ≡ false → path_cmp q to ≢ Equal
  differs q h e = let d = ap (is_below to) (path_same q to e) ∙ below_self to in cc

  tells : (q : List Step)
      → or_else (cond (is_kept stays from q) (cond (is_lt (path_cmp q to)) (map.get (shown m) q) None) None)
      (or_else (cond (is_below to q) (map.get (shown m) (placed to from q)) None)
      (cond (is_kept stays from q) (cond (not (is_le (path_cmp q to) || is_below to q)) (map.get (shown m) q) None) None))
      ≡ cond (is_below to q) (or_else (map.get (shown m) (placed to from q)) (cond (is_kept stays from q) (map.get (shown m) q) None))
      (cond (is_kept stays from q) (map.get (shown m) q) None)
  tells q = by_test _ refl
    where
      by_test : (b : Bool) → is_below to q ≡ b
          → or_else (cond (is_kept stays from q) (cond (is_lt (path_cmp q to)) (map.get (shown m) q) None) None)
          (or_else (cond b (map.get (shown m) (placed to from q)) None)
          (cond (is_kept stays from q) (cond (not (is_le (path_cmp q to) || b)) (map.get (shown m) q) None) None))
          ≡ cond b (or_else (map.get (shown m) (placed to from q)) (cond (is_kept stays from q) (map.get (shown m) q) None))
          (cond (is_kept stays from q) (map.get (shown m) q) None)
      by_test true h =
          subst (λ (g : Option Value).
          or_else (cond (is_kept stays from q) (cond (is_lt (path_cmp q to)) g None) None)
          (or_else (map.get (shown m) (placed to from q)) (cond (is_kept stays from q) (cond (not (is_le (path_cmp q to) || true)) g None) None))
          ≡ or_else (map.get (shown m) (placed to from q)) (cond (is_kept stays from q) g None))
          (sym (none_at q h))
          (at_new (is_kept stays from q) (is_lt (path_cmp q to)) (not (is_le (path_cmp q to) || true)) (map.get (shown m) (placed to from q)))
      by_test false h = elsewhere (is_kept stays from q) (path_cmp q to) (map.get (shown m) q) (differs q h)

  -- what is laid, as a map
  relaid_is : map.from_entries {R = path_cmp} (relaid stays from to (part_of (shown m) from) m.entries)
      ≡ with_part from to (left_by stays (shown m) from) (part_of (shown m) from)
  relaid_is = same_statements _ _ (λ q.
      map.get-from_entries paths_total (relaid stays from to (part_of (shown m) from) m.entries) q
      ∙ find_join q (kept stays from (before to m.entries)) (moved from to (part_of (shown m) from) ++ kept stays from (past to m.entries))
      ∙ ap (λ (o : Option Value). or_else (find path_cmp q (kept stays from (before to m.entries))) o)
      (find_join q (moved from to (part_of (shown m) from)) (kept stays from (past to m.entries)))
      ∙ (λ i. or_else (find_front q i) (or_else (find_placed q i) (find_past q i)))
      ∙ tells q
      ∙ sym (get-with_part from to (shown m) (left_by stays (shown m) from) q
      ∙ ap (λ (o : Option Value). cond (is_below to q) (or_else (map.get (shown m) (placed to from q)) o) o) (get_left stays (shown m) from q)))

entries_up : (m : EntryMap (List Step) Value) → IsOrdered path_cmp m → IsStrictlySortedBy path_cmp (keys_of (map.entries (shown m)))
entries_up m up = subst (λ (es : List (Pair Value)). IsStrictlySortedBy path_cmp (keys_of es)) (sym (entries_is m.entries up)) up

module _ (stays : Bool) (m : EntryMap (List Step) Value) (from to : List Step) (part : List (Pair Value)) (is_part : part ≡ part_of (shown m) from) where
  pub relaid_sorted : (es : List (Pair Value)) → IsOrdered path_cmp m → es ≡ relaid stays from to part m.entries → IsStrictlySortedBy path_cmp (keys_of es)
  relaid_sorted es up e =
      subst (λ (xs : List (Pair Value)). IsStrictlySortedBy path_cmp (keys_of xs))
      (sym (e ∙ ap (λ (p : List (Pair Value)). relaid stays from to p m.entries) is_part))
      (ascends (relaid stays from to (part_of (shown m) from) m.entries)
      (rises_relaid stays from to (part_of (shown m) from) m.entries (rises m.entries up)
      (rises_kept (λ x. is_below from x.0) (map.entries (shown m)) (rises (map.entries (shown m)) (entries_up m up)))
      (filter_below from (map.entries (shown m)))))

  pub relaid_made : (es : List (Pair Value)) → ((rest : List Step) → map.get (shown m) (to ++ rest) ≡ None) → es ≡ relaid stays from to part m.entries
      → map.from_entries {R = path_cmp} es ≡ with_part from to (left_by stays (shown m) from) part
  relaid_made es free e =
      ap (λ (xs : List (Pair Value)). map.from_entries {R = path_cmp} xs) (e ∙ ap (λ (p : List (Pair Value)). relaid stays from to p m.entries) is_part)
      ∙ relaid_is stays m from to free
      ∙ ap (with_part from to (left_by stays (shown m) from)) (sym is_part)
