-- The nodes of the row at paths.
use Rattle.std.proofs.Common.{◌≡◌, ◌+◌, nat_lt, Bool, true, false, not, cond, List, [], ◌∷◌, ◌++◌, length, filter, map, refl, sym, ap, ◌∙◌, arith, append_assoc, Some}
use Rattle.std.specs.Prelude.{◌&&◌, ◌==◌}
use Rattle.std.specs.FinMap as finite
use Rattle.std.specs.FinMap.{find}
use Rattle.std.specs.List.{AllByRecursion}
use Rattle.std.specs.List.Sorted.{IsStrictlySortedBy}
use Rattle.std.specs.Map.{keys_of}
use Rattle.std.specs.Ordering.{eq_by_cmp, is_eq, ordering_reverse}
use Rattle.std.specs.declared.cmp.Ordering.TheVariants.{Less}
use Rattle.std.proofs.lemmas.Bool.{eqb-true}
use Rattle.cfg_base.specs.Order.{path_cmp, step_cmp, paths_total, is_below}
use Rattle.cfg_base.specs.declared.path.Step.{Step}
use Rattle.cfg_base.specs.declared.value.Value.{Value}
use Rattle.cfg_entries.specs.EntryMap.{Pair}
use Rattle.cfg_tree.specs.Statements.{last_of}
use Rattle.cfg_tree.specs.Children.{is_inside, is_child, steps_below}
use Rattle.cfg_tree.proofs.MapLemmas.{same_path, same_step, entries_is}
use Rattle.group_expand.specs.Live.{Look, is_active, live_from, is_live}
use Rattle.group_expand.specs.Row.{StatementView, AreBehind, Ordered, pairs_of}
use Rattle.group_expand.specs.Node.{Node, inside_of, node_of, is_live_child, live_children}
use Rattle.group_expand.specs.Placed.{map_of, value_in, node_at, kids_at}
use Rattle.group_expand.proofs.ClosedLemmas.{both}
use Rattle.group_expand.proofs.StepLemmas.{last_is}
use Rattle.group_expand.proofs.NodeLemmas.{inside_longer, lt_is}

-- one more step is live where the path is and the step isn't inactive
live_more_from : (look : Look) (above rest : List Step) (s : Step)
    → live_from look above (rest ++ s ∷ []) ≡ (live_from look above rest && is_active (look (above ++ (rest ++ s ∷ []))))
live_more_from look above [] s = by_test (is_active (look (above ++ s ∷ [])))
  where
    by_test : (b : Bool) → (b && true) ≡ b
    by_test true = refl
    by_test false = refl
live_more_from look above (t ∷ rest) s =
    ap (λ (b : Bool). is_active (look (above ++ t ∷ [])) && b) (live_more_from look (above ++ t ∷ []) rest s)
    ∙ ap (λ (q : List Step). is_active (look (above ++ t ∷ [])) && (live_from look (above ++ t ∷ []) rest && is_active (look q))) (append_assoc above (t ∷ []) (rest ++ s ∷ []))
    ∙ by_test (is_active (look (above ++ t ∷ [])))
  where
    by_test : (b : Bool) → (b && (live_from look (above ++ t ∷ []) rest && is_active (look (above ++ (t ∷ (rest ++ s ∷ []))))))
        ≡ ((b && live_from look (above ++ t ∷ []) rest) && is_active (look (above ++ (t ∷ (rest ++ s ∷ [])))))
    by_test true = refl
    by_test false = refl

pub live_more : (look : Look) (q : List Step) (s : Step) → is_live look (q ++ s ∷ []) ≡ (is_live look q && is_active (look (q ++ s ∷ [])))
live_more look q s = live_more_from look [] q s

-- a child is its parent with one more step
pub child_split : (q p : List Step) → is_child q p ≡ true → p ≡ q ++ last_of p ∷ []
child_split q p h =
    let k = both (is_below q p) (length p == length q + 1) h in let m = more q p k.0 (eqb-true (length p) (length q + 1) k.1)
    in m.1 ∙ ap (λ (s : Step). q ++ s ∷ []) (sym (last_is q m.0) ∙ ap last_of (sym m.1))
  where
    more : (a b : List Step) → is_below a b ≡ true → length b ≡ length a + 1 → (s : Step) × (b ≡ a ++ s ∷ [])
    more [] [] e l = absurd (omega (arith, l))
    more [] (s ∷ []) e l = (s, refl)
    more [] (s ∷ t ∷ b) e l = absurd (omega (arith, l))
    more (x ∷ a) [] e l = cc
    more (x ∷ a) (y ∷ b) e l =
        let k = both _ _ e in let same : y ≡ x = sym ((same_step x y).0 k.0) in let m = more a b k.1 (omega (arith, l)) in (m.0, λ i. same i ∷ m.1 i)

pub child_inside : (q p : List Step) → is_child q p ≡ true → is_inside q p ≡ true
child_inside q p h =
    let k = both (is_below q p) (length p == length q + 1) h in let m = eqb-true (length p) (length q + 1) k.1
    in ap (λ (a : Bool). a && nat_lt (length q) (length p)) k.0 ∙ lt_is (length q) (length p) (omega (arith, m))

-- what is inside a path inside another one is inside that one
inside_trans : (p q r : List Step) → is_inside p q ≡ true → is_inside q r ≡ true → is_inside p r ≡ true
inside_trans p q r h k =
    let a = inside_longer p q h in let b = inside_longer q r k
    in ap (λ (c : Bool). c && nat_lt (length p) (length r)) (below_trans p q r (both _ _ h).0 (both _ _ k).0)
    ∙ lt_is (length p) (length r) (omega (arith, a, b))
  where
    below_trans : (a b c : List Step) → is_below a b ≡ true → is_below b c ≡ true → is_below a c ≡ true
    below_trans [] b c h k = refl
    below_trans (s ∷ a) [] c h k = cc
    below_trans (s ∷ a) (t ∷ b) [] h k = cc
    below_trans (s ∷ a) (t ∷ b) (u ∷ c) h k =
        let x = both _ _ h in let y = both _ _ k
        in let su : eq_by_cmp step_cmp s u ≡ true = (same_step s u).1 ((same_step s t).0 x.0 ∙ (same_step t u).0 y.0)
        in ap (λ (b : Bool). b && is_below a c) su ∙ below_trans a b c x.1 y.1

-- a test that implies another one
pub filter_within : {X : Type 0} (t u : X → Bool) (xs : List X) → ((x : X) → t x ≡ true → u x ≡ true) → filter t (filter u xs) ≡ filter t xs
filter_within t u [] go = refl
filter_within {X} t u (x ∷ xs) go = by_tests (u x) (t x) refl refl (filter_within t u xs go)
  where
    by_tests : (a b : Bool) → u x ≡ a → t x ≡ b → filter t (filter u xs) ≡ filter t xs → filter t (cond a (x ∷ filter u xs) (filter u xs)) ≡ cond b (x ∷ filter t xs) (filter t xs)
    by_tests true b e f same = ap (λ (c : Bool). cond c (x ∷ filter t (filter u xs)) (filter t (filter u xs))) f ∙ ap (λ (ys : List X). cond b (x ∷ ys) ys) same
    by_tests false true e f same = let k = sym (go x f) ∙ e in cc
    by_tests false false e f same = same

pub all_pass : {X : Type 0} (t : X → Bool) (xs : List X) → AllByRecursion (λ x. t x ≡ true) xs → filter t xs ≡ xs
all_pass t [] h = refl
all_pass {X} t (x ∷ xs) h = ap (λ (b : Bool). cond b (x ∷ filter t xs) (filter t xs)) h.0 ∙ ap (λ (ys : List X). x ∷ ys) (all_pass t xs h.1)

-- what the map of a row has at the path of a statement
pub sorted_pairs : (row : List StatementView) → Ordered row → IsStrictlySortedBy path_cmp (keys_of (pairs_of row))
unfolding IsStrictlySortedBy
sorted_pairs [] h = tt
sorted_pairs (x ∷ xs) h = (behind xs h.0, sorted_pairs xs h.1)
  where
    behind : (ys : List StatementView) → AreBehind x.path ys → AllByRecursion (λ k. path_cmp x.path k ≡ Less) (keys_of (pairs_of ys))
    behind [] b = tt
    behind (y ∷ ys) b = (b.0, behind ys b.1)

pub entries_of_row : (row : List StatementView) → Ordered row → finite.entries (map_of row) ≡ pairs_of row
entries_of_row row h = entries_is (pairs_of row) (sorted_pairs row h)

abbrev IsThere : Look → StatementView → Type 0
IsThere look x = look x.path ≡ Some x.value

found_all : (row : List StatementView) → Ordered row → AllByRecursion (λ x. find path_cmp x.path (pairs_of row) ≡ Some x.value) row
found_all [] h = tt
found_all (y ∷ ys) h =
    (ap (λ (b : Bool). cond b (Some y.value) (find path_cmp y.path (pairs_of ys))) ((same_path y.path y.path).1 refl), later ys h.0 (found_all ys h.1))
  where
    later : (zs : List StatementView) → AreBehind y.path zs → AllByRecursion (λ x. find path_cmp x.path (pairs_of ys) ≡ Some x.value) zs
        → AllByRecursion (λ x. find path_cmp x.path (pairs_of (y ∷ ys)) ≡ Some x.value) zs
    later [] b k = tt
    later (z ∷ zs) b k = (
      ap (λ (t : Bool). cond t (Some y.value) (find path_cmp z.path (pairs_of ys)))
          (ap is_eq (paths_total.antisymm z.path y.path ∙ ap ordering_reverse b.0)) ∙ k.0,
      later zs b.1 k.1,
    )

pub row_there : (row : List StatementView) → Ordered row → AllByRecursion (IsThere (finite.get (map_of row))) row
row_there row h = each row (found_all row h)
  where
    each : (xs : List StatementView) → AllByRecursion (λ x. find path_cmp x.path (pairs_of row) ≡ Some x.value) xs → AllByRecursion (IsThere (finite.get (map_of row))) xs
    each [] k = tt
    each (x ∷ xs) k = (finite.get-from_entries paths_total (pairs_of row) x.path ∙ k.0, each xs k.1)

-- the live children, stated by nodes of the whole row
module _ (look : Look) (row : List StatementView) (q : List Step) (live : is_live look q ≡ true) where
  child_live : (x : StatementView) → IsThere look x → is_child q x.path ≡ true → is_live look (q ++ last_of x.path ∷ []) ≡ not x.value.inactive
  child_live x there child =
      live_more look q (last_of x.path)
      ∙ ap (λ (b : Bool). b && is_active (look (q ++ last_of x.path ∷ []))) live
      ∙ ap (λ (p : List Step). is_active (look p)) (sym (child_split q x.path child))
      ∙ ap is_active there

  whole_child : (x : StatementView) → is_child q x.path ≡ true → inside_of x.path (inside_of q row) ≡ inside_of x.path row
  whole_child x child = filter_within (λ y. is_inside x.path y.path) (λ y. is_inside q y.path) row (λ y h. inside_trans q x.path y.path (child_inside q x.path child) h)

  abbrev rest_steps : List StatementView → List Step
  rest_steps ys = map last_of (filter (is_child q) (map (λ y. y.path) ys))

  abbrev placed : List Step → List Node
  placed ss = map (λ s. node_at look row (q ++ s ∷ [])) ss

  each_child : (xs : List StatementView) → AllByRecursion (IsThere look) xs
      → map (node_of (inside_of q row)) (filter (is_live_child q) xs)
      ≡ map (λ s. node_at look row (q ++ s ∷ [])) (filter (λ s. is_live look (q ++ s ∷ [])) (map last_of (filter (is_child q) (map (λ x. x.path) xs))))
  each_child [] h = refl
  each_child (x ∷ xs) h = by_tests (is_child q x.path) (not x.value.inactive) refl refl (each_child xs h.1)
    where
      here : is_child q x.path ≡ true → node_of (inside_of q row) x ≡ node_at look row (q ++ last_of x.path ∷ [])
      here child =
          ap (λ (ys : List StatementView). record { path = x.path; value = x.value; below = ys }) (whole_child x child)
          ∙ ap (λ (v : Value). record { path = x.path; value = v; below = inside_of x.path row }) (sym (ap value_in h.0))
          ∙ ap (node_at look row) (child_split q x.path child)

      by_tests : (a b : Bool) → is_child q x.path ≡ a → not x.value.inactive ≡ b
          → map (node_of (inside_of q row)) (filter (is_live_child q) xs) ≡ placed (filter (λ s. is_live look (q ++ s ∷ [])) (rest_steps xs))
          → map (node_of (inside_of q row)) (cond (a && b) (x ∷ filter (is_live_child q) xs) (filter (is_live_child q) xs))
          ≡ placed (filter (λ s. is_live look (q ++ s ∷ [])) (map last_of (cond a (x.path ∷ filter (is_child q) (map (λ y. y.path) xs)) (filter (is_child q) (map (λ y. y.path) xs)))))
      by_tests true true e f go =
          ap (λ (n : Node). n ∷ map (node_of (inside_of q row)) (filter (is_live_child q) xs)) (here e)
          ∙ ap (λ (ns : List Node). node_at look row (q ++ last_of x.path ∷ []) ∷ ns) go
          ∙ ap (λ (b : Bool). placed (cond b (last_of x.path ∷ filter (λ s. is_live look (q ++ s ∷ [])) (rest_steps xs)) (filter (λ s. is_live look (q ++ s ∷ [])) (rest_steps xs))))
          (sym (child_live x h.0 e ∙ f))
      by_tests true false e f go =
          go
          ∙ ap (λ (b : Bool). placed (cond b (last_of x.path ∷ filter (λ s. is_live look (q ++ s ∷ [])) (rest_steps xs)) (filter (λ s. is_live look (q ++ s ∷ [])) (rest_steps xs))))
          (sym (child_live x h.0 e ∙ f))
      by_tests false b e f go = go

pub paths_of_row : (row : List StatementView) → Ordered row → finite.keys (map_of row) ≡ map (λ x. x.path) row
paths_of_row row h = ap (λ (es : List (Pair Value)). map (λ (e : Pair Value). e.0) es) (entries_of_row row h) ∙ firsts row
  where
    firsts : (xs : List StatementView) → map (λ (e : Pair Value). e.0) (pairs_of xs) ≡ map (λ (x : StatementView). x.path) xs
    firsts [] = refl
    firsts (x ∷ xs) = ap (λ (ps : List (List Step)). x.path ∷ ps) (firsts xs)

-- the live children of a live path, as the code meets them
pub children_at : (row : List StatementView) (q : List Step) → Ordered row → is_live (finite.get (map_of row)) q ≡ true
    → live_children q (inside_of q row) ≡ kids_at (finite.get (map_of row)) (steps_below (map_of row)) row q
children_at row q h live =
    ap (λ (xs : List StatementView). map (node_of (inside_of q row)) xs)
    (filter_within (is_live_child q) (λ x. is_inside q x.path) row (λ x k. child_inside q x.path (both _ _ k).0))
    ∙ each_child (finite.get (map_of row)) row q live row (row_there row h)
    ∙ ap (λ (ks : List (List Step)). map (λ s. node_at (finite.get (map_of row)) row (q ++ s ∷ []))
    (filter (λ s. is_live (finite.get (map_of row)) (q ++ s ∷ [])) (map last_of (filter (is_child q) ks)))) (sym (paths_of_row row h))
