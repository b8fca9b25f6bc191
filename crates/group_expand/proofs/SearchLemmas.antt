-- The child of a node that has a step, and its wildcards with a head, found by cutting what stands below it.
use Rattle.std.proofs.Common.{◌≡◌, ℕ, ◌<◌, ◌≤◌, Bool, true, false, not, cond, List, [], ◌∷◌, ◌++◌, length, filter, map, refl, sym, ap, ◌∙◌, arith, Option, Some, Less, Equal, Greater, Ordering, is_lt, nat_lt}
use Rattle.std.specs.Prelude.{◌&&◌, ◌==◌, slice_get}
use Rattle.std.specs.Ordering.{is_eq, ordering_then}
use Rattle.std.specs.List.{AllByRecursion}
use Rattle.std.specs.Option.{option_to_list}
use Rattle.std.proofs.lemmas.Bool.{eqb-true, eq-eqb}
use Rattle.cfg_base.specs.Order.{path_cmp, step_cmp, word_cmp, words_total, is_below}
use Rattle.cfg_base.specs.Words.{same_word}
use Rattle.cfg_base.specs.declared.path.Step.{Step}
use Rattle.cfg_schema.proofs.TestLemmas.{same, same_is}
use Rattle.cfg_tree.specs.Statements.{last_of}
use Rattle.cfg_tree.specs.Tree.{step_of}
use Rattle.cfg_tree.specs.Children.{is_inside, is_child}
use Rattle.cfg_tree.proofs.MapLemmas as maps
use Rattle.cfg_tree.proofs.MapLemmas.{word_same, is_equal, ties_decide}
use Rattle.group_expand.specs.Sources.{same_step, is_wildcard, fits_wildcard}
use Rattle.group_expand.specs.Row.{StatementView, AreBehind, Ordered}
use Rattle.group_expand.specs.Node.{Node, AreInside, node_of, is_live_child, live_children, children_of, first_child, IsPart}
use Rattle.group_expand.specs.Fitting.{exact, wild, wildcards_of}
use Rattle.group_expand.specs.Cut.{comes_before, is_earlier, is_before, before_of, from_of}
use Rattle.group_expand.proofs.ClosedLemmas.{both}
use Rattle.group_expand.proofs.ApartLemmas.{step_is}
use Rattle.group_expand.proofs.NodeLemmas.{inside_longer, ordered_kept}
use Rattle.group_expand.proofs.PlacedLemmas.{child_split, filter_within}
use Rattle.group_expand.proofs.CutLemmas.{inside_kept, part_children}

-- between a path whose step isn't before another one and the path of that one nothing stands
none_between : (above p : List Step) (s : Step) → is_below above p ≡ true → length above < length p → path_cmp p (above ++ s ∷ []) ≡ Less
    → is_earlier s (slice_get p (length above)) ≡ false → ⊥
none_between [] [] s h l less e = omega (arith, l)
none_between [] (t ∷ p) s h l less e = by_order (step_cmp t s) less e
  where
    by_order : (o : Ordering) → ordering_then o (path_cmp p []) ≡ Less → is_lt o ≡ false → ⊥
    by_order Less f g = cc
    by_order Equal f g = nothing p f
      where
        nothing : (q : List Step) → path_cmp q [] ≡ Less → ⊥
        nothing [] k = cc
        nothing (u ∷ q) k = cc
    by_order Greater f g = cc
none_between (u ∷ above) [] s h l less e = cc
none_between (u ∷ above) (t ∷ p) s h l less e =
    let a = both _ _ h in let ut : u ≡ t = (maps.same_step u t).0 a.0
    in let equal : step_cmp t u ≡ Equal = is_equal _ ((maps.same_step t u).1 (sym ut))
    in none_between above p s a.1 (omega (arith, l)) (sym (ap (λ (o : Ordering). ordering_then o (path_cmp p (above ++ s ∷ []))) equal) ∙ less) e

module _ (above : List Step) (bound : Step) (zs : List StatementView) where
  abbrev kids : List StatementView → List Node
  kids ys = map (node_of zs) (filter (is_live_child above) ys)

  -- of what isn't before a step, only the first can have it
  only_first : (x : StatementView) → is_inside above x.path ≡ true → is_before above bound x ≡ false → (ys : List StatementView) → AreBehind x.path ys → exact bound (kids ys) ≡ []
  only_first x h e [] b = refl
  only_first x h e (y ∷ ys) b = by_live (is_live_child above y) refl (only_first x h e ys b.1)
    where
      by_step : is_child above y.path ≡ true → (c : Bool) → same_step bound (last_of y.path) ≡ c → exact bound (kids ys) ≡ []
          → cond c (node_of zs y ∷ exact bound (kids ys)) (exact bound (kids ys)) ≡ []
      by_step child true k go =
          let there : y.path ≡ above ++ bound ∷ [] = child_split above y.path child ∙ ap (λ (s : Step). above ++ s ∷ []) (sym (step_is bound (last_of y.path) k))
          in absurd (none_between above x.path bound (both _ _ h).0 (inside_longer above x.path h) (ap (path_cmp x.path) (sym there) ∙ b.0) e)
      by_step child false k go = go

      by_live : (c : Bool) → is_live_child above y ≡ c → exact bound (kids ys) ≡ []
          → exact bound (map (node_of zs) (cond c (y ∷ filter (is_live_child above) ys) (filter (is_live_child above) ys))) ≡ []
      by_live true k go = by_step (both _ _ k).0 (same_step bound (last_of y.path)) refl go
      by_live false k go = go

module _ (above : List Step) (bound : Step) where
  first_alone : (xs : List StatementView) → Ordered xs → AreInside above xs → AllByRecursion (λ x. is_before above bound x ≡ false) xs
      → exact bound (live_children above xs) ≡ exact bound (first_child above xs)
  first_alone [] o h e = refl
  first_alone (x ∷ xs) o h e = by_live (is_live_child above x) (only_first above bound (x ∷ xs) x h.0 e.0 xs o.0)
    where
      by_live : (c : Bool) → exact bound (map (node_of (x ∷ xs)) (filter (is_live_child above) xs)) ≡ []
          → exact bound (map (node_of (x ∷ xs)) (cond c (x ∷ filter (is_live_child above) xs) (filter (is_live_child above) xs)))
          ≡ exact bound (cond c (node_of (x ∷ xs) x ∷ []) [])
      by_live true go = ap (λ (ns : List Node). cond (same_step bound (last_of x.path)) (node_of (x ∷ xs) x ∷ ns) ns) go
      by_live false go = go

  not_before : (xs : List StatementView) → AllByRecursion (λ x. is_before above bound x ≡ false) (from_of above bound xs)
  not_before [] = tt
  not_before (x ∷ xs) = by_test (is_before above bound x) refl (not_before xs)
    where
      by_test : (b : Bool) → is_before above bound x ≡ b → AllByRecursion (λ y. is_before above bound y ≡ false) (from_of above bound xs)
          → AllByRecursion (λ y. is_before above bound y ≡ false) (cond (not b) (x ∷ from_of above bound xs) (from_of above bound xs))
      by_test true e k = k
      by_test false e k = (e, k)

  itself_later : (s : Step) → same_step bound s ≡ true → not (is_earlier bound (Some s)) ≡ true
  itself_later s e =
      ap (λ (o : Ordering). not (is_lt o)) (is_equal (step_cmp s bound) ((maps.same_step s bound).1 (sym (step_is bound s e))))

  -- the child with a step is the first of what isn't before it, if that is one and has it
  pub child_found : (below : List StatementView) → Ordered (from_of above bound below) → AreInside above (from_of above bound below)
      → exact bound (first_child above (from_of above bound below)) ≡ exact bound (live_children above below)
  child_found below o h =
      sym (first_alone (from_of above bound below) o h (not_before below))
      ∙ ap (exact bound) (part_children above (λ s. not (is_earlier bound s)) below)
      ∙ filter_within (λ n. same_step bound (last_of n.path)) (λ n. not (is_earlier bound (Some (last_of n.path)))) (live_children above below) (λ n e. itself_later (last_of n.path) e)

-- the names from `<` up to `=` are those that begin with `<`
wild_names : (name : List ℕ) → (not (is_lt (word_cmp name (60 ∷ []))) && is_lt (word_cmp name (61 ∷ []))) ≡ is_wildcard name
wild_names [] = refl
wild_names (b ∷ rest) = by_tests (nat_lt b 60) (b == 60) (nat_lt b 61) (b == 61) refl refl refl
  where
    not_less : (xs : List ℕ) → is_lt (word_cmp xs []) ≡ false
    not_less [] = refl
    not_less (x ∷ xs) = refl

    by_tests : (p q r t : Bool) → nat_lt b 60 ≡ p → (b == 60) ≡ q → nat_lt b 61 ≡ r
        → (not (is_lt (ordering_then (cond p Less (cond q Equal Greater)) (word_cmp rest [])))
        && is_lt (ordering_then (cond r Less (cond t Equal Greater)) (word_cmp rest []))) ≡ q
    by_tests true true r t e f g = absurd (let l : b < 60 = grind arith in let m = eqb-true b 60 f in omega (arith, l, m))
    by_tests true false r t e f g = refl
    by_tests false true true t e f g = ap (λ (c : Bool). not c && true) (not_less rest)
    by_tests false true false t e f g = absurd (let l : 61 ≤ b = grind arith in let m = eqb-true b 60 f in omega (arith, l, m))
    by_tests false false true t e f g = absurd (let k : 60 ≤ b = grind arith in let l : b < 61 = grind arith in let m : b ≡ 60 = omega (arith, k, l) in let c = sym f ∙ eq-eqb b 60 m in cc)
    by_tests false false false true e f g = not_less rest
    by_tests false false false false e f g = refl

wild_steps : (head : List ℕ) (s : Step)
    → (not (comes_before (step_of head (60 ∷ [])) s) && comes_before (step_of head (61 ∷ [])) s) ≡ (same_word head s.head && is_wildcard s.name)
wild_steps head s = by_head (word_cmp s.head head) refl
  where
    unlike : (word_cmp s.head head ≡ Equal → ⊥) → same_word head s.head ≡ false
    unlike apart = by_same (same_word head s.head) refl
      where
        by_same : (b : Bool) → same_word head s.head ≡ b → b ≡ false
        by_same true e = absurd (apart (is_equal _ ((ties_decide words_total word_same s.head head).1 (sym (same head s.head e)))))
        by_same false e = refl

    by_head : (o : Ordering) → word_cmp s.head head ≡ o
        → (not (is_lt (ordering_then o (word_cmp s.name (60 ∷ [])))) && is_lt (ordering_then o (word_cmp s.name (61 ∷ [])))) ≡ (same_word head s.head && is_wildcard s.name)
    by_head Less e = sym (ap (λ (b : Bool). b && is_wildcard s.name) (unlike (λ k. let c = sym e ∙ k in cc)))
    by_head Equal e =
        wild_names s.name
        ∙ sym (ap (λ (b : Bool). b && is_wildcard s.name) (same_is head s.head (sym ((ties_decide words_total word_same s.head head).0 (ap is_eq e)))))
    by_head Greater e = sym (ap (λ (b : Bool). b && is_wildcard s.name) (unlike (λ k. let c = sym e ∙ k in cc)))

filter_both : {X : Type 0} (t u : X → Bool) (xs : List X) → filter t (filter u xs) ≡ filter (λ x. u x && t x) xs
filter_both t u [] = refl
filter_both {X} t u (x ∷ xs) = by_test (u x) (filter_both t u xs)
  where
    by_test : (b : Bool) → filter t (filter u xs) ≡ filter (λ y. u y && t y) xs
        → filter t (cond b (x ∷ filter u xs) (filter u xs)) ≡ cond (b && t x) (x ∷ filter (λ y. u y && t y) xs) (filter (λ y. u y && t y) xs)
    by_test true go = ap (λ (ys : List X). cond (t x) (x ∷ ys) ys) go
    by_test false go = go

-- the wildcards with a head are the children from `<` up to `=`
pub wildcards_found : (above : List Step) (head : List ℕ) (below : List StatementView)
    → live_children above (before_of above (step_of head (61 ∷ [])) (from_of above (step_of head (60 ∷ [])) below))
    ≡ filter (λ n. same_word head (last_of n.path).head && is_wildcard (last_of n.path).name) (live_children above below)
wildcards_found above head below =
    part_children above (is_earlier (step_of head (61 ∷ []))) (from_of above (step_of head (60 ∷ [])) below)
    ∙ ap (filter (λ n. is_earlier (step_of head (61 ∷ [])) (Some (last_of n.path)))) (part_children above (λ s. not (is_earlier (step_of head (60 ∷ [])) s)) below)
    ∙ filter_both (λ n. comes_before (step_of head (61 ∷ [])) (last_of n.path)) (λ n. not (comes_before (step_of head (60 ∷ [])) (last_of n.path))) (live_children above below)
    ∙ (let alike : (λ (n : Node). not (comes_before (step_of head (60 ∷ [])) (last_of n.path)) && comes_before (step_of head (61 ∷ [])) (last_of n.path))
    ≡ (λ (n : Node). same_word head (last_of n.path).head && is_wildcard (last_of n.path).name) = λ i n. wild_steps head (last_of n.path) i
    in ap (λ (u : Node → Bool). filter u (live_children above below)) alike)

-- only wildcards with a step's head match it
pub wild_among : (step : Step) (node : Node) → wild step (wildcards_of step.head node) ≡ wild step (children_of node)
wild_among step node =
    filter_within (λ n. fits_wildcard step (last_of n.path)) (λ n. same_word step.head (last_of n.path).head && is_wildcard (last_of n.path).name) (children_of node)
    (λ n e. let k = both _ _ e in ap (λ (b : Bool). b && is_wildcard (last_of n.path).name) k.0 ∙ (both _ _ k.1).0)

module _ (node : Node) (part : IsPart node.path node.below) where
  -- the child with a step, where what isn't before it begins with this
  pub child_told : (bound : Step) (from : List StatementView) (o : Option Node) → from ≡ from_of node.path bound node.below → option_to_list o ≡ first_child node.path from
      → exact bound (option_to_list o) ≡ exact bound (children_of node)
  child_told bound from o e f =
      ap (exact bound) (f ∙ ap (first_child node.path) e)
      ∙ child_found node.path bound node.below (ordered_kept (λ x. not (is_before node.path bound x)) node.below part.ordered)
      (inside_kept node.path (λ s. not (is_earlier bound s)) node.below part.inside)

  pub child_there : (bound : Step) (from : List StatementView) (child : Node) → from ≡ from_of node.path bound node.below → child ∷ [] ≡ first_child node.path from
      → same_step bound (last_of child.path) ≡ true → child ∷ [] ≡ exact bound (children_of node)
  child_there bound from child e f is = sym (ap (λ (b : Bool). cond b (child ∷ []) []) is) ∙ child_told bound from (Some child) e f

  pub child_other : (bound : Step) (from : List StatementView) (child : Node) → from ≡ from_of node.path bound node.below → child ∷ [] ≡ first_child node.path from
      → same_step bound (last_of child.path) ≡ false → [] ≡ exact bound (children_of node)
  child_other bound from child e f is = sym (ap (λ (b : Bool). cond b (child ∷ []) []) is) ∙ child_told bound from (Some child) e f
