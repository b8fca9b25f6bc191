-- What stands below a path, cut at a step right below it: what is before, and the rest.
use Rattle.std.proofs.Common.{◌≡◌, ℕ, suc, zero, ◌+◌, ◌<◌, ◌≤◌, Bool, true, false, not, cond, List, [], ◌∷◌, ◌++◌, take, drop, length, get_or, filter, map, refl, sym, ap, ◌∙◌, arith, Option, Some, Less, Equal, Greater, Ordering, is_lt, take-append-drop}
use Rattle.std.specs.Prelude.{slice_get}
use Rattle.std.specs.Ordering.{is_eq, ordering_then}
use Rattle.std.specs.List.{AllByRecursion}
use Rattle.std.specs.List.Sorted.{IsPartitionedBy, IsPartitionPoint}
use Rattle.std.proofs.lemmas.List.Elements.{filter-append}
use Rattle.cfg_base.specs.Order.{path_cmp, step_cmp, steps_total, is_below}
use Rattle.cfg_base.specs.declared.path.Step.{Step}
use Rattle.cfg_entries.proofs.PlaceLemmas.{within_take, within_drop}
use Rattle.cfg_tree.specs.Statements.{last_of}
use Rattle.cfg_tree.specs.Children.{is_inside, is_child}
use Rattle.cfg_tree.proofs.MapLemmas.{same_step, is_equal}
use Rattle.group_expand.specs.Row.{StatementView, is_under, Counted, AreBehind, Ordered}
use Rattle.group_expand.specs.Node.{Node, AreInside, node_of, is_live_child, live_children}
use Rattle.group_expand.specs.Cut.{is_earlier, is_before}
use Rattle.group_expand.proofs.ClosedLemmas.{both}
use Rattle.group_expand.proofs.NodeLemmas.{inside_longer, all_kept, append_nothing}
use Rattle.group_expand.proofs.PlacedLemmas.{child_split, child_inside, filter_within, all_pass}

is_less : (o : Ordering) → is_lt o ≡ true → o ≡ Less
is_less Less h = refl
is_less Equal h = cc
is_less Greater h = cc

-- what is below a path has its steps
pub step_kept : (p q : List Step) (n : ℕ) → is_below p q ≡ true → n < length p → slice_get q n ≡ slice_get p n
step_kept [] q n h l = absurd (omega (arith, l))
step_kept (s ∷ p) [] n h l = cc
step_kept (s ∷ p) (t ∷ q) zero h l = ap Some (sym ((same_step s t).0 (both _ _ h).0))
step_kept (s ∷ p) (t ∷ q) (suc n) h l = step_kept p q n (both _ _ h).1 (omega (arith, l))

step_last : (q : List Step) (s : Step) → slice_get (q ++ s ∷ []) (length q) ≡ Some s
step_last [] s = refl
step_last (t ∷ q) s = step_last q s

pub child_step : (q p : List Step) → is_child q p ≡ true → slice_get p (length q) ≡ Some (last_of p)
child_step q p h = ap (λ (r : List Step). slice_get r (length q)) (child_split q p h) ∙ step_last q (last_of p)

-- of two paths below one, the earlier has no later step right below it
pub steps_rise : (above p q : List Step) → is_below above p ≡ true → is_below above q ≡ true → length above < length p → path_cmp p q ≡ Less
    → (bound : Step) → is_earlier bound (slice_get q (length above)) ≡ true → is_earlier bound (slice_get p (length above)) ≡ true
steps_rise [] [] q h k l less bound e = absurd (omega (arith, l))
steps_rise [] (s ∷ p) [] h k l less bound e = cc
steps_rise [] (s ∷ p) (t ∷ q) h k l less bound e = by_order (step_cmp s t) refl less
  where
    by_order : (o : Ordering) → step_cmp s t ≡ o → ordering_then o (path_cmp p q) ≡ Less → is_lt (step_cmp s bound) ≡ true
    by_order Less f g = ap is_lt (steps_total.trans s t bound f (is_less _ e))
    by_order Equal f g = ap (λ (u : Step). is_lt (step_cmp u bound)) ((same_step s t).0 (ap is_eq f)) ∙ e
    by_order Greater f g = cc
steps_rise (u ∷ above) [] q h k l less bound e = cc
steps_rise (u ∷ above) (s ∷ p) [] h k l less bound e = cc
steps_rise (u ∷ above) (s ∷ p) (t ∷ q) h k l less bound e =
    let a = both _ _ h in let b = both _ _ k
    in let st : s ≡ t = sym ((same_step u s).0 a.0) ∙ (same_step u t).0 b.0
    in let same : step_cmp s t ≡ Equal = is_equal _ ((same_step s t).1 st)
    in steps_rise above p q a.1 b.1 (omega (arith, l)) (sym (ap (λ (o : Ordering). ordering_then o (path_cmp p q)) same) ∙ less) bound e

read_inside : (above : List Step) (xs : List StatementView) (j : ℕ) (d : StatementView) → AreInside above xs → j < length xs → is_inside above (get_or xs j d).path ≡ true
read_inside above [] j d h l = absurd (omega (arith, l))
read_inside above (x ∷ xs) zero d h l = h.0
read_inside above (x ∷ xs) (suc j) d h l = read_inside above xs j d h.1 (omega (arith, l))

read_behind : (p : List Step) (xs : List StatementView) (j : ℕ) (d : StatementView) → AreBehind p xs → j < length xs → path_cmp p (get_or xs j d).path ≡ Less
read_behind p [] j d h l = absurd (omega (arith, l))
read_behind p (x ∷ xs) zero d h l = h.0
read_behind p (x ∷ xs) (suc j) d h l = read_behind p xs j d h.1 (omega (arith, l))

no_pass : {X : Type 0} (t : X → Bool) (xs : List X) → AllByRecursion (λ x. t x ≡ false) xs → filter t xs ≡ []
no_pass t [] h = refl
no_pass {X} t (x ∷ xs) h = ap (λ (b : Bool). cond b (x ∷ filter t xs) (filter t xs)) h.0 ∙ no_pass t xs h.1

all_turned : {X : Type 0} (t : X → Bool) (b : Bool) (xs : List X) → AllByRecursion (λ x. t x ≡ b) xs → AllByRecursion (λ x. not (t x) ≡ not b) xs
all_turned t b [] h = tt
all_turned t b (x ∷ xs) h = (ap not h.0, all_turned t b xs h.1)

-- a list that a test parts at a place
pub parted : {X : Type 0} (t : X → Bool) (xs : List X) (n : ℕ) → n ≤ length xs → IsPartitionPoint (λ x. t x ≡ true) (λ x. t x ≡ false) xs n
    → (take n xs ≡ filter t xs) × (drop n xs ≡ filter (λ x. not (t x)) xs)
parted {X} t xs n l h =
    let front : AllByRecursion (λ x. t x ≡ true) (take n xs) = within_take _ xs n l h.0
    in let back : AllByRecursion (λ x. t x ≡ false) (drop n xs) = within_drop _ xs n h.1
    in (
      sym (ap (filter t) (sym (take-append-drop n xs)) ∙ filter-append t (take n xs) (drop n xs)
          ∙ ap (λ (ys : List X). ys ++ filter t (drop n xs)) (all_pass t (take n xs) front)
          ∙ ap (λ (ys : List X). take n xs ++ ys) (no_pass t (drop n xs) back)
          ∙ append_nothing (take n xs)),
      sym (ap (filter (λ x. not (t x))) (sym (take-append-drop n xs)) ∙ filter-append (λ x. not (t x)) (take n xs) (drop n xs)
          ∙ ap (λ (ys : List X). ys ++ filter (λ x. not (t x)) (drop n xs)) (no_pass (λ x. not (t x)) (take n xs) (all_turned t true (take n xs) front))
          ∙ all_pass (λ x. not (t x)) (drop n xs) (all_turned t false (drop n xs) back)),
    )

module _ (above : List Step) (bound : Step) where
  earlier_too : (x y : StatementView) → is_inside above x.path ≡ true → is_inside above y.path ≡ true → path_cmp x.path y.path ≡ Less
      → is_before above bound y ≡ true → is_before above bound x ≡ true
  earlier_too x y h k less e = steps_rise above x.path y.path (both _ _ h).0 (both _ _ k).0 (inside_longer above x.path h) less bound e

  -- the statements before a step stand before the others
  pub is_parted : (xs : List StatementView) → Ordered xs → AreInside above xs → IsPartitionedBy (is_before above bound) xs
  is_parted [] o h i j d le l e = absurd (omega (arith, l))
  is_parted (x ∷ xs) o h zero zero d le l e = e
  is_parted (x ∷ xs) o h zero (suc j) d le l e =
      earlier_too x (get_or xs j d) h.0 (read_inside above xs j d h.1 (omega (arith, l))) (read_behind x.path xs j d o.0 (omega (arith, l))) e
  is_parted (x ∷ xs) o h (suc i) zero d le l e = absurd (omega (arith, le))
  is_parted (x ∷ xs) o h (suc i) (suc j) d le l e = is_parted xs o.1 h.1 i j d (omega (arith, le)) (omega (arith, l)) e

-- those below a path whose step right below it passes a test
module _ (above : List Step) (test : Option Step → Bool) where
  abbrev passes : StatementView → Bool
  passes x = test (slice_get x.path (length above))

  under_too : (x y : StatementView) → is_inside above x.path ≡ true → passes x ≡ true → is_under x.path y ≡ true → passes y ≡ true
  under_too x y h e u = ap test (step_kept x.path y.path (length above) u (inside_longer above x.path h)) ∙ e

  pub counted_kept : (xs : List StatementView) → AreInside above xs → Counted xs → Counted (filter passes xs)
  counted_kept [] h c = tt
  counted_kept (x ∷ xs) h c = by_test (passes x) refl (counted_kept xs h.1 c.1)
    where
      by_test : (b : Bool) → passes x ≡ b → Counted (filter passes xs) → Counted (cond b (x ∷ filter passes xs) (filter passes xs))
      by_test true e k =
          (c.0 ∙ ap (λ (ys : List StatementView). length ys + 1) (sym (filter_within (is_under x.path) passes xs (λ y u. under_too x y h.0 e u))), k)
      by_test false e k = k

  pub inside_kept : (xs : List StatementView) → AreInside above xs → AreInside above (filter passes xs)
  inside_kept xs h = all_kept (λ y. is_inside above y.path ≡ true) passes xs h

  module _ (below : List StatementView) where
    child_alike : (x : StatementView) → is_child above x.path ≡ true → passes x ≡ true → node_of (filter passes below) x ≡ node_of below x
    child_alike x child e =
        ap (λ (ys : List StatementView). record { path = x.path; value = x.value; below = ys })
        (filter_within (λ y. is_inside x.path y.path) passes below (λ y h. under_too x y (child_inside above x.path child) e (both _ _ h).0))

    abbrev tested : List Node → List Node
    tested nodes = filter (λ n. test (Some (last_of n.path))) nodes

    abbrev of_part : List StatementView → List Node
    of_part ys = map (node_of (filter passes below)) (filter (is_live_child above) (filter passes ys))

    abbrev of_all : List StatementView → List Node
    of_all ys = tested (map (node_of below) (filter (is_live_child above) ys))

    each_child : (ys : List StatementView) → of_part ys ≡ of_all ys
    each_child [] = refl
    each_child (y ∷ ys) = by_tests (passes y) (is_live_child above y) refl refl (each_child ys)
      where
        here : is_live_child above y ≡ true → test (Some (last_of y.path)) ≡ passes y
        here live = ap test (sym (child_step above y.path (both _ _ live).0))

        by_tests : (a b : Bool) → passes y ≡ a → is_live_child above y ≡ b → of_part ys ≡ of_all ys
            → map (node_of (filter passes below)) (filter (is_live_child above) (cond a (y ∷ filter passes ys) (filter passes ys)))
            ≡ tested (map (node_of below) (cond b (y ∷ filter (is_live_child above) ys) (filter (is_live_child above) ys)))
        by_tests true true e f go =
            ap (λ (c : Bool). map (node_of (filter passes below)) (cond c (y ∷ filter (is_live_child above) (filter passes ys)) (filter (is_live_child above) (filter passes ys)))) f
            ∙ ap (λ (n : Node). n ∷ of_part ys) (child_alike y (both _ _ f).0 e)
            ∙ ap (λ (ns : List Node). node_of below y ∷ ns) go
            ∙ sym (ap (λ (c : Bool). cond c (node_of below y ∷ of_all ys) (of_all ys)) (here f ∙ e))
        by_tests true false e f go =
            ap (λ (c : Bool). map (node_of (filter passes below)) (cond c (y ∷ filter (is_live_child above) (filter passes ys)) (filter (is_live_child above) (filter passes ys)))) f ∙ go
        by_tests false true e f go = go ∙ sym (ap (λ (c : Bool). cond c (node_of below y ∷ of_all ys) (of_all ys)) (here f ∙ e))
        by_tests false false e f go = go

    -- the live statements right below a path, of such a part
    pub part_children : live_children above (filter passes below) ≡ filter (λ n. test (Some (last_of n.path))) (live_children above below)
    part_children = each_child below
