-- A walk over the children of a path, which goes past what stands below each.
use Rattle.std.proofs.Common.{◌⊎◌, inl, inr, ◌==◌, eqb-true, eq-eqb, ◌≡◌, ℕ, suc, zero, ◌<◌, ◌≤◌, ◌+◌, Bool, true, false, cond, not, ◌&&◌, ◌||◌, List, [], ◌∷◌, ◌++◌, length, take, filter, map as each, refl, sym, ap, subst, ◌∙◌, Less, is_le, arith, append_assoc, append-nil}
use Rattle.std.specs.List.{AllByRecursion}
use Rattle.std.specs.List.Sorted.{IsStrictlySortedBy}
use Rattle.std.specs.Map.{keys_of}
use Rattle.std.proofs.lemmas.List.Elements.{filter-append}
use Rattle.std.proofs.lemmas.Map.Keys.{sorted_head}
use Rattle.cfg_base.specs.Order.{path_cmp}
use Rattle.cfg_base.specs.declared.path.Step.{Step}
use Rattle.cfg_base.specs.declared.value.Value.{Value}
use Rattle.cfg_entries.specs.EntryMap.{Pair, EntryMap, IsOrdered, from_key, past}
use Rattle.cfg_entries.specs.Places.{AreBehind}
use Rattle.cfg_entries.specs.Cuts.{in_front, behind}
use Rattle.cfg_entries.specs.declared.cut.Cut.TheVariants.{Before, Behind}
use Rattle.cfg_entries.proofs.OrderLemmas.{before_le, flipped, itself}
use Rattle.cfg_entries.proofs.CutLemmas.{front_of, split_at_cut, from_is, left_none, passes_before}
use Rattle.cfg_entries.proofs.RowLemmas.{all_join, Rises, rises, ascends, rises_back, rises_apart}
use Rattle.cfg_schema.proofs.TestLemmas.{both, both_true}
use Rattle.cfg_tree.specs.Statements.{is_below, last_of}
use Rattle.cfg_tree.specs.Shown.{shown}
use Rattle.cfg_tree.specs.Children.{is_child, steps_below, IsVisit}
use Rattle.cfg_tree.proofs.MapLemmas.{same_step, entries_is}
use Rattle.cfg_tree.proofs.BelowLemmas.{below_le, none_later}
use Rattle.cfg_tree.proofs.ChildrenLemmas.{filter-filter}

-- the steps of the children among entries
abbrev steps_in : List Step → List (Pair Value) → List Step
steps_in path es = each last_of (filter (is_child path) (keys_of es))

-- a walk among the entries has taken these steps, and all other children are among those that are left
pub record IsWalk (path : List Step) (all left : List (Pair Value)) (steps : List Step) : Type 0 where
  pub before : List (Pair Value)
  pub split : all ≡ before ++ left
  pub from_here : AllByRecursion (λ e. is_le (path_cmp path e.0) ≡ true) left
  pub told : steps ++ steps_in path left ≡ steps_in path all

children_in : List Step → List (Pair Value) → List (List Step)
children_in path es = filter (is_child path) (keys_of es)

below_take : (n : ℕ) (p : List Step) → is_below (take n p) p ≡ true
below_take zero p = refl
below_take (suc n) [] = refl
below_take (suc n) (s ∷ p) = both_true _ _ ((same_step s s).1 refl) (below_take n p)

below_same : (p q : List Step) → is_below p q ≡ true → length p ≡ length q → p ≡ q
below_same [] [] h l = refl
below_same [] (t ∷ q) h l = absurd (omega (arith, l))
below_same (s ∷ p) [] h l = cc
below_same (s ∷ p) (t ∷ q) h l =
    let parts = both _ _ h
    in ap (λ (u : Step). u ∷ p) ((same_step s t).0 parts.0) ∙ ap (λ (us : List Step). t ∷ us) (below_same p q parts.1 (omega (arith, l)))

length_take : (n : ℕ) (p : List Step) → n ≤ length p → length (take n p) ≡ n
length_take zero p l = refl
length_take (suc n) [] l = absurd (omega (arith, l))
length_take (suc n) (s ∷ p) l = let go = length_take n p (omega (arith, l)) in omega (arith, go)

or_true : (a b : Bool) → b ≡ true → (a || b) ≡ true
or_true true b h = refl
or_true false b h = h

all_filter : {X : Type 0} (P : X → Type 0) (q : X → Bool) (xs : List X) → AllByRecursion P xs → AllByRecursion P (filter q xs)
all_filter P q [] h = tt
all_filter {X} P q (x ∷ xs) h = by_test (q x) (all_filter P q xs h.1)
  where
    by_test : (b : Bool) → AllByRecursion P (filter q xs) → AllByRecursion P (cond b (x ∷ filter q xs) (filter q xs))
    by_test true go = (h.0, go)
    by_test false go = go

less_filter : {X : Type 0} (q : X → Bool) (xs : List X) → length (filter q xs) ≤ length xs
less_filter q [] = omega arith
less_filter {X} q (x ∷ xs) = by_test (q x) (less_filter q xs)
  where
    by_test : (b : Bool) → length (filter q xs) ≤ length xs → length (cond b (x ∷ filter q xs) (filter q xs)) ≤ suc (length xs)
    by_test true go = omega (arith, go)
    by_test false go = omega (arith, go)

and_false : (a b : Bool) → b ≡ false → (a && b) ≡ false
and_false true b h = h
and_false false b h = refl

not_child : (path k : List Step) → (length k ≡ length path + 1 → ⊥) → is_child path k ≡ false
not_child path k other = by_size _ refl
  where
    by_size : (b : Bool) → (length k == length path + 1) ≡ b → is_child path k ≡ false
    by_size true h = absurd (other (eqb-true _ _ h))
    by_size false h = and_false _ _ h

same_size : (n m : ℕ) → n ≡ m → (n == m) ≡ true
same_size = eq-eqb

sizes : (n m : ℕ) → (n ≡ m) ⊎ ((m < n) ⊎ (n < m))
sizes zero zero = inl refl
sizes zero (suc m) = inr (inr (omega arith))
sizes (suc n) zero = inr (inl (omega arith))
sizes (suc n) (suc m) = more (sizes n m)
  where
    more : (n ≡ m) ⊎ ((m < n) ⊎ (n < m)) → (suc n ≡ suc m) ⊎ ((suc m < suc n) ⊎ (suc n < suc m))
    more (inl e) = inl (ap suc e)
    more (inr (inl l)) = inr (inl (omega (arith, l)))
    more (inr (inr l)) = inr (inr (omega (arith, l)))

module _ (path : List Step) where
  child_le : (k : List Step) → is_child path k ≡ true → is_le (path_cmp path k) ≡ true
  child_le k h = below_le path k (both _ _ h).0

  all_from : (es : List (Pair Value)) → AllByRecursion (λ e. is_le (path_cmp path e.0) ≡ true) (from_key path_cmp path es)
  all_from [] = tt
  all_from (e ∷ es) = by_place (is_le (path_cmp path e.0)) refl (all_from es)
    where
      by_place : (b : Bool) → is_le (path_cmp path e.0) ≡ b → AllByRecursion (λ x. is_le (path_cmp path x.0) ≡ true) (from_key path_cmp path es)
          → AllByRecursion (λ x. is_le (path_cmp path x.0) ≡ true) (cond b (e ∷ from_key path_cmp path es) (from_key path_cmp path es))
      by_place true h go = (h, go)
      by_place false h go = go

  -- no child is lost where entries that aren't children are left out
  kept_children : (q : List Step → Bool) (es : List (Pair Value)) → AllByRecursion (λ e. is_child path e.0 ≡ true → q e.0 ≡ true) es
      → children_in path (filter (λ e. q e.0) es) ≡ children_in path es
  unfolding children_in
  kept_children q [] h = refl
  kept_children q (e ∷ es) h = by_tests (q e.0) (is_child path e.0) refl refl (kept_children q es h.1)
    where
      left : List (Pair Value)
      left = filter (λ x. q x.0) es

      by_tests : (b c : Bool) → q e.0 ≡ b → is_child path e.0 ≡ c → children_in path left ≡ children_in path es
          → filter (is_child path) (keys_of (cond b (e ∷ left) left)) ≡ cond c (e.0 ∷ children_in path es) (children_in path es)
      by_tests true c k l go =
          ap (λ (d : Bool). cond d (e.0 ∷ filter (is_child path) (keys_of left)) (filter (is_child path) (keys_of left))) l
          ∙ ap (λ (ks : List (List Step)). cond c (e.0 ∷ ks) ks) go
      by_tests false true k l go = let stays = h.0 l in cc
      by_tests false false k l go = go

  any : (P : Pair Value → Type 0) → ((e : Pair Value) → P e) → (es : List (Pair Value)) → AllByRecursion P es
  any P f [] = tt
  any P f (e ∷ es) = (f e, any P f es)

  pub walk_start : (es left : List (Pair Value)) → IsStrictlySortedBy path_cmp (keys_of es) → left ≡ from_key path_cmp path es → IsWalk path es left []
  unfolding children_in
  walk_start es left sorted e = record {
    before = filter (λ x. in_front Before path x.0) es;
    split = split_at_cut (in_front Before path) (front_of Before path) es (rises es sorted)
        ∙ ap (λ (xs : List (Pair Value)). filter (λ x. in_front Before path x.0) es ++ xs) (from_is path es ∙ sym e);
    from_here = subst (λ (xs : List (Pair Value)). AllByRecursion (λ x. is_le (path_cmp path x.0) ≡ true) xs) (sym e) (all_from es);
    told = ap (λ (xs : List (Pair Value)). each last_of (filter (is_child path) (keys_of xs))) e
        ∙ ap (λ (ks : List (List Step)). each last_of ks)
        (kept_children (λ k. is_le (path_cmp path k)) es (any (λ x. is_child path x.0 ≡ true → is_le (path_cmp path x.0) ≡ true) (λ x. child_le x.0) es));
  }

  pub walk_none : (es left : List (Pair Value)) (steps : List Step) → left ≡ [] → IsWalk path es left steps → steps ≡ steps_in path es
  walk_none es left steps none way =
      sym (append-nil steps) ∙ ap (λ (xs : List (Pair Value)). steps ++ steps_in path xs) (sym none) ∙ way.told

  module _ (es left new : List (Pair Value)) (e : Pair Value) (steps : List Step) (sorted : IsStrictlySortedBy path_cmp (keys_of es))
      (way : IsWalk path es left steps) (next : left ≡ e ∷ new) where
    this : IsWalk path es (e ∷ new) steps
    this = subst (λ (xs : List (Pair Value)). IsWalk path es xs steps) next way

    split_next : es ≡ (this.before ++ e ∷ []) ++ new
    split_next = this.split ∙ sym (append_assoc this.before (e ∷ []) new)

    parts_rise : Rises (this.before ++ e ∷ new)
    parts_rise = subst (λ (xs : List (Pair Value)). Rises xs) this.split (rises es sorted)

    behind_e : AreBehind e.0 new
    behind_e = (rises_back this.before (e ∷ new) parts_rise).0

    walk_child : (taken : List Step) → is_child path e.0 ≡ true → taken ≡ steps ++ last_of e.0 ∷ [] → IsWalk path es new taken
    walk_child taken child t = record {
      before = this.before ++ e ∷ [];
      split = split_next;
      from_here = this.from_here.1;
      told = ap (λ (xs : List Step). xs ++ steps_in path new) t
          ∙ append_assoc steps (last_of e.0 ∷ []) (steps_in path new)
          ∙ ap (λ (b : Bool). steps ++ each last_of (cond b (e.0 ∷ filter (is_child path) (keys_of new)) (filter (is_child path) (keys_of new)))) (sym child)
          ∙ this.told;
    }

    other_told : is_child path e.0 ≡ false → steps ++ steps_in path new ≡ steps_in path es
    other_told other =
        ap (λ (b : Bool). steps ++ each last_of (cond b (e.0 ∷ filter (is_child path) (keys_of new)) (filter (is_child path) (keys_of new)))) (sym other)
        ∙ this.told

    walk_other : is_child path e.0 ≡ false → IsWalk path es new steps
    walk_other other = record {
      before = this.before ++ e ∷ [];
      split = split_next;
      from_here = this.from_here.1;
      told = other_told other;
    }

    module _ (count : ℕ) (is_count : count ≡ length path + 1) (long : count < length e.0) where
      abbrev child : List Step
      child = take count e.0

      e_below : is_below child e.0 ≡ true
      e_below = below_take count e.0

      -- nothing after the path is the child itself or before it
      not_upto : (x : List Step) → path_cmp e.0 x ≡ Less → is_le (path_cmp x child) ≡ true → ⊥
      not_upto x less le =
          let first = ap is_le (flipped e.0 child (before_le e.0 x child less le))
          in let second = below_le child e.0 e_below
          in cc

      child_not_upto : (x : List Step) → path_cmp e.0 x ≡ Less → child ≡ x → ⊥
      child_not_upto x less is =
          not_upto x less (subst (λ (y : List Step). is_le (path_cmp y child) ≡ true) is (ap is_le (itself child)))

      by_reach : (x : List Step) (a b : Bool) → is_le (path_cmp x child) ≡ a → is_below child x ≡ b → path_cmp e.0 x ≡ Less
          → length x ≡ count → not (a || b) ≡ true
      by_reach x true b k l less n = absurd (not_upto x less k)
      by_reach x false true k l less n =
          absurd (child_not_upto x less (below_same child x l (length_take count e.0 (omega (arith, long)) ∙ sym n)))
      by_reach x false false k l less n = refl

      kept : (xs : List (Pair Value)) → AreBehind e.0 xs
          → AllByRecursion (λ x. is_child path x.0 ≡ true → not (in_front Behind child x.0) ≡ true) xs
      kept [] h = tt
      kept (x ∷ xs) h =
          ((λ c. by_reach x.0 _ _ refl refl h.0 (eqb-true _ _ (both _ _ c).1 ∙ sym is_count)), kept xs h.1)

      cut_all : behind (in_front Behind child) es ≡ behind (in_front Behind child) new
      cut_all =
          ap (λ (xs : List (Pair Value)). behind (in_front Behind child) xs) split_next
          ∙ filter-append _ (this.before ++ e ∷ []) new
          ∙ ap (λ (xs : List (Pair Value)). xs ++ behind (in_front Behind child) new)
          (left_none (in_front Behind child) (front_of Behind child) (this.before ++ e ∷ [])
          (all_join _ this.before (e ∷ []) (passes_before (in_front Behind child) (front_of Behind child) e.0 this.before in_e (rises_apart this.before e new parts_rise)) (in_e, tt)))
        where
          in_e : in_front Behind child e.0 ≡ true
          in_e = or_true _ _ e_below

      no_child : is_child path e.0 ≡ false
      no_child = not_child path e.0 (λ n. omega (arith, n, is_count, long))

      walk_past : (rest : List (Pair Value)) → rest ≡ past child es → IsWalk path es rest steps × (length rest ≤ length new)
      unfolding children_in
      walk_past rest r =
          let cut = r ∙ cut_all
          in (
            record {
              before = filter (λ x. in_front Behind child x.0) es;
              split = split_at_cut (in_front Behind child) (front_of Behind child) es (rises es sorted)
                  ∙ ap (λ (xs : List (Pair Value)). filter (λ x. in_front Behind child x.0) es ++ xs) (sym r);
              from_here = subst (λ (xs : List (Pair Value)). AllByRecursion (λ x. is_le (path_cmp path x.0) ≡ true) xs) (sym cut)
                  (all_filter _ (λ x. not (in_front Behind child x.0)) new this.from_here.1);
              told = ap (λ (xs : List (Pair Value)). steps ++ each last_of (filter (is_child path) (keys_of xs))) cut
                  ∙ ap (λ (ks : List (List Step)). steps ++ each last_of ks) (kept_children (λ k. not (in_front Behind child k)) new (kept new behind_e))
                  ∙ other_told no_child;
            },
            subst (λ (xs : List (Pair Value)). length xs ≤ length new) (sym cut) (less_filter (λ x. not (in_front Behind child x.0)) new),
          )

    -- where the next path isn't below, no child is left
    pub walk_end : is_below path e.0 ≡ false → steps ≡ steps_in path es
    walk_end apart = sym (append-nil steps) ∙ ap (λ (ks : List (List Step)). steps ++ each last_of ks) (sym none) ∙ this.told
      where
        none : filter (is_child path) (keys_of (e ∷ new)) ≡ []
        none =
            sym (filter-filter (is_below path) (λ (k : List Step). length k == length path + 1) (keys_of (e ∷ new)))
            ∙ ap (λ (ks : List (List Step)). filter (λ (k : List Step). length k == length path + 1) ks)
            (ap (λ (b : Bool). cond b (e.0 ∷ filter (is_below path) (keys_of new)) (filter (is_below path) (keys_of new))) apart
            ∙ none_later path e.0 (keys_of new) this.from_here.0 apart
            (sorted_head path_cmp e.0 (keys_of new) (ascends (e ∷ new) (rises_back this.before (e ∷ new) parts_rise))))

    -- a visit goes on with the walk, and no more is left
    pub walk_on : (count : ℕ) (rest : List (Pair Value)) (taken : List Step) → count ≡ length path + 1 → is_below path e.0 ≡ true
        → IsVisit count e.0 es new rest steps taken → IsWalk path es rest taken × (length rest ≤ length new)
    walk_on count rest taken is_count below visit = by_size (sizes (length e.0) count)
      where
        same_rest : (ss : List Step) → rest ≡ new → taken ≡ ss → IsWalk path es new ss → IsWalk path es rest taken × (length rest ≤ length new)
        same_rest ss r t w = (
          subst (λ (xs : List (Pair Value)). IsWalk path es xs taken) (sym r) (subst (λ (ts : List Step). IsWalk path es new ts) (sym t) w),
          subst (λ (xs : List (Pair Value)). length xs ≤ length new) (sym r) (omega arith),
        )

        by_size : (length e.0 ≡ count) ⊎ ((count < length e.0) ⊎ (length e.0 < count)) → IsWalk path es rest taken × (length rest ≤ length new)
        by_size (inl n) =
            let done = visit.child n
            in same_rest taken done.1 refl (walk_child taken (both_true _ _ below (same_size _ _ (n ∙ is_count))) done.0)
        by_size (inr (inl long)) =
            let done = visit.longer long
            in let walk = walk_past count is_count long rest done.1
            in (subst (λ (ts : List Step). IsWalk path es rest ts) (sym done.0) walk.0, walk.1)
        by_size (inr (inr short)) =
            let done = visit.shorter short
            in same_rest steps done.1 done.0 (walk_other (not_child path e.0 (λ n. omega (arith, n, is_count, short))))

pub walk_less : (left new rest : List (Pair Value)) (e : Pair Value) → left ≡ e ∷ new → length rest ≤ length new → length rest < length left
walk_less left new rest e next l = let n = ap (λ (xs : List (Pair Value)). length xs) next in omega (arith, n, l)

-- all children are taken
pub walked : (m : EntryMap (List Step) Value) (path steps : List Step) → IsOrdered path_cmp m → steps ≡ steps_in path m.entries → steps ≡ steps_below (shown m) path
walked m path steps sorted e =
    e ∙ ap (λ (es : List (Pair Value)). each last_of (filter (is_child path) (keys_of es))) (sym (entries_is m.entries sorted))
