-- The statements right below a path, met one after the other with a hop over what stands below each.
use Rattle.std.proofs.Common.{◌≡◌, ◌⊎◌, inl, inr, ℕ, nat_lt, ◌+◌, ◌<◌, ◌≤◌, Bool, true, false, not, cond, List, [], ◌∷◌, ◌++◌, length, filter, map, get_or, refl, sym, ap, subst, ◌∙◌, arith, append_assoc}
use Rattle.std.specs.Prelude.{◌&&◌, ◌==◌}
use Rattle.std.specs.List.{AllByRecursion}
use Rattle.std.specs.Ordering.{is_le, ordering_reverse}
use Rattle.std.specs.declared.cmp.Ordering.TheVariants.{Less, Equal, Greater}
use Rattle.std.specs.declared.cmp.Ordering.{Ordering}
use Rattle.std.proofs.lemmas.Bool.{eqb-true}
use Rattle.std.proofs.lemmas.Bool.Decides.{nat_tests}
use Rattle.cfg_base.specs.Order.{path_cmp, is_below, paths_total}
use Rattle.cfg_base.specs.declared.path.Step.{Step}
use Rattle.cfg_tree.specs.Children.{is_inside, is_child}
use Rattle.cfg_tree.proofs.MapLemmas.{same_step}
use Rattle.cfg_tree.proofs.BelowLemmas.{below_le, below_self}
use Rattle.group_expand.specs.Row.{StatementView, is_under, Counted, AreBehind, Ordered, path_in, below_of, beside_of}
use Rattle.group_expand.specs.Node.{Node, inside_of, AreInside, node_of, is_live_child, begins_live, FirstNode, first_child, live_children, IsPart}
use Rattle.group_expand.proofs.ClosedLemmas.{both}
use Rattle.group_expand.proofs.RowLemmas.{below_trans, beside_kept}

pub append_nothing : {X : Type 0} (xs : List X) → xs ++ [] ≡ xs
append_nothing [] = refl
append_nothing (x ∷ xs) = ap (λ (ys : List _). x ∷ ys) (append_nothing xs)

below_long : (p q : List Step) → is_below p q ≡ true → length p ≤ length q
below_long [] q h = omega arith
below_long (s ∷ p) [] h = cc
below_long (s ∷ p) (t ∷ q) h = let k = below_long p q (both _ _ h).1 in omega (arith, k)

-- two paths above one: one of them is above the other
pub comparable : (p q r : List Step) → is_below p r ≡ true → is_below q r ≡ true → (is_below p q ≡ true) ⊎ (is_below q p ≡ true)
comparable [] q r h k = inl refl
comparable (s ∷ p) [] r h k = inr refl
comparable (s ∷ p) (t ∷ q) [] h k = cc
comparable (s ∷ p) (t ∷ q) (u ∷ r) h k =
    let a = both _ _ h in let b = both _ _ k
    in let e : s ≡ t = (same_step s u).0 a.0 ∙ sym ((same_step t u).0 b.0)
    in elim (comparable p q r a.1 b.1) [
      | inl m ↦ inl (ap (λ (c : Bool). c && is_below p q) ((same_step s t).1 e) ∙ m)
      | inr m ↦ inr (ap (λ (c : Bool). c && is_below q p) ((same_step t s).1 (sym e)) ∙ m)
    ]

pub less_apart : (p q : List Step) → path_cmp p q ≡ Less → is_below q p ≡ true → ⊥
less_apart p q less below = clash (path_cmp q p) (below_le q p below) (paths_total.antisymm q p ∙ ap ordering_reverse less)
  where
    clash : (o : Ordering) → is_le o ≡ true → o ≡ Greater → ⊥
    clash Less h e = cc
    clash Equal h e = cc
    clash Greater h e = cc

pub below_same : (p q : List Step) → is_below p q ≡ true → length q ≤ length p → p ≡ q
below_same [] [] h l = refl
below_same [] (t ∷ q) h l = absurd (omega (arith, l))
below_same (s ∷ p) [] h l = cc
below_same (s ∷ p) (t ∷ q) h l =
    let k = both _ _ h in let e : s ≡ t = (same_step s t).0 k.0 in let f : p ≡ q = below_same p q k.1 (omega (arith, l)) in λ i. e i ∷ f i

-- the test of two numbers
pub lt_is : (a b : ℕ) → a < b → nat_lt a b ≡ true
lt_is a b h = grind (arith, nat_tests)

lt_not : (a b : ℕ) → b ≤ a → nat_lt a b ≡ false
lt_not a b h = grind (arith, nat_tests)

lt_told : (a b : ℕ) → nat_lt a b ≡ true → a < b
lt_told a b h = grind (arith, nat_tests)

pub inside_longer : (p q : List Step) → is_inside p q ≡ true → length p < length q
inside_longer p q h = lt_told _ _ (both _ _ h).1

pub under_longer : (p q : List Step) → path_cmp p q ≡ Less → is_below p q ≡ true → length p < length q
under_longer p q less h = by_order (nat_lt (length p) (length q)) refl
  where
    by_order : (b : Bool) → nat_lt (length p) (length q) ≡ b → length p < length q
    by_order true e = grind arith
    by_order false e =
        let same : p ≡ q = below_same p q h (grind arith)
        in absurd (less_apart p q less (subst (λ (r : List Step). is_below r p ≡ true) same (below_self p)))

-- after a path, what is below it is inside it
pub inside_behind : (p : List Step) (xs : List StatementView) → AreBehind p xs → inside_of p xs ≡ filter (is_under p) xs
inside_behind p [] h = refl
inside_behind p (x ∷ xs) h = by_test (is_below p x.path) refl (inside_behind p xs h.1)
  where
    by_test : (b : Bool) → is_below p x.path ≡ b → inside_of p xs ≡ filter (is_under p) xs
        → cond (b && nat_lt (length p) (length x.path)) (x ∷ inside_of p xs) (inside_of p xs) ≡ cond b (x ∷ filter (is_under p) xs) (filter (is_under p) xs)
    by_test true e go =
        ap (λ (c : Bool). cond c (x ∷ inside_of p xs) (inside_of p xs)) (lt_is _ _ (under_longer p x.path h.0 e))
        ∙ ap (λ (ys : List StatementView). x ∷ ys) go
    by_test false e go = go

too_long : (above path : List Step) → length above + 1 < length path → is_child above path ≡ false
too_long above path h = by_test (is_below above path) (length path == length above + 1) refl
  where
    by_test : (a b : Bool) → (length path == length above + 1) ≡ b → (a && b) ≡ false
    by_test true true e = let m = eqb-true _ _ e in absurd (omega (arith, h, m))
    by_test true false e = refl
    by_test false b e = refl

not_inside_itself : (p q : List Step) → is_below q p ≡ true → is_inside p q ≡ false
not_inside_itself p q e = ap (λ (b : Bool). is_below p q && b) (lt_not _ _ (below_long q p e)) ∙ never (is_below p q)
  where
    never : (a : Bool) → (a && false) ≡ false
    never true = refl
    never false = refl

-- what doesn't pass two tests is left by either
pub filter_left : {X : Type 0} (t u : X → Bool) (xs : List X) → AllByRecursion (λ x. u x ≡ true → t x ≡ false) xs → filter t xs ≡ filter t (filter (λ x. not (u x)) xs)
filter_left t u [] h = refl
filter_left {X} t u (x ∷ xs) h = by_test (u x) refl (filter_left t u xs h.1)
  where
    by_test : (b : Bool) → u x ≡ b → filter t xs ≡ filter t (filter (λ y. not (u y)) xs)
        → cond (t x) (x ∷ filter t xs) (filter t xs) ≡ filter t (cond (not b) (x ∷ filter (λ y. not (u y)) xs) (filter (λ y. not (u y)) xs))
    by_test true e go = ap (λ (b : Bool). cond b (x ∷ filter t xs) (filter t xs)) (h.0 e) ∙ go
    by_test false e go = ap (λ (ys : List X). cond (t x) (x ∷ ys) ys) go

all_of : {X : Type 0} (P : X → Type 0) → ((x : X) → P x) → (xs : List X) → AllByRecursion P xs
all_of P go [] = tt
all_of P go (x ∷ xs) = (go x, all_of P go xs)

pub all_kept : {X : Type 0} (P : X → Type 0) (t : X → Bool) (xs : List X) → AllByRecursion P xs → AllByRecursion P (filter t xs)
all_kept P t [] h = tt
all_kept P t (x ∷ xs) h = by_test (t x) (all_kept P t xs h.1)
  where
    by_test : (b : Bool) → AllByRecursion P (filter t xs) → AllByRecursion P (cond b (x ∷ filter t xs) (filter t xs))
    by_test true k = (h.0, k)
    by_test false k = k

-- what is left has its parts whole
abbrev pub AreWhole : List StatementView → List StatementView → Type 0
AreWhole below left = AllByRecursion (λ y. inside_of y.path below ≡ inside_of y.path left) left

module _ (x : StatementView) (xs : List StatementView) (behind : AreBehind x.path xs) where
  -- a hop leaves the part of each statement that isn't hopped over
  hop_whole : (y : List Step) → path_cmp x.path y ≡ Less → is_below x.path y ≡ false → inside_of y (x ∷ xs) ≡ inside_of y (filter (λ z. not (is_under x.path z)) xs)
  hop_whole y less apart =
      ap (λ (b : Bool). cond b (x ∷ inside_of y xs) (inside_of y xs)) (outside (is_below y x.path) refl)
      ∙ filter_left (λ z. is_inside y z.path) (is_under x.path) xs (all_of _ (λ z e. neither z.path e (is_below y z.path) refl) xs)
    where
      outside : (b : Bool) → is_below y x.path ≡ b → (b && nat_lt (length y) (length x.path)) ≡ false
      outside true e = absurd (less_apart x.path y less e)
      outside false e = refl

      neither : (z : List Step) → is_below x.path z ≡ true → (b : Bool) → is_below y z ≡ b → (b && nat_lt (length y) (length z)) ≡ false
      neither z e true k = absurd (elim (comparable x.path y z e k) [ inl m ↦ (let c = sym m ∙ apart in cc) | inr m ↦ less_apart x.path y less m ])
      neither z e false k = refl

  -- none of what is hopped over is right below a path above the statement
  hop_children : (above : List Step) → is_inside above x.path ≡ true → filter (is_live_child above) xs ≡ filter (is_live_child above) (filter (λ z. not (is_under x.path z)) xs)
  hop_children above inside = filter_left (is_live_child above) (is_under x.path) xs (deeper xs behind)
    where
      deeper : (ys : List StatementView) → AreBehind x.path ys → AllByRecursion (λ y. is_under x.path y ≡ true → is_live_child above y ≡ false) ys
      deeper [] b = tt
      deeper (y ∷ ys) b = (
        (λ e. ap (λ (t : Bool). t && not y.value.inactive)
            (too_long above y.path (let k = inside_longer above x.path inside in let m = under_longer x.path y.path b.0 e in omega (arith, k, m)))),
        deeper ys b.1,
      )

  -- what the first statement brings
  pub first_more : (below : List StatementView) (above : List Step) (node : Node) → is_inside above x.path ≡ true → AreWhole below (x ∷ xs) → FirstNode (x ∷ xs) node → node_of below x ≡ node
  first_more below above node inside whole first =
      ap (λ (ys : List StatementView). record { path = x.path; value = x.value; below = ys })
      (whole.0 ∙ ap (λ (b : Bool). cond b (x ∷ inside_of x.path xs) (inside_of x.path xs)) (not_inside_itself x.path x.path (below_self x.path)) ∙ inside_behind x.path xs behind)
      ∙ sym first

-- how far the walk has come
pub record IsOnWay (above : List Step) (below left : List StatementView) (met : List Node) : Type 0 where
  pub met_all : met ++ map (node_of below) (filter (is_live_child above) left) ≡ live_children above below
  pub counted : Counted left
  pub ordered : Ordered left
  pub inside : AreInside above left
  pub whole : AreWhole below left

module _ (above : List Step) (below : List StatementView) where
  pub way_begins : Counted below → Ordered below → AreInside above below → IsOnWay above below below []
  way_begins c o i = record { met_all = refl; counted = c; ordered = o; inside = i; whole = all_of _ (λ y. refl) below }

  hop_all : (x : StatementView) (xs : List StatementView) → AreBehind x.path xs → AreWhole below (x ∷ xs) → AreWhole below (filter (λ z. not (is_under x.path z)) xs)
  hop_all x xs behind whole = each xs behind whole.1
    where
      each : (ys : List StatementView) → AreBehind x.path ys → AllByRecursion (λ y. inside_of y.path below ≡ inside_of y.path (x ∷ xs)) ys
          → AllByRecursion (λ y. inside_of y.path below ≡ inside_of y.path (filter (λ z. not (is_under x.path z)) xs)) (filter (λ z. not (is_under x.path z)) ys)
      each [] b h = tt
      each (y ∷ ys) b h = by_test (is_under x.path y) refl (each ys b.1 h.1)
        where
          by_test : (t : Bool) → is_under x.path y ≡ t
              → AllByRecursion (λ y. inside_of y.path below ≡ inside_of y.path (filter (λ z. not (is_under x.path z)) xs)) (filter (λ z. not (is_under x.path z)) ys)
              → AllByRecursion (λ y. inside_of y.path below ≡ inside_of y.path (filter (λ z. not (is_under x.path z)) xs)) (cond (not t) (y ∷ filter (λ z. not (is_under x.path z)) ys) (filter (λ z. not (is_under x.path z)) ys))
          by_test true e go = go
          by_test false e go = (h.0 ∙ hop_whole x xs behind y.path b.0 e, go)

  -- one statement more is met
  pub way_on : (left next : List StatementView) (met : List Node) (node : Node) → IsOnWay above below left met → 0 < length left → begins_live above left ≡ true → FirstNode left node
      → next ≡ beside_of left → IsOnWay above below next (met ++ node ∷ [])
  way_on [] next met node way some live first e = absurd first
  way_on (x ∷ xs) next met node way some live first e =
      subst (λ (ys : List StatementView). IsOnWay above below ys (met ++ node ∷ [])) (sym e)
      (let kept = beside_kept (x ∷ xs) some way.counted way.ordered in let o = way.ordered in let i = way.inside
      in record {
        met_all = append_assoc met (node ∷ []) _
            ∙ ap (λ (ns : List Node). met ++ ns)
            (sym (ap (λ (b : Bool). map (node_of below) (cond b (x ∷ filter (is_live_child above) xs) (filter (is_live_child above) xs))) live
            ∙ ap (λ (n : Node). n ∷ map (node_of below) (filter (is_live_child above) xs)) (first_more x xs o.0 below above node i.0 way.whole first)
            ∙ ap (λ (ys : List StatementView). node ∷ map (node_of below) ys) (hop_children x xs o.0 above i.0)))
            ∙ way.met_all;
        counted = kept.0;
        ordered = kept.1;
        inside = all_kept (λ y. is_inside above y.path ≡ true) (λ z. not (is_under x.path z)) xs i.1;
        whole = hop_all x xs o.0 way.whole;
      })

  -- one is passed over
  pub way_past : (left next : List StatementView) (met : List Node) → IsOnWay above below left met → 0 < length left → begins_live above left ≡ false
      → next ≡ beside_of left → IsOnWay above below next met
  way_past [] next met way some live e = absurd (omega (arith, some))
  way_past (x ∷ xs) next met way some live e =
      subst (λ (ys : List StatementView). IsOnWay above below ys met) (sym e)
      (let kept = beside_kept (x ∷ xs) some way.counted way.ordered in let o = way.ordered in let i = way.inside
      in record {
        met_all = ap (λ (ns : List Node). met ++ ns)
            (sym (ap (λ (b : Bool). map (node_of below) (cond b (x ∷ filter (is_live_child above) xs) (filter (is_live_child above) xs))) live
            ∙ ap (λ (ys : List StatementView). map (node_of below) ys) (hop_children x xs o.0 above i.0)))
            ∙ way.met_all;
        counted = kept.0;
        ordered = kept.1;
        inside = all_kept (λ y. is_inside above y.path ≡ true) (λ z. not (is_under x.path z)) xs i.1;
        whole = hop_all x xs o.0 way.whole;
      })

-- the part of a statement has its sizes too
counted_under : (p : List Step) (xs : List StatementView) → Counted xs → Counted (filter (is_under p) xs)
counted_under p [] h = tt
counted_under p (x ∷ xs) h = by_test (is_under p x) refl (counted_under p xs h.1)
  where
    kept : is_below p x.path ≡ true → (ys : List StatementView) → filter (is_under x.path) (filter (is_under p) ys) ≡ filter (is_under x.path) ys
    kept e [] = refl
    kept e (y ∷ ys) = by_tests (is_under p y) (is_under x.path y) refl refl (kept e ys)
      where
        by_tests : (a b : Bool) → is_under p y ≡ a → is_under x.path y ≡ b → filter (is_under x.path) (filter (is_under p) ys) ≡ filter (is_under x.path) ys
            → filter (is_under x.path) (cond a (y ∷ filter (is_under p) ys) (filter (is_under p) ys)) ≡ cond b (y ∷ filter (is_under x.path) ys) (filter (is_under x.path) ys)
        by_tests true b m k go = ap (λ (t : Bool). cond t (y ∷ filter (is_under x.path) (filter (is_under p) ys)) (filter (is_under x.path) (filter (is_under p) ys))) k ∙ ap (λ (zs : List StatementView). cond b (y ∷ zs) zs) go
        by_tests false true m k go = let c = sym m ∙ below_trans p x.path y.path e k in cc
        by_tests false false m k go = go

    by_test : (b : Bool) → is_under p x ≡ b → Counted (filter (is_under p) xs) → Counted (cond b (x ∷ filter (is_under p) xs) (filter (is_under p) xs))
    by_test true e go = (h.0 ∙ ap (λ (ys : List StatementView). length ys + 1) (sym (kept e xs)), go)
    by_test false e go = go

-- what is left of a row is in order
pub ordered_kept : (t : StatementView → Bool) (xs : List StatementView) → Ordered xs → Ordered (filter t xs)
ordered_kept t [] h = tt
ordered_kept t (x ∷ xs) h = by_test (t x) (ordered_kept t xs h.1)
  where
    by_test : (b : Bool) → Ordered (filter t xs) → Ordered (cond b (x ∷ filter t xs) (filter t xs))
    by_test true go = (all_kept (λ y. path_cmp x.path y.path ≡ Less) t xs h.0, go)
    by_test false go = go

inside_under : (p : List Step) (xs : List StatementView) → AreBehind p xs → AreInside p (filter (is_under p) xs)
inside_under p [] h = tt
inside_under p (x ∷ xs) h = by_test (is_under p x) refl (inside_under p xs h.1)
  where
    by_test : (b : Bool) → is_under p x ≡ b → AreInside p (filter (is_under p) xs) → AreInside p (cond b (x ∷ filter (is_under p) xs) (filter (is_under p) xs))
    by_test true e go = (
      ap (λ (b : Bool). b && nat_lt (length p) (length x.path)) e ∙ lt_is (length p) (length x.path) (under_longer p x.path h.0 e),
      go,
    )
    by_test false e go = go

pub part_of_first : (xs : List StatementView) → 0 < length xs → 0 < length (path_in xs) → Counted xs → Ordered xs → IsPart (path_in xs) (below_of xs)
part_of_first [] some long c o = absurd (omega (arith, some))
part_of_first (x ∷ xs) some long c o = record {
  long = long;
  counted = counted_under x.path xs c.1;
  ordered = ordered_kept (is_under x.path) xs o.1;
  inside = inside_under x.path xs o.0;
}

pub first_long : (above : List Step) (xs : List StatementView) → 0 < length xs → AreInside above xs → 0 < length (path_in xs)
first_long above [] some i = absurd (omega (arith, some))
first_long above (x ∷ xs) some i = let k = inside_longer above x.path i.0 in omega (arith, k)

pub first_path : (xs : List StatementView) (x : StatementView) → 0 < length xs → x ≡ get_or xs 0 x → x.path ≡ path_in xs
first_path [] x some e = absurd (omega (arith, some))
first_path (y ∷ xs) x some e = ap (λ (z : StatementView). z.path) e

-- the first statement as a node, where it is live and right below a path
pub first_is : (above : List Step) (xs : List StatementView) (node : Node) → Counted xs → Ordered xs → AreInside above xs → begins_live above xs ≡ true → FirstNode xs node
    → node ∷ [] ≡ first_child above xs
first_is above [] node c o i live first = absurd first
first_is above (x ∷ xs) node c o i live first =
    ap (λ (n : Node). n ∷ []) (sym (first_more x xs o.0 (x ∷ xs) above node i.0 (way_begins above (x ∷ xs) c o i).whole first))
    ∙ sym (ap (λ (b : Bool). cond b (node_of (x ∷ xs) x ∷ []) []) live)
