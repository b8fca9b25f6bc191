-- What stands below a statement stands together, right after it.
use Rattle.std.proofs.Common.{◌≡◌, ℕ, zero, suc, ◌+◌, ◌-◌, ◌<◌, ◌≤◌, Bool, true, false, not, cond, T, List, [], ◌∷◌, length, take, drop, set, filter, get_or, refl, sym, ap, subst, ◌∙◌, arith, length-drop}
use Rattle.std.specs.Prelude.{◌&&◌}
use Rattle.std.specs.FinMap as finite
use Rattle.std.specs.FinMap.Entries.{is_sorted, below_all}
use Rattle.std.specs.Ordering.{is_le, is_lt}
use Rattle.std.specs.declared.cmp.Ordering.{Ordering}
use Rattle.std.specs.declared.cmp.Ordering.TheVariants.{Less, Equal, Greater}
use Rattle.cfg_base.specs.Order.{path_cmp, step_cmp}
use Rattle.std.specs.Ordering.{eq_by_cmp}
use Rattle.cfg_tree.proofs.MapLemmas.{same_step}
use Rattle.group_expand.proofs.ClosedLemmas.{both}
use Rattle.cfg_base.specs.declared.path.Step.{Step}
use Rattle.cfg_entries.specs.EntryMap.{Pair}
use Rattle.cfg_tree.specs.Statements.{Statements, is_below}
use Rattle.cfg_tree.proofs.BelowLemmas.{below_between}
use Rattle.cfg_base.specs.declared.value.Value.{Value}
use Rattle.group_expand.specs.Row.{StatementView}
use Rattle.group_expand.specs.Row.{is_under, Counted, AreBehind, Ordered, below_of, beside_of, size_in, path_in, pairs_of}

-- where one isn't below a path, none after it is
none_behind : (p : List Step) (x : StatementView) (xs : List StatementView) → path_cmp p x.path ≡ Less → is_under p x ≡ false → AreBehind x.path xs → filter (is_under p) xs ≡ []
none_behind p x [] less no_ h = refl
none_behind p x (y ∷ xs) less no_ h = ap (λ (b : Bool). cond b (y ∷ filter (is_under p) xs) (filter (is_under p) xs)) (apart _ refl) ∙ none_behind p x xs less no_ h.1
  where
    apart : (b : Bool) → is_under p y ≡ b → b ≡ false
    apart true e = let k = below_between p x.path y.path (ap is_le less) h.0 e in let c = sym k ∙ no_ in cc
    apart false e = refl

all_beside : (p : List Step) (x : StatementView) (xs : List StatementView) → path_cmp p x.path ≡ Less → is_under p x ≡ false → AreBehind x.path xs → filter (λ y. not (is_under p y)) xs ≡ xs
all_beside p x [] less no_ h = refl
all_beside p x (y ∷ xs) less no_ h =
    ap (λ (b : Bool). cond (not b) (y ∷ filter (λ z. not (is_under p z)) xs) (filter (λ z. not (is_under p z)) xs)) (apart _ refl)
    ∙ ap (λ (ys : List StatementView). y ∷ ys) (all_beside p x xs less no_ h.1)
  where
    apart : (b : Bool) → is_under p y ≡ b → b ≡ false
    apart true e = let k = below_between p x.path y.path (ap is_le less) h.0 e in let c = sym k ∙ no_ in cc
    apart false e = refl

module _ (p : List Step) where
  pub together : (xs : List StatementView) → AreBehind p xs → Ordered xs → take (length (filter (is_under p) xs)) xs ≡ filter (is_under p) xs
  together [] b o = refl
  together (x ∷ xs) b o = by_test _ refl (together xs b.1 o.1)
    where
      by_test : (t : Bool) → is_under p x ≡ t → take (length (filter (is_under p) xs)) xs ≡ filter (is_under p) xs
          → take (length (cond t (x ∷ filter (is_under p) xs) (filter (is_under p) xs))) (x ∷ xs) ≡ cond t (x ∷ filter (is_under p) xs) (filter (is_under p) xs)
      by_test true e go = ap (λ (ys : List StatementView). x ∷ ys) go
      by_test false e go =
          let none = none_behind p x xs b.0 e o.0
          in ap (λ (ys : List StatementView). take (length ys) (x ∷ xs)) none ∙ sym none

  pub apart_from : (xs : List StatementView) → AreBehind p xs → Ordered xs → drop (length (filter (is_under p) xs)) xs ≡ filter (λ y. not (is_under p y)) xs
  apart_from [] b o = refl
  apart_from (x ∷ xs) b o = by_test _ refl (apart_from xs b.1 o.1)
    where
      by_test : (t : Bool) → is_under p x ≡ t → drop (length (filter (is_under p) xs)) xs ≡ filter (λ y. not (is_under p y)) xs
          → drop (length (cond t (x ∷ filter (is_under p) xs) (filter (is_under p) xs))) (x ∷ xs) ≡ cond (not t) (x ∷ filter (λ y. not (is_under p y)) xs) (filter (λ y. not (is_under p y)) xs)
      by_test true e go = go
      by_test false e go =
          ap (λ (ys : List StatementView). drop (length ys) (x ∷ xs)) (none_behind p x xs b.0 e o.0)
          ∙ ap (λ (ys : List StatementView). x ∷ ys) (sym (all_beside p x xs b.0 e o.0))

  pub fewer : (xs : List StatementView) → length (filter (is_under p) xs) ≤ length xs
  fewer [] = omega arith
  fewer (x ∷ xs) = by_test (is_under p x) (fewer xs)
    where
      by_test : (t : Bool) → length (filter (is_under p) xs) ≤ length xs → length (cond t (x ∷ filter (is_under p) xs) (filter (is_under p) xs)) ≤ length (x ∷ xs)
      by_test true h = omega (arith, h)
      by_test false h = omega (arith, h)

-- a row is kept by leaving some out
counted_drop : (xs : List StatementView) (n : ℕ) → Counted xs → Counted (drop n xs)
counted_drop xs zero h = h
counted_drop [] (suc n) h = tt
counted_drop (x ∷ xs) (suc n) h = counted_drop xs n h.1

ordered_drop : (xs : List StatementView) (n : ℕ) → Ordered xs → Ordered (drop n xs)
ordered_drop xs zero h = h
ordered_drop [] (suc n) h = tt
ordered_drop (x ∷ xs) (suc n) h = ordered_drop xs n h.1

behind_drop : (p : List Step) (xs : List StatementView) (n : ℕ) → AreBehind p xs → AreBehind p (drop n xs)
behind_drop p xs zero h = h
behind_drop p [] (suc n) h = tt
behind_drop p (x ∷ xs) (suc n) h = behind_drop p xs n h.1

drop_more : {X : Type 0} (x : X) (xs : List X) (k : ℕ) → drop (k + 1) (x ∷ xs) ≡ drop k xs
drop_more x xs k = let e : k + 1 ≡ suc k = omega arith in ap (λ (j : ℕ). drop j (x ∷ xs)) e

take_one_more : {X : Type 0} (x : X) (xs : List X) (k : ℕ) → take (k + 1) (x ∷ xs) ≡ x ∷ take k xs
take_one_more x xs k = let e : k + 1 ≡ suc k = omega arith in ap (λ (j : ℕ). take j (x ∷ xs)) e

-- from a statement to the next beside it
pub hop_room : (xs : List StatementView) → 0 < length xs → Counted xs → (size_in xs ≤ length xs) × (0 < size_in xs)
hop_room [] h c = absurd (omega (arith, h))
hop_room (x ∷ xs) h c = let k = fewer x.path xs in let e = c.0 in (omega (arith, k, e), omega (arith, e))

pub hop_beside : (xs : List StatementView) → 0 < length xs → Counted xs → Ordered xs → drop (size_in xs) xs ≡ beside_of xs
hop_beside [] h c o = absurd (omega (arith, h))
hop_beside (x ∷ xs) h c o = ap (λ (k : ℕ). drop k (x ∷ xs)) c.0 ∙ drop_more x xs _ ∙ apart_from x.path xs o.0 o.1

pub hop_inside : (xs : List StatementView) → 0 < length xs → Counted xs → Ordered xs → drop 1 (take (size_in xs) xs) ≡ below_of xs
hop_inside [] h c o = absurd (omega (arith, h))
hop_inside (x ∷ xs) h c o =
    ap (λ (k : ℕ). drop 1 (take k (x ∷ xs))) c.0 ∙ ap (λ (ys : List StatementView). drop 1 ys) (take_one_more x xs _) ∙ together x.path xs o.0 o.1

pub beside_kept : (xs : List StatementView) → 0 < length xs → Counted xs → Ordered xs → Counted (beside_of xs) × Ordered (beside_of xs) × (length (beside_of xs) < length xs)
beside_kept [] h c o = absurd (omega (arith, h))
beside_kept (x ∷ xs) h c o =
    let n = length (filter (is_under x.path) xs)
    in let same = apart_from x.path xs o.0 o.1
    in (
      subst (λ (ys : List StatementView). Counted ys) same (counted_drop xs n c.1),
      subst (λ (ys : List StatementView). Ordered ys) same (ordered_drop xs n o.1),
      subst (λ (ys : List StatementView). length ys < length (x ∷ xs)) same (omega (arith, length-drop n xs)),
    )

pub beside_behind : (p : List Step) (xs : List StatementView) → 0 < length xs → Ordered xs → AreBehind p xs → AreBehind p (beside_of xs)
beside_behind p [] h o b = absurd (omega (arith, h))
beside_behind p (x ∷ xs) h o b =
    subst (λ (ys : List StatementView). AreBehind p ys) (apart_from x.path xs o.0 o.1) (behind_drop p xs (length (filter (is_under x.path) xs)) b.1)

pub below_trans : (p q r : List Step) → is_below p q ≡ true → is_below q r ≡ true → is_below p r ≡ true
below_trans [] q r h k = refl
below_trans (s ∷ p) [] r h k = cc
below_trans (s ∷ p) (t ∷ q) [] h k = cc
below_trans (s ∷ p) (t ∷ q) (u ∷ r) h k =
    let a = both _ _ h in let b = both _ _ k
    in let st : s ≡ t = (same_step s t).0 a.0 in let tu : t ≡ u = (same_step t u).0 b.0
    in let su : eq_by_cmp step_cmp s u ≡ true = (same_step s u).1 (st ∙ tu)
    in ap (λ (c : Bool). c && is_below p r) su ∙ below_trans p q r a.1 b.1

-- counted in two parts
in_parts : (t s : StatementView → Bool) → ((y : StatementView) → s y ≡ true → t y ≡ true) → (xs : List StatementView)
    → length (filter t xs) ≡ length (filter s xs) + length (filter t (filter (λ y. not (s y)) xs))
in_parts t s go [] = omega arith
in_parts t s go (x ∷ xs) = by_tests (t x) (s x) refl refl (in_parts t s go xs)
  where
    by_tests : (a b : Bool) → t x ≡ a → s x ≡ b → length (filter t xs) ≡ length (filter s xs) + length (filter t (filter (λ y. not (s y)) xs))
        → length (cond a (x ∷ filter t xs) (filter t xs))
        ≡ length (cond b (x ∷ filter s xs) (filter s xs)) + length (filter t (cond (not b) (x ∷ filter (λ y. not (s y)) xs) (filter (λ y. not (s y)) xs)))
    by_tests true true e f h = omega (arith, h)
    by_tests true false e f h =
        let k = ap (λ (b : Bool). length (cond b (x ∷ filter t (filter (λ y. not (s y)) xs)) (filter t (filter (λ y. not (s y)) xs)))) e in omega (arith, h, k)
    by_tests false true e f h = let k = sym (go x f) ∙ e in cc
    by_tests false false e f h =
        let k = ap (λ (b : Bool). length (cond b (x ∷ filter t (filter (λ y. not (s y)) xs)) (filter t (filter (λ y. not (s y)) xs)))) e in omega (arith, h, k)

-- one more child of those that are counted: what is left to count, and what is left, fall alike
pub one_more : (p : List Step) (xs : List StatementView) → 0 < length xs → Ordered xs → is_below p (path_in xs) ≡ true
    → length (filter (is_under p) (beside_of xs)) + length xs ≡ length (filter (is_under p) xs) + length (beside_of xs)
one_more p [] h o b = absurd (omega (arith, h))
one_more p (x ∷ xs) h o b =
    let k = ap (λ (t : Bool). length (cond t (x ∷ filter (is_under p) xs) (filter (is_under p) xs))) b
    in let m = in_parts (is_under p) (is_under x.path) (λ y e. below_trans p x.path y.path b e) xs
    in let f = fewer x.path xs
    in let n = ap (λ (ys : List StatementView). length ys) (apart_from x.path xs o.0 o.1)
    in omega (arith, k, m, f, n, length-drop (length (filter (is_under x.path) xs)) xs)

pub no_more : (p : List Step) (xs : List StatementView) → 0 < length xs → Ordered xs → AreBehind p xs → is_below p (path_in xs) ≡ false → length (filter (is_under p) xs) ≡ 0
no_more p [] h o b e = absurd (omega (arith, h))
no_more p (x ∷ xs) h o b e =
    ap (λ (t : Bool). length (cond t (x ∷ filter (is_under p) xs) (filter (is_under p) xs))) e ∙ ap (λ (ys : List StatementView). length ys) (none_behind p x xs b.0 e o.0)

pub none_left : (p : List Step) (xs : List StatementView) → length xs ≡ 0 → length (filter (is_under p) xs) ≡ 0
none_left p [] e = refl
none_left p (x ∷ xs) e = absurd (omega (arith, e))

-- how far the count has come
abbrev pub IsSoFar : List Step → List StatementView → List StatementView → Type 0
IsSoFar p rest left =
    (length rest + length (filter (is_under p) left) ≡ length (filter (is_under p) rest) + length left)
    × Counted left × Ordered left × AreBehind p left × (length left ≤ length rest)

pub so_far_more : (p : List Step) (rest left next : List StatementView) → IsSoFar p rest left → 0 < length left → is_below p (path_in left) ≡ true → next ≡ beside_of left → IsSoFar p rest next
so_far_more p rest left next i some b e =
    subst (λ (ys : List StatementView). IsSoFar p rest ys) (sym e)
    (let k = beside_kept left some i.1 i.2 in let m = one_more p left some i.2 b in let j = i.0 in let l = i.4
    in (omega (arith, j, m), k.0, k.1, beside_behind p left some i.2 i.3, omega (arith, k.2, l)))

pub so_far_ends : (p : List Step) (rest left : List StatementView) → IsSoFar p rest left → 0 < length left → is_below p (path_in left) ≡ false
    → length rest - length left ≡ length (filter (is_under p) rest)
so_far_ends p rest left i some e = let k = no_more p left some i.2 i.3 e in let j = i.0 in let l = i.4 in omega (arith, j, k, l)

pub next_shorter : (left next : List StatementView) → 0 < length left → Counted left → Ordered left → next ≡ beside_of left → length next < length left
next_shorter left next some c o e = subst (λ (ys : List StatementView). length ys < length left) (sym e) (beside_kept left some c o).2

pub first_path : (x y : StatementView) (xs ys : List (Pair Value)) → (x.path, x.value) ∷ xs ≡ (y.path, y.value) ∷ ys → x.path ≡ y.path
first_path x y xs ys e = ap head_path e
  where
    head_path : List (Pair Value) → List Step
    head_path [] = []
    head_path (z ∷ zs) = z.0

behind_by : (p : List Step) (xs ys : List StatementView) → pairs_of xs ≡ pairs_of ys → AreBehind p xs → AreBehind p ys
behind_by p xs [] e h = tt
behind_by p [] (y ∷ ys) e h = cc
behind_by p (x ∷ xs) (y ∷ ys) e h =
    let first : x.path ≡ y.path = first_path x y (pairs_of xs) (pairs_of ys) e in let more : pairs_of xs ≡ pairs_of ys = ap (λ (zs : List (Pair Value)). drop 1 zs) e
    in (subst (λ (q : List Step). path_cmp p q ≡ Less) first h.0, behind_by p xs ys more h.1)

pub drop_suc : (x : StatementView) (xs : List StatementView) (k : ℕ) → drop (suc k + 1) (x ∷ xs) ≡ drop (k + 1) xs
drop_suc x xs k = let e : suc k + 1 ≡ suc (k + 1) = omega arith in ap (λ (j : ℕ). drop j (x ∷ xs)) e

-- the order of a row is that of its entries
pub ordered_by_entries : (xs ys : List StatementView) → pairs_of xs ≡ pairs_of ys → Ordered xs → Ordered ys
ordered_by_entries xs [] e o = tt
ordered_by_entries [] (y ∷ ys) e o = cc
ordered_by_entries (x ∷ xs) (y ∷ ys) e o =
    let first : x.path ≡ y.path = first_path x y (pairs_of xs) (pairs_of ys) e in let more : pairs_of xs ≡ pairs_of ys = ap (λ (zs : List (Pair Value)). drop 1 zs) e
    in (subst (λ (q : List Step). AreBehind q ys) first (behind_by x.path xs ys more o.0), ordered_by_entries xs ys more o.1)

-- one statement is written again, with its size
pub size_set : (xs : List StatementView) (at : ℕ) (y d : StatementView) → at < length xs → Counted (drop (at + 1) xs)
    → y.size ≡ length (filter (is_under y.path) (drop (at + 1) xs)) + 1 → Counted (drop at (set xs at y))
size_set [] at y d l c e = absurd (omega (arith, l))
size_set (x ∷ xs) zero y d l c e = (e, c)
size_set (x ∷ xs) (suc at) y d l c e =
    let same : drop (suc at + 1) (x ∷ xs) ≡ drop (at + 1) xs = drop_suc x xs at
    in size_set xs at y d (omega (arith, l)) (subst (λ (ys : List StatementView). Counted ys) same c)
    (e ∙ ap (λ (ys : List StatementView). length (filter (is_under y.path) ys) + 1) same)

pub pairs_set : (xs : List StatementView) (at : ℕ) (y d : StatementView) → at < length xs → y.path ≡ (get_or xs at d).path → y.value ≡ (get_or xs at d).value
    → pairs_of (set xs at y) ≡ pairs_of xs
pairs_set [] at y d l e f = absurd (omega (arith, l))
pairs_set (x ∷ xs) zero y d l e f = λ i. (e i, f i) ∷ pairs_of xs
pairs_set (x ∷ xs) (suc at) y d l e f = ap (λ (es : List (Pair Value)). (x.path, x.value) ∷ es) (pairs_set xs at y d (omega (arith, l)) e f)

pub behind_at : (xs : List StatementView) (at : ℕ) (d : StatementView) → at < length xs → Ordered xs → AreBehind (get_or xs at d).path (drop (at + 1) xs)
behind_at [] at d l o = absurd (omega (arith, l))
behind_at (x ∷ xs) zero d l o = o.0
behind_at (x ∷ xs) (suc at) d l o = subst (λ (ys : List StatementView). AreBehind (get_or xs at d).path ys) (sym (drop_suc x xs at)) (behind_at xs at d (omega (arith, l)) o.1)

pub ordered_at : (xs : List StatementView) (n : ℕ) → Ordered xs → Ordered (drop n xs)
ordered_at = ordered_drop

same_there : (xs : List StatementView) (at : ℕ) (d e : StatementView) → at < length xs → get_or xs at d ≡ get_or xs at e
same_there [] at d e l = absurd (omega (arith, l))
same_there (x ∷ xs) zero d e l = refl
same_there (x ∷ xs) (suc at) d e l = same_there xs at d e (omega (arith, l))

-- what the code's steps say of one size
module _ (xs rest : List StatementView) (at : ℕ) (p : List Step) (d : StatementView) (l : at < length xs) (is : d ≡ get_or xs at d) (path : p ≡ d.path) (cut : rest ≡ drop (at + 1) xs) where
  pub path_behind : Ordered xs → AreBehind p rest
  path_behind o =
      subst (λ (ys : List StatementView). AreBehind p ys) (sym cut)
      (subst (λ (q : List Step). AreBehind q (drop (at + 1) xs)) (ap (λ (x : StatementView). x.path) (sym is) ∙ sym path) (behind_at xs at d l o))

  pub counted_at : (y e : StatementView) (n : ℕ) → e ≡ get_or xs at e → y.path ≡ e.path → y.size ≡ n + 1 → Counted (drop (at + 1) xs) → n ≡ length (filter (is_under p) rest)
      → Counted (drop at (set xs at y))
  counted_at y e n other same size c k =
      let alike : p ≡ y.path = path ∙ ap (λ (x : StatementView). x.path) (is ∙ same_there xs at d e l ∙ sym other) ∙ sym same
      in size_set xs at y d l c
      (size ∙ ap (λ (m : ℕ). m + 1) (k ∙ ap (λ (q : List Step). length (filter (is_under q) rest)) alike ∙ ap (λ (ys : List StatementView). length (filter (is_under y.path) ys)) cut))

pub same_length : (xs ys : List StatementView) → pairs_of xs ≡ pairs_of ys → length xs ≡ length ys
same_length [] [] e = refl
same_length [] (y ∷ ys) e = cc
same_length (x ∷ xs) [] e = cc
same_length (x ∷ xs) (y ∷ ys) e = let k : pairs_of xs ≡ pairs_of ys = cc in let m = same_length xs ys k in omega (arith, m)

both_hold : (a b : Bool) → T (a && b) → T a × T b
both_hold true b h = (tt, h)
both_hold false b h = absurd h

is_less : (o : Ordering) → T (is_lt o) → o ≡ Less
is_less Less h = refl
is_less Equal h = absurd h
is_less Greater h = absurd h

-- a map's entries are a row in order
pub ordered_row : (xs : List StatementView) → T (is_sorted path_cmp (pairs_of xs)) → Ordered xs
ordered_row [] h = tt
ordered_row (x ∷ xs) h = let k = both_hold (below_all path_cmp x.path (pairs_of xs)) _ h in (behind xs k.0, ordered_row xs k.1)
  where
    behind : (ys : List StatementView) → T (below_all path_cmp x.path (pairs_of ys)) → AreBehind x.path ys
    behind [] k = tt
    behind (y ∷ ys) k = let m = both_hold (is_lt (path_cmp x.path y.path)) _ k in (is_less _ m.0, behind ys m.1)

pub map_row : (m : Statements) (xs : List StatementView) → pairs_of xs ≡ finite.entries m → Ordered xs
map_row m xs e = ordered_row xs (subst (λ (es : List (Pair Value)). T (is_sorted path_cmp es)) (sym e) (finite.entries_sorted m))
