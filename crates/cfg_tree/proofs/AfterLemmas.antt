-- The first entry after a path, among entries in order.
use Rattle.std.proofs.Common.{◌≡◌, ◌≢◌, Bool, true, false, not, cond, List, [], ◌∷◌, filter, refl, sym, ap, subst, ◌∙◌, Option, Some, is_some}
use Rattle.std.specs.Prelude.{IsSome}
use Rattle.std.specs.Cmp.{tied_itself}
use Rattle.cfg_entries.specs.EntryMap.{EntryMap, IsOrdered, is_at}
use Rattle.std.specs.Map.{lookup, keys_of}
use Rattle.std.specs.List.{AllByRecursion}
use Rattle.std.specs.List.Sorted.{IsStrictlySortedBy}
use Rattle.std.specs.declared.cmp.Ordering.{Ordering}
use Rattle.std.specs.declared.cmp.Ordering.TheVariants.{Less, Equal, Greater}
use Rattle.std.specs.Ordering.{is_eq, is_lt, is_le, ordering_reverse}
use Rattle.std.proofs.lemmas.Map.Keys.{sorted_head, sorted_tail}
use Rattle.std.proofs.lemmas.List.Kept.{IsStrictlySortedBy-filter}
use Rattle.cfg_base.specs.Order.{path_cmp, paths_total}
use Rattle.cfg_base.specs.declared.path.Step.{Step}
use Rattle.cfg_base.specs.declared.value.Value.{Value}
use Rattle.cfg_tree.specs.Shown.{shown}
use Rattle.cfg_tree.specs.After.{IsNext, IsLast}
use Rattle.cfg_tree.proofs.MapLemmas.{same_path, get_is}
use Rattle.cfg_tree.proofs.BelowLemmas.{keys_filter}

-- the value that entries have at a path
abbrev at_path : List (List Step × Value) → List Step → Option Value
at_path es q = lookup (is_at (path_cmp q)) es

is_less : (o : Ordering) → is_lt o ≡ true → o ≡ Less
is_less Less e = refl
is_less Equal e = cc
is_less Greater e = cc

-- a path isn't before one that is before it
turned : (a q : List Step) → path_cmp a q ≡ Less → path_cmp q a ≡ Greater
turned a q e = paths_total.antisymm q a ∙ ap ordering_reverse e

apart : (a q : List Step) → path_cmp a q ≡ Less → is_eq (path_cmp q a) ≡ false
apart a q e = ap is_eq (turned a q e)

clash : (o : Ordering) → o ≡ Greater → o ≡ Less → ⊥
clash o e f = cc

-- what stands among later entries is later
later : (es : List (List Step × Value)) (a q : List Step) → AllByRecursion (λ y. path_cmp a y ≡ Less) (keys_of es) → IsSome (at_path es q)
    → path_cmp a q ≡ Less
later [] a q all there = cc
later (e ∷ es) a q all there = by_test _ refl (later es a q all.1) there
  where
    by_test : (b : Bool) → is_eq (path_cmp q e.0) ≡ b → (IsSome (at_path es q) → path_cmp a q ≡ Less)
        → IsSome (cond b (Some e.1) (at_path es q)) → path_cmp a q ≡ Less
    by_test true same go there = subst (λ (x : List Step). path_cmp a x ≡ Less) (sym ((same_path q e.0).0 same)) all.0
    by_test false same go there = go there

module _ (p : List Step) (t : List Step → Bool) (tells : (k : List Step) → t k ≡ true → path_cmp p k ≡ Less)
    (passes : (k : List Step) → path_cmp p k ≡ Less → t k ≡ true) where
  record IsFirst (es : List (List Step × Value)) (k : List Step) (v : Value) : Type 0 where
    found : at_path es k ≡ Some v
    after : path_cmp p k ≡ Less
    first : (other : List Step) → IsSome (at_path es other) → path_cmp p other ≡ Less → path_cmp other k ≢ Less

  head_first : (e : List Step × Value) (es : List (List Step × Value)) → IsStrictlySortedBy path_cmp (keys_of (e ∷ es)) → t e.0 ≡ true
      → IsFirst (e ∷ es) e.0 e.1
  head_first e es sorted h = record {
    found = ap (λ (b : Bool). cond b (Some e.1) (at_path es e.0)) ((same_path e.0 e.0).1 refl);
    after = tells e.0 h;
    first = λ other there less. by_test other _ refl there;
  }
    where
      by_test : (other : List Step) (b : Bool) → is_eq (path_cmp other e.0) ≡ b → IsSome (cond b (Some e.1) (at_path es other))
          → path_cmp other e.0 ≢ Less
      by_test other true same there before = let k = sym same ∙ ap is_eq before in cc
      by_test other false same there before =
          clash (path_cmp other e.0) (turned e.0 other (later es e.0 other (sorted_head path_cmp e.0 (keys_of es) sorted) there)) before

  tail_first : (e : List Step × Value) (es : List (List Step × Value)) (k : List Step) (v : Value) → IsStrictlySortedBy path_cmp (keys_of (e ∷ es))
      → t e.0 ≡ false → IsFirst es k v → IsFirst (e ∷ es) k v
  tail_first e es k v sorted h f = record {
    found =
        ap (λ (b : Bool). cond b (Some e.1) (at_path es k))
        (apart e.0 k (later es e.0 k (sorted_head path_cmp e.0 (keys_of es) sorted) (ap is_some f.found)))
        ∙ f.found;
    after = f.after;
    first = λ other there less. by_test other _ refl there less;
  }
    where
      by_test : (other : List Step) (b : Bool) → is_eq (path_cmp other e.0) ≡ b → IsSome (cond b (Some e.1) (at_path es other))
          → path_cmp p other ≡ Less → path_cmp other k ≢ Less
      by_test other true same there less =
          let k2 = passes e.0 (subst (λ (x : List Step). path_cmp p x ≡ Less) ((same_path other e.0).0 same) less) in let k3 = sym k2 ∙ h in cc
      by_test other false same there less = f.first other there less

  first_entry : (es : List (List Step × Value)) (k : List Step) (v : Value) (rest : List (List Step × Value))
      → IsStrictlySortedBy path_cmp (keys_of es) → filter (λ e. t e.0) es ≡ (k, v) ∷ rest → IsFirst es k v
  first_entry [] k v rest sorted e = cc
  first_entry (x ∷ es) k v rest sorted e =
      by_test _ refl (λ f. first_entry es k v rest (sorted_tail path_cmp x.0 (keys_of es) sorted) f) e
    where
      by_test : (b : Bool) → t x.0 ≡ b → (filter (λ y. t y.0) es ≡ (k, v) ∷ rest → IsFirst es k v)
          → cond b (x ∷ filter (λ y. t y.0) es) (filter (λ y. t y.0) es) ≡ (k, v) ∷ rest → IsFirst (x ∷ es) k v
      by_test true h go f =
          let is_head : x ≡ (k, v) = cc
          in subst (λ (y : List Step × Value). IsFirst (x ∷ es) y.0 y.1) is_head (head_first x es sorted h)
      by_test false h go f = tail_first x es k v sorted h (go f)

  no_entry : (es : List (List Step × Value)) → filter (λ e. t e.0) es ≡ [] → (other : List Step) → IsSome (at_path es other)
      → path_cmp p other ≢ Less
  no_entry [] e other there less = cc
  no_entry (x ∷ es) e other there less = by_test _ refl (λ f there2. no_entry es f other there2 less) e
    where
      by_key : (b : Bool) → t x.0 ≡ false → is_eq (path_cmp other x.0) ≡ b → (IsSome (at_path es other) → ⊥)
          → IsSome (cond b (Some x.1) (at_path es other)) → ⊥
      by_key true h same go there2 =
          let k2 = passes x.0 (subst (λ (y : List Step). path_cmp p y ≡ Less) ((same_path other x.0).0 same) less) in let k3 = sym k2 ∙ h in cc
      by_key false h same go there2 = go there2

      by_test : (b : Bool) → t x.0 ≡ b → (filter (λ y. t y.0) es ≡ [] → IsSome (at_path es other) → ⊥)
          → cond b (x ∷ filter (λ y. t y.0) es) (filter (λ y. t y.0) es) ≡ [] → ⊥
      by_test true h go f = cc
      by_test false h go f = by_key _ h refl (go f) there

-- a path is after another one
abbrev after_here : List Step → List Step → Bool
after_here p k = is_lt (path_cmp p k)

-- a path is another one or after it
abbrev from_here : List Step → List Step → Bool
from_here p k = is_le (path_cmp p k)

after_passes : (p k : List Step) → path_cmp p k ≡ Less → after_here p k ≡ true
after_passes p k e = ap is_lt e

not_after : (o : Ordering) → is_le o ≡ false → is_lt o ≡ false
not_after Less e = cc
not_after Equal e = refl
not_after Greater e = refl

-- what is from a path on, and isn't there, is after it
past : (o : Ordering) → is_le o ≡ true → is_eq o ≡ false → o ≡ Less
past Less e f = refl
past Equal e f = cc
past Greater e f = cc

pub other_than : (b : Bool) → true ≡ not b → b ≡ false
other_than true e = cc
other_than false e = refl

pub same_as : (b : Bool) → false ≡ not b → b ≡ true
same_as true e = refl
same_as false e = cc

-- the first one that passes
head_passes : {X : Type 0} (t : X → Bool) (xs rest : List X) (x : X) → filter t xs ≡ x ∷ rest → t x ≡ true
head_passes {X} t [] rest x e = cc
head_passes {X} t (y ∷ ys) rest x e = by_test (t y) refl (head_passes t ys rest x) e
  where
    by_test : (b : Bool) → t y ≡ b → (filter t ys ≡ x ∷ rest → t x ≡ true) → cond b (y ∷ filter t ys) (filter t ys) ≡ x ∷ rest → t x ≡ true
    by_test true h go f = let same : y ≡ x = cc in subst (λ (z : X). t z ≡ true) same h
    by_test false h go f = go f

module _ (p : List Step) where
  -- the entries after a path, among those from it on
  after_of_from : (es : List (List Step × Value))
      → filter (λ e. after_here p e.0) (filter (λ e. from_here p e.0) es) ≡ filter (λ e. after_here p e.0) es
  after_of_from [] = refl
  after_of_from (e ∷ es) = by_test (from_here p e.0) refl (after_of_from es)
    where
      by_test : (b : Bool) → from_here p e.0 ≡ b
          → filter (λ x. after_here p x.0) (filter (λ x. from_here p x.0) es) ≡ filter (λ x. after_here p x.0) es
          → filter (λ x. after_here p x.0) (cond b (e ∷ filter (λ x. from_here p x.0) es) (filter (λ x. from_here p x.0) es))
          ≡ cond (after_here p e.0) (e ∷ filter (λ x. after_here p x.0) es) (filter (λ x. after_here p x.0) es)
      by_test true h go = ap (λ (xs : List (List Step × Value)). cond (after_here p e.0) (e ∷ xs) xs) go
      by_test false h go =
          go
          ∙ ap (λ (b : Bool). cond b (e ∷ filter (λ x. after_here p x.0) es) (filter (λ x. after_here p x.0) es))
          (sym (not_after (path_cmp p e.0) h))

  module _ (es start : List (List Step × Value)) (is : start ≡ filter (λ e. from_here p e.0) es) where
    after_start : filter (λ e. after_here p e.0) es ≡ filter (λ e. after_here p e.0) start
    after_start = sym (after_of_from es) ∙ ap (λ (xs : List (List Step × Value)). filter (λ e. after_here p e.0) xs) (sym is)

    -- none is left from the path on
    after_none : start ≡ [] → filter (λ e. after_here p e.0) es ≡ []
    after_none e = after_start ∙ ap (λ (xs : List (List Step × Value)). filter (λ x. after_here p x.0) xs) e

    module _ (k : List Step) (v : Value) (rest : List (List Step × Value)) (e : start ≡ (k, v) ∷ rest) where
      after_head : filter (λ x. after_here p x.0) es
          ≡ cond (after_here p k) ((k, v) ∷ filter (λ x. after_here p x.0) rest) (filter (λ x. after_here p x.0) rest)
      after_head = after_start ∙ ap (λ (xs : List (List Step × Value)). filter (λ x. after_here p x.0) xs) e

      -- the first one isn't at the path
      after_other : is_eq (path_cmp p k) ≡ false → filter (λ x. after_here p x.0) es ≡ (k, v) ∷ filter (λ x. after_here p x.0) rest
      after_other other =
          let less = past (path_cmp p k) (head_passes (λ x. from_here p x.0) es rest (k, v) (sym is ∙ e)) other
          in after_head
          ∙ ap (λ (b : Bool). cond b ((k, v) ∷ filter (λ x. after_here p x.0) rest) (filter (λ x. after_here p x.0) rest)) (after_passes p k less)

      -- the first one is at the path
      after_same : p ≡ k → filter (λ x. after_here p x.0) es ≡ filter (λ x. after_here p x.0) rest
      after_same same =
          after_head
          ∙ ap (λ (o : Ordering). cond (is_lt o) ((k, v) ∷ filter (λ x. after_here p x.0) rest) (filter (λ x. after_here p x.0) rest))
          (ap (λ (q : List Step). path_cmp p q) (sym same) ∙ tied_itself paths_total p)

      start_sorted : IsStrictlySortedBy path_cmp (keys_of es) → IsStrictlySortedBy path_cmp (k ∷ keys_of rest)
      start_sorted sorted =
          subst (λ (ks : List (List Step)). IsStrictlySortedBy path_cmp ks)
          (sym (keys_filter (from_here p) es) ∙ ap (λ (xs : List (List Step × Value)). keys_of xs) (sym is ∙ e))
          (IsStrictlySortedBy-filter path_cmp (from_here p) (keys_of es) sorted)

      -- the one after it
      after_second : (k2 : List Step) (v2 : Value) (rest2 : List (List Step × Value)) → p ≡ k → rest ≡ (k2, v2) ∷ rest2
          → IsStrictlySortedBy path_cmp (keys_of es) → filter (λ x. after_here p x.0) es ≡ (k2, v2) ∷ filter (λ x. after_here p x.0) rest2
      after_second k2 v2 rest2 same f sorted =
          let up = subst (λ (xs : List (List Step × Value)). IsStrictlySortedBy path_cmp (k ∷ keys_of xs)) f (start_sorted sorted)
          in let less = subst (λ (q : List Step). path_cmp q k2 ≡ Less) (sym same) (sorted_head path_cmp k (k2 ∷ keys_of rest2) up).0
          in after_same same
          ∙ ap (λ (xs : List (List Step × Value)). filter (λ x. after_here p x.0) xs) f
          ∙ ap (λ (b : Bool). cond b ((k2, v2) ∷ filter (λ x. after_here p x.0) rest2) (filter (λ x. after_here p x.0) rest2)) (after_passes p k2 less)

module _ (m : EntryMap (List Step) Value) (p : List Step) where
  found_next : (k : List Step) (v : Value) (rest : List (List Step × Value)) → IsOrdered path_cmp m
      → filter (λ e. after_here p e.0) m.entries ≡ (k, v) ∷ rest → IsNext (shown m) p k v
  found_next k v rest sorted e =
      let one = first_entry p (after_here p) (λ q. is_less (path_cmp p q)) (after_passes p) m.entries k v rest sorted e
      in record {
        found = get_is m k ∙ one.found;
        after = one.after;
        first = λ other there less. one.first other (subst IsSome (get_is m other) there) less;
      }

  none_next : filter (λ e. after_here p e.0) m.entries ≡ [] → IsLast (shown m) p
  none_next e other there less =
      no_entry p (after_here p) (λ q. is_less (path_cmp p q)) (after_passes p) m.entries e other (subst IsSome (get_is m other) there) less

  module _ (start : List (List Step × Value)) (is : start ≡ filter (λ e. from_here p e.0) m.entries) where
    -- none stands from the path on
    pub next_none : start ≡ [] → IsLast (shown m) p
    next_none e = none_next (after_none p m.entries start is e)

    module _ (k : List Step) (v : Value) (rest : List (List Step × Value)) (e : start ≡ (k, v) ∷ rest) (sorted : IsOrdered path_cmp m) where
      -- the first one from the path on is another one
      pub next_found : is_eq (path_cmp p k) ≡ false → IsNext (shown m) p k v
      next_found other = found_next k v _ sorted (after_other p m.entries start is k v rest e other)

      -- it is the path, and the next one is after it
      pub next_behind : (k2 : List Step) (v2 : Value) (rest2 : List (List Step × Value)) → is_eq (path_cmp p k) ≡ true → rest ≡ (k2, v2) ∷ rest2
          → IsNext (shown m) p k2 v2
      next_behind k2 v2 rest2 same f =
          found_next k2 v2 _ sorted (after_second p m.entries start is k v rest e k2 v2 rest2 ((same_path p k).0 same) f sorted)

      -- it is the path, and the last one
      pub next_last : is_eq (path_cmp p k) ≡ true → rest ≡ [] → IsLast (shown m) p
      next_last same f =
          none_next (after_same p m.entries start is k v rest e ((same_path p k).0 same)
          ∙ ap (λ (xs : List (List Step × Value)). filter (λ x. after_here p x.0) xs) f)
