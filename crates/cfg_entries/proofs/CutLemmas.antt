-- Where entries in order are cut in two: a test of paths that holds of a front of them.
use Rattle.std.proofs.Common.{◌≡◌, ℕ, suc, zero, ◌<◌, ◌≤◌, ◌+◌, ◌-◌, Bool, true, false, cond, not, ◌||◌, List, [], ◌∷◌, ◌++◌, take, drop, length, get_or, filter, refl, sym, ap, subst, ◌∙◌, Less, Equal, Greater, Ordering, is_le, is_lt, arith, take-append-drop}
use Rattle.std.specs.Ordering.{ordering_reverse}
use Rattle.std.specs.List.{AllByRecursion}
use Rattle.std.specs.List.Sorted.{IsPartitionedBy, IsPartitionPoint}
use Rattle.std.proofs.lemmas.List.{length-map}
use Rattle.std.proofs.lemmas.List.Elements.{filter-append}
use Rattle.cfg_base.specs.Order.{path_cmp, is_below, paths_total}
use Rattle.cfg_base.specs.declared.path.Step.{Step}
use Rattle.cfg_base.proofs.FlatLemmas.{flat_around}
use Rattle.cfg_entries.specs.EntryMap.{Pair, from_key}
use Rattle.cfg_entries.specs.Rows.{flat, rows_of, IsFilled, IsPage, AreRows, ArePages}
use Rattle.cfg_entries.specs.Places.{AreBefore, AreBehind}
use Rattle.cfg_entries.specs.Cuts.{in_front, behind, begins, page_begins, IsCutRow}
use Rattle.cfg_entries.specs.declared.cut.Cut.{Cut}
use Rattle.cfg_entries.specs.declared.cut.Cut.TheVariants.{Before, Behind}
use Rattle.cfg_entries.proofs.OrderLemmas.{before_le, behind_it}
use Rattle.cfg_entries.proofs.BelowLemmas.{below_between}
use Rattle.cfg_entries.proofs.RowLemmas.{all_back, all_each, Rises, rises, rises_back, rises_apart}
use Rattle.cfg_entries.proofs.PlaceLemmas.{within_take, within_drop}
use Rattle.cfg_entries.proofs.BlockLemmas.{all_drop}
use Rattle.cfg_entries.proofs.PageLemmas.{rows_of_pages, row_within}

-- what stands before a path that is before a cut is before the cut too
module _ (path p q : List Step) (l : path_cmp p q ≡ Less) where
  less_is : (o : Ordering) → is_lt o ≡ true → o ≡ Less
  less_is Less h = refl
  less_is Equal h = cc
  less_is Greater h = cc

  first_true : (a b : Bool) → a ≡ true → (a || b) ≡ true
  first_true true b h = refl
  first_true false b h = cc

  by_place : (b : Bool) → is_le (path_cmp p path) ≡ b → is_below path q ≡ true → (is_le (path_cmp p path) || is_below path p) ≡ true
  by_place true e h = first_true _ _ e
  by_place false e h =
      ap (λ (b : Bool). b || is_below path p) e ∙ below_between path p q (ap is_le (behind_it p path e)) l h

  by_reach : (b : Bool) → is_le (path_cmp q path) ≡ b → (b || is_below path q) ≡ true → (is_le (path_cmp p path) || is_below path p) ≡ true
  by_reach true e h = first_true _ _ (ap is_le (before_le p q path l e))
  by_reach false e h = by_place _ refl h

  is_front : (cut : Cut) → in_front cut path q ≡ true → in_front cut path p ≡ true
  is_front Before h = ap is_lt (paths_total.trans p q path l (less_is _ h))
  is_front Behind h = by_reach _ refl h

pub front_of : (cut : Cut) (path p q : List Step) → path_cmp p q ≡ Less → in_front cut path q ≡ true → in_front cut path p ≡ true
front_of cut path p q l h = is_front path p q l cut h

get_or_same : {X : Type 0} (xs : List X) (i : ℕ) (x : X) → i < length xs → get_or xs i x ≡ get_or xs i (get_or xs i x)
get_or_same [] i x m = absurd (omega (arith, m))
get_or_same (y ∷ ys) zero x m = refl
get_or_same (y ∷ ys) (suc i) x m = get_or_same ys i x (omega (arith, m))

fails_if : (test : List Step → Bool) (p q : List Step) (b : Bool) → (test q ≡ true → test p ≡ true) → test q ≡ b → test p ≡ false → b ≡ false
fails_if test p q true f e h = let t = f e in cc
fails_if test p q false f e h = refl

module _ {V : Type 0} (test : List Step → Bool) (front : (p q : List Step) → path_cmp p q ≡ Less → test q ≡ true → test p ≡ true) where
  abbrev Passes : List (Pair V) → Type 0
  Passes es = AllByRecursion (λ e. test e.0 ≡ true) es

  abbrev Fails : List (Pair V) → Type 0
  Fails es = AllByRecursion (λ e. test e.0 ≡ false) es

  pub left_none : (xs : List (Pair V)) → Passes xs → behind test xs ≡ []
  left_none [] h = refl
  left_none (e ∷ xs) h =
      ap (λ (b : Bool). cond (not b) (e ∷ behind test xs) (behind test xs)) h.0 ∙ left_none xs h.1

  left_all : (xs : List (Pair V)) → Fails xs → behind test xs ≡ xs
  left_all [] h = refl
  left_all (e ∷ xs) h =
      ap (λ (b : Bool). cond (not b) (e ∷ behind test xs) (behind test xs)) h.0
      ∙ ap (λ (es : List (Pair V)). e ∷ es) (left_all xs h.1)

  left_middle : (xs ys zs : List (Pair V)) → Passes xs → Fails zs → behind test (xs ++ (ys ++ zs)) ≡ behind test ys ++ zs
  left_middle xs ys zs g h =
      filter-append _ xs (ys ++ zs)
      ∙ ap (λ (es : List (Pair V)). es ++ behind test (ys ++ zs)) (left_none xs g)
      ∙ filter-append _ ys zs
      ∙ ap (λ (es : List (Pair V)). behind test ys ++ es) (left_all zs h)

  fails_behind : (k : List Step) (es : List (Pair V)) → test k ≡ false → AreBehind k es → Fails es
  fails_behind k es h up =
      all_each (λ (x : Pair V). path_cmp k x.0 ≡ Less) (λ (x : Pair V). test x.0 ≡ false) (λ x g. fails_if test k x.0 _ (front k x.0 g) refl h) es up

  pub passes_before : (k : List Step) (es : List (Pair V)) → test k ≡ true → AreBefore k es → Passes es
  passes_before k es h up =
      all_each (λ (x : Pair V). path_cmp x.0 k ≡ Less) (λ (x : Pair V). test x.0 ≡ true) (λ x g. front x.0 k g h) es up

  none_in_front : (xs : List (Pair V)) → Fails xs → filter (λ e. test e.0) xs ≡ []
  none_in_front [] h = refl
  none_in_front (e ∷ xs) h =
      ap (λ (b : Bool). cond b (e ∷ filter (λ x. test x.0) xs) (filter (λ x. test x.0) xs)) h.0 ∙ none_in_front xs h.1

  -- entries in order are those before the cut, and then the others
  pub split_at_cut : (es : List (Pair V)) → Rises es → es ≡ filter (λ e. test e.0) es ++ behind test es
  split_at_cut [] up = refl
  split_at_cut (e ∷ es) up = by_test (test e.0) refl (split_at_cut es up.1)
    where
      by_test : (b : Bool) → test e.0 ≡ b → es ≡ filter (λ x. test x.0) es ++ behind test es
          → e ∷ es ≡ cond b (e ∷ filter (λ x. test x.0) es) (filter (λ x. test x.0) es) ++ cond (not b) (e ∷ behind test es) (behind test es)
      by_test true h go = ap (λ (xs : List (Pair V)). e ∷ xs) go
      by_test false h go =
          let none = fails_behind e.0 es h up.0
          in ap (λ (xs : List (Pair V)). e ∷ xs) (sym (left_all es none))
          ∙ ap (λ (xs : List (Pair V)). xs ++ e ∷ behind test es) (sym (none_in_front es none))

  later : (k : List Step) (bs : List (List (Pair V))) (j : ℕ) (d : List (Pair V)) → AllByRecursion IsFilled bs → AreBehind k (flat bs) → j < length bs
      → begins test (get_or bs j d) ≡ true → test k ≡ true
  later k [] j d sized up l h = absurd (omega (arith, l))
  later k ([] ∷ bs) j d sized up l h = absurd (omega (arith, sized.0))
  later k ((e ∷ es) ∷ bs) zero d sized up l h = front k e.0 up.0 h
  later k ((e ∷ es) ∷ bs) (suc j) d sized up l h = later k bs j d sized.1 (all_back _ (e ∷ es) (flat bs) up) (omega (arith, l)) h

  partitioned : (bs : List (List (Pair V))) → AllByRecursion IsFilled bs → Rises (flat bs) → (i j : ℕ) (d : List (Pair V)) → i ≤ j → j < length bs
      → begins test (get_or bs j d) ≡ true → begins test (get_or bs i d) ≡ true
  partitioned [] sized up i j d le l h = absurd (omega (arith, l))
  partitioned ([] ∷ bs) sized up i j d le l h = absurd (omega (arith, sized.0))
  partitioned ((e ∷ es) ∷ bs) sized up zero zero d le l h = h
  partitioned ((e ∷ es) ∷ bs) sized up zero (suc j) d le l h =
      later e.0 bs j d sized.1 (all_back _ es (flat bs) up.0) (omega (arith, l)) h
  partitioned ((e ∷ es) ∷ bs) sized up (suc i) zero d le l h = absurd (omega (arith, le))
  partitioned ((e ∷ es) ∷ bs) sized up (suc i) (suc j) d le l h =
      partitioned bs sized.1 (rises_back (e ∷ es) (flat bs) up) i j d (omega (arith, le)) (omega (arith, l)) h

  -- the rows that begin before the cut stand before the others
  pub rows_partitioned : (bs : List (List (Pair V))) → AreRows bs → IsPartitionedBy (begins test) bs
  rows_partitioned bs is i j d le l h = partitioned bs is.filled (rises (flat bs) is.ordered) i j d le l h

  fails_all : (bs : List (List (Pair V))) → AllByRecursion IsFilled bs → Rises (flat bs) → AllByRecursion (λ b. begins test b ≡ false) bs → Fails (flat bs)
  fails_all [] sized up h = tt
  fails_all ([] ∷ bs) sized up h = absurd (omega (arith, sized.0))
  fails_all ((e ∷ es) ∷ bs) sized up h = (h.0, fails_behind e.0 (es ++ flat bs) h.0 up.0)

  fails_drop : (bs : List (List (Pair V))) (i : ℕ) → Fails (flat bs) → Fails (flat (drop i bs))
  fails_drop bs zero h = h
  fails_drop [] (suc i) h = h
  fails_drop (b ∷ bs) (suc i) h = fails_drop bs i (all_back _ b (flat bs) h)

  rises_drop : (bs : List (List (Pair V))) (i : ℕ) → Rises (flat bs) → Rises (flat (drop i bs))
  rises_drop bs zero h = h
  rises_drop [] (suc i) h = h
  rises_drop (b ∷ bs) (suc i) h = rises_drop bs i (rises_back b (flat bs) h)

  passes_all : (bs : List (List (Pair V))) (i : ℕ) (b : List (Pair V)) → Rises (flat bs) → i < length bs → b ≡ get_or bs i b
      → begins test b ≡ true → Passes (flat (take i bs))
  passes_all bs i [] up l read h = cc
  passes_all bs i (e ∷ es) up l read h =
      passes_before e.0 (flat (take i bs)) h
      (rises_apart (flat (take i bs)) e (es ++ flat (drop (i + 1) bs))
      (subst (λ (xs : List (Pair V)). Rises xs) (flat_around bs i (e ∷ es) l read) up))

  -- the row before the first that doesn't begin before the cut
  pub row_found : (bs : List (List (Pair V))) (count : ℕ) → AreRows bs → count ≤ length bs
      → IsPartitionPoint (λ b. begins test b ≡ true) (λ b. begins test b ≡ false) bs count → (at : ℕ) → at ≡ count - 1 → IsCutRow test bs at
  row_found bs zero is l h at e = subst (λ (n : ℕ). IsCutRow test bs n) (sym e) (record {
    within = λ some. some;
    before = tt;
    behind = fails_drop bs 1 (fails_all bs is.filled (rises (flat bs) is.ordered) (within_drop _ bs 0 h.1));
  })
  row_found [] (suc n) is l h at e = absurd (omega (arith, l))
  row_found (d ∷ bs) (suc n) is l h at e =
      let up = rises (flat (d ∷ bs)) is.ordered
      in let this : IsCutRow test (d ∷ bs) n =
      record {
        within = λ _. omega (arith, l);
        before = passes_all (d ∷ bs) n (get_or (d ∷ bs) n d) up (omega (arith, l)) (get_or_same (d ∷ bs) n d (omega (arith, l))) (h.0 n d (omega arith) (omega arith));
        behind = fails_all (drop (n + 1) (d ∷ bs)) (all_drop _ (d ∷ bs) (n + 1) is.filled) (rises_drop (d ∷ bs) (n + 1) up) (within_drop _ (d ∷ bs) (n + 1) (λ k x a b. h.1 k x (omega (arith, a)) b));
      }
      in subst (λ (m : ℕ). IsCutRow test (d ∷ bs) m) (omega (arith, e)) this

  read_behind : (k : List Step) (es : List (Pair V)) (j : ℕ) (d : Pair V) → AreBehind k es → j < length es → path_cmp k (get_or es j d).0 ≡ Less
  read_behind k [] j d up l = absurd (omega (arith, l))
  read_behind k (e ∷ es) zero d up l = up.0
  read_behind k (e ∷ es) (suc j) d up l = read_behind k es j d up.1 (omega (arith, l))

  pub entries_partitioned : (es : List (Pair V)) → Rises es → IsPartitionedBy (λ e. test e.0) es
  entries_partitioned [] up i j d le l h = absurd (omega (arith, l))
  entries_partitioned (e ∷ es) up zero zero d le l h = h
  entries_partitioned (e ∷ es) up zero (suc j) d le l h = front e.0 (get_or es j d).0 (read_behind e.0 es j d up.0 (omega (arith, l))) h
  entries_partitioned (e ∷ es) up (suc i) zero d le l h = absurd (omega (arith, le))
  entries_partitioned (e ∷ es) up (suc i) (suc j) d le l h =
      entries_partitioned es up.1 i j d (omega (arith, le)) (omega (arith, l)) h

  -- the entries from the cut on
  pub entries_cut : (es : List (Pair V)) (count : ℕ) → count ≤ length es
      → IsPartitionPoint (λ e. test e.0 ≡ true) (λ e. test e.0 ≡ false) es count → drop count es ≡ behind test es
  entries_cut es count l h =
      sym (ap (λ (xs : List (Pair V)). behind test xs) (sym (take-append-drop count es))
      ∙ left_middle (take count es) [] (drop count es) (within_take _ es count l h.0) (within_drop _ es count h.1))

  -- the entries from the cut on, in its row and in those after it
  pub rows_cut : (bs : List (List (Pair V))) (at : ℕ) (b es : List (Pair V)) → at < length bs → b ≡ get_or bs at b → IsCutRow test bs at
      → es ≡ behind test b → es ++ flat (drop (at + 1) bs) ≡ behind test (flat bs)
  rows_cut bs at b es l read around e =
      ap (λ (xs : List (Pair V)). xs ++ flat (drop (at + 1) bs)) e
      ∙ sym (ap (λ (xs : List (Pair V)). behind test xs) (flat_around bs at b l read)
      ∙ left_middle (flat (take at bs)) b (flat (drop (at + 1) bs)) around.before around.behind)

  -- where no row is, no entry is
  pub no_row : (bs : List (List (Pair V))) (at : ℕ) → IsCutRow test bs at → length bs ≤ at → [] ≡ behind test (flat bs)
  no_row [] at is l = refl
  no_row (b ∷ bs) at is l = let within = is.within (omega arith) in absurd (omega (arith, l, within))

  first_begins : (p : List (List (Pair V))) → IsPage p → page_begins test p ≡ begins test (flat p)
  first_begins [] is = absurd (let some = is.0.0 in omega (arith, some))
  first_begins ([] ∷ bs) is = absurd (let some = is.1.0.0 in omega (arith, some))
  first_begins ((e ∷ es) ∷ bs) is = refl

  begins_at : (ps : List (List (List (Pair V)))) (k : ℕ) (d : List (List (Pair V))) (x : List (Pair V)) → AllByRecursion IsPage ps → k < length ps
      → page_begins test (get_or ps k d) ≡ begins test (get_or (rows_of ps) k x)
  begins_at [] k d x h l = absurd (omega (arith, l))
  begins_at (p ∷ ps) zero d x h l = first_begins p h.0
  begins_at (p ∷ ps) (suc k) d x h l = begins_at ps k d x h.1 (omega (arith, l))

  -- the pages that begin before the cut stand before the others
  pub pages_partitioned : (ps : List (List (List (Pair V)))) → ArePages ps → IsPartitionedBy (page_begins test) ps
  pages_partitioned ps is i j d le l h =
      begins_at ps i d [] is.sized (omega (arith, le, l))
      ∙ rows_partitioned (rows_of ps) (rows_of_pages ps is) i j [] le (row_within ps j l) (sym (begins_at ps j d [] is.sized l) ∙ h)

  pub page_found : (ps : List (List (List (Pair V)))) (count : ℕ) → ArePages ps → count ≤ length ps
      → IsPartitionPoint (λ p. page_begins test p ≡ true) (λ p. page_begins test p ≡ false) ps count → (at : ℕ) → at ≡ count - 1
      → IsCutRow test (rows_of ps) at
  page_found ps count is l h at e =
      let n = length-map ps (flat {X = (Pair V)})
      in row_found (rows_of ps) count (rows_of_pages ps is) (omega (arith, l, n)) (
        (λ k d a b. sym (begins_at ps k [] d is.sized (omega (arith, b, l))) ∙ h.0 k [] a b),
        (λ k d a b. sym (begins_at ps k [] d is.sized (omega (arith, b, n))) ∙ h.1 k [] a (omega (arith, b, n))),
      ) at e

not_before : (o : Ordering) → not (is_lt (ordering_reverse o)) ≡ is_le o
not_before Less = refl
not_before Equal = refl
not_before Greater = refl

module _ {V : Type 0} where
  -- what isn't before a path is at it or after it
  pub from_is : (path : List Step) (es : List (Pair V)) → behind (in_front Before path) es ≡ from_key path_cmp path es
  from_is path [] = refl
  from_is path (e ∷ es) =
      ap (λ (xs : List (Pair V)). cond (not (is_lt (path_cmp e.0 path))) (e ∷ xs) xs) (from_is path es)
      ∙ ap (λ (b : Bool). cond b (e ∷ from_key path_cmp path es) (from_key path_cmp path es))
      (ap (λ (o : Ordering). not (is_lt o)) (paths_total.antisymm e.0 path) ∙ not_before (path_cmp path e.0))
