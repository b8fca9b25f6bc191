-- Entries that have all that is given below a path, and those among them that have all that is given below one of them.
use Rattle.std.proofs.Common.{◌≡◌, ℕ, suc, ◌+◌, ◌<◌, nat_lt, Bool, true, false, cond, ◌&&◌, T, List, [], ◌∷◌, ◌++◌, length, filter, take, drop, get_or, refl, sym, ap, subst, ◌∙◌, arith, if◌then◌else◌, zero}
use Rattle.std.proofs.Math.Seq.{split_at}
use Rattle.std.specs.List.{AllByRecursion, flat_map, prefix_len}
use Rattle.std.specs.FinMap as finite
use Rattle.std.specs.FinMap.Entries.{is_sorted, is_sorted-where_key, below_all}
use Rattle.std.specs.Map.{keys_of}
use Rattle.std.specs.Ordering.{is_le}
use Rattle.std.specs.declared.cmp.Ordering.TheVariants.{Less}
use Rattle.cfg_base.specs.Order.{path_cmp}
use Rattle.cfg_base.specs.declared.path.Step.{Step}
use Rattle.cfg_schema.specs.Profile.{is_step_of, row_of}
use Rattle.cfg_schema.proofs.TestLemmas.{both}
use Rattle.cfg_tree.specs.Statements.{is_below, last_of}
use Rattle.cfg_tree.specs.Children.{is_inside, is_child}
use Rattle.cfg_tree.specs.Full.{Expansion}
use Rattle.cfg_tree.proofs.BelowLemmas.{none_later}
use Rattle.printing_order.proofs.EntriesLemmas.{head_of, tail_of, later, inside_part, none_passes, child_inside}
use Rattle.printing_order.proofs.FollowedLemmas.{back_sorted}
use Rattle.printing_order.proofs.StatementsLemmas.{twice, inside_inside, behind_inside, only_behind}
use Rattle.curly_print.specs.Inheriting.{FullEntry, HasInside, entry_if, entry_text, front_longer, given_entries, given_inside, row_entries_text, row_text}
use Rattle.curly_print.proofs.InheritedLemmas.{row_unordered}

-- those right below a path are among those below it
pub children_are : (full : Expansion) (path : List Step) (entries : List FullEntry) → HasInside full path entries
    → filter (λ e. is_child path e.0) entries ≡ given_entries full path
children_are full path entries has =
    sym (children entries)
    ∙ ap (λ (es : List FullEntry). filter (λ (e : FullEntry). is_child path e.0) es) has.all
    ∙ children (finite.entries full)
  where
    children : (es : List FullEntry) → filter (λ (e : FullEntry). is_child path e.0) (filter (λ (e : FullEntry). is_inside path e.0) es)
        ≡ filter (λ (e : FullEntry). is_child path e.0) es
    children es = twice (λ (e : FullEntry). is_inside path e.0) (λ (e : FullEntry). is_child path e.0) (λ e child. child_inside path e.0 child) es

-- all that are given below a path have all of these
pub whole : (full : Expansion) (path : List Step) (entries : List FullEntry) → entries ≡ given_inside full path → HasInside full path entries
whole full path entries are = record {
  all =
      ap (λ (es : List FullEntry). filter (λ (e : FullEntry). is_inside path e.0) es) are
      ∙ twice (λ (e : FullEntry). is_inside path e.0) (λ (e : FullEntry). is_inside path e.0) (λ e inside. inside) (finite.entries full);
  sorted =
      subst (λ (es : List FullEntry). T (is_sorted path_cmp es)) (sym are)
      (is_sorted-where_key path_cmp (is_inside path) (finite.entries full) (finite.entries_sorted full));
}

-- the first of entries in order are in order
both_t : (a b : Bool) → T a → T b → T (a && b)
both_t true b h k = k
both_t false b h k = absurd h

few_after : (k : List Step) (n : ℕ) (es : List FullEntry) → T (below_all path_cmp k es) → T (below_all path_cmp k (take n es))
few_after k zero es h = tt
few_after k (suc n) [] h = tt
few_after k (suc n) (e ∷ es) h = both_t _ _ (head_of _ _ h) (few_after k n es (tail_of _ _ h))

few_sorted : (n : ℕ) (es : List FullEntry) → T (is_sorted path_cmp es) → T (is_sorted path_cmp (take n es))
few_sorted zero es h = tt
few_sorted (suc n) [] h = tt
few_sorted (suc n) (e ∷ es) h = both_t _ _ (few_after e.0 n es (head_of _ _ h)) (few_sorted n es (tail_of _ _ h))

-- of entries in order after a path those inside it are among the front ones
longer_are : (p : List Step) (rest : List FullEntry) → T (is_sorted path_cmp rest) → AllByRecursion (λ j. path_cmp p j ≡ Less) (keys_of rest)
    → filter (λ x. is_inside p x.0) rest ≡ filter (λ x. is_inside p x.0) (front_longer p rest)
longer_are p [] sorted behind = refl
longer_are p (x ∷ rest) sorted behind =
    by_test (nat_lt (length p) (length x.0)) refl (longer_are p rest (tail_of _ _ sorted) behind.1)
  where
    inner : List FullEntry → List FullEntry
    inner es = filter (λ (y : FullEntry). is_inside p y.0) es

    count : ℕ
    count = prefix_len (λ (y : FullEntry). nat_lt (length p) (length y.0)) rest

    one_more : 1 + count ≡ suc count
    one_more = omega arith

    not_below : (b : Bool) → is_below p x.0 ≡ b → nat_lt (length p) (length x.0) ≡ false → is_below p x.0 ≡ false
    not_below true f short = let parts = both (is_below p x.0) _ (behind_inside p x.0 behind.0 f) in cc
    not_below false f short = f

    by_test : (b : Bool) → nat_lt (length p) (length x.0) ≡ b → inner rest ≡ inner (take count rest)
        → inner (x ∷ rest) ≡ inner (take (cond b (1 + count) 0) (x ∷ rest))
    by_test true f go =
        ap (λ (es : List FullEntry). cond (is_inside p x.0) (x ∷ es) es) go
        ∙ ap (λ (n : ℕ). inner (take n (x ∷ rest))) (sym one_more)
    by_test false f go =
        let other = not_below (is_below p x.0) refl f
        in ap (λ (c : Bool). cond c (x ∷ inner rest) (inner rest)) (inside_part p x.0 other)
        ∙ none_passes p (is_inside p) (inside_part p) rest
        (none_later p x.0 (keys_of rest) (ap is_le behind.0) other (later x.0 rest (head_of _ _ sorted)))

-- so those after an entry right below a path, up to the first that isn't longer, have all that is given below it
pub at_place : (full : Expansion) (path : List Step) (inside behind : List FullEntry) (at : ℕ) (e : FullEntry) → HasInside full path inside
    → at < length inside → e ≡ get_or inside at e → behind ≡ drop (at + 1) inside → is_child path e.0 ≡ true
    → HasInside full e.0 (front_longer e.0 behind)
at_place full path inside behind at e has within is rest child = record {
  all =
      sym (longer_are e.0 behind (tail_of _ _ here) (later e.0 behind (head_of _ _ here)))
      ∙ sym (only_behind front behind e sorted)
      ∙ ap inner (sym are)
      ∙ sym (within_path inside)
      ∙ ap inner has.all
      ∙ within_path (finite.entries full);
  sorted = few_sorted _ behind (tail_of _ _ here);
}
  where
    inner : List FullEntry → List FullEntry
    inner es = filter (λ (x : FullEntry). is_inside e.0 x.0) es

    front : List FullEntry
    front = take at inside

    next : suc at ≡ at + 1
    next = omega arith

    are : inside ≡ front ++ e ∷ behind
    are =
        split_at inside at e within
        ∙ ap (λ (x : FullEntry). front ++ x ∷ drop (suc at) inside) (sym is)
        ∙ ap (λ (n : ℕ). front ++ e ∷ drop n inside) next
        ∙ ap (λ (xs : List FullEntry). front ++ e ∷ xs) (sym rest)

    sorted : T (is_sorted path_cmp (front ++ e ∷ behind))
    sorted = subst (λ (es : List FullEntry). T (is_sorted path_cmp es)) are has.sorted

    here : T (is_sorted path_cmp (e ∷ behind))
    here = back_sorted front (e ∷ behind) sorted

    within_path : (es : List FullEntry) → inner (filter (λ (x : FullEntry). is_inside path x.0) es) ≡ inner es
    within_path es =
        twice (λ (x : FullEntry). is_inside path x.0) (λ (x : FullEntry). is_inside e.0 x.0)
        (λ x inner. inside_inside path e.0 x.0 (child_inside path e.0 child) inner) es

-- where there are none, nothing is given right below
pub none_below : (full : Expansion) (path : List Step) (entries : List FullEntry) → HasInside full path entries → entries ≡ [] → given_entries full path ≡ []
none_below full path entries has none =
    sym (children_are full path entries has) ∙ ap (λ (es : List FullEntry). filter (λ (e : FullEntry). is_child path e.0) es) none

module _ (path : List Step) (id : ℕ) (levels : ℕ) (full : Expansion) (indent : ℕ) where
  -- of entries are printed those right below a path
  children_printed : (es : List FullEntry) → flat_map (entry_if path id levels full indent) es
      ≡ row_entries_text id levels full indent (filter (λ e. is_child path e.0) es)
  children_printed [] = refl
  children_printed (e ∷ es) = by_test (is_child path e.0) refl (children_printed es)
    where
      printed : FullEntry → List ℕ
      printed x = (if is_step_of id (last_of x.0) then entry_text levels full indent x else [])

      by_test : (b : Bool) → is_child path e.0 ≡ b
          → flat_map (entry_if path id levels full indent) es ≡ row_entries_text id levels full indent (filter (λ x. is_child path x.0) es)
          → cond b (printed e) [] ++ flat_map (entry_if path id levels full indent) es
          ≡ row_entries_text id levels full indent (cond b (e ∷ filter (λ x. is_child path x.0) es) (filter (λ x. is_child path x.0) es))
      by_test true f go = ap (λ (t : List ℕ). printed e ++ t) go
      by_test false f go = go

-- so they are what a row without an order prints
pub row_printed : (levels : ℕ) (full : Expansion) (path : List Step) (indent id : ℕ) (entries : List FullEntry) → HasInside full path entries
    → (row_of id).ordered ≡ false → flat_map (entry_if path id levels full indent) entries ≡ row_text levels full path indent id
row_printed levels full path indent id entries has unordered =
    children_printed path id levels full indent entries
    ∙ row_unordered levels full path indent id _ (children_are full path entries has) unordered
