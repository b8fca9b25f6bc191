-- Entries that come with paths that don't fall.
use Rattle.std.proofs.Common.{◌≡◌, true, false, List, [], ◌∷◌, ◌++◌, refl, sym, ap, subst, ◌∙◌, None, Option, Less, Equal, Greater, Ordering, is_le, is_eq, append-nil, length, arith}
use Rattle.std.specs.Ordering.{eq_by_cmp}
use Rattle.std.specs.FinMap.{put}
use Rattle.std.specs.FinMap.Entries.{by_order}
use Rattle.std.specs.BTreeMap.{is_at}
use Rattle.std.specs.Map.{keys_of, lookup}
use Rattle.std.specs.List.{AllByRecursion}
use Rattle.std.specs.List.Sorted.{IsStrictlySortedBy}
use Rattle.cfg_base.specs.Order.{path_cmp, paths_total}
use Rattle.cfg_base.specs.declared.path.Step.{Step}
use Rattle.cfg_base.specs.declared.value.Value.{Value}
use Rattle.cfg_entries.specs.EntryMap.{Pair}
use Rattle.cfg_entries.specs.Places.{AreBefore}
use Rattle.cfg_tree.specs.Gather.{value_of_both, joined_at, with_one, grown, AreUpTo, Climbs}
use Rattle.cfg_entries.proofs.OrderLemmas.{path_same}
use Rattle.cfg_entries.proofs.RowLemmas.{all_join, all_each, all_back, Rises, rises, ascends, rises_apart, lookup_before, lookup_here, put_before, put_here}

-- what is put after all
at_end : (k : List Step) (v : Value) (es : List (Pair Value)) → AreBefore k es → put path_cmp k v es ≡ es ++ (k, v) ∷ []
at_end k v es h = ap (λ (xs : List (Pair Value)). put path_cmp k v xs) (sym (append-nil es)) ∙ put_before k v es [] h

none_at : (k : List Step) (es : List (Pair Value)) → AreBefore k es → lookup (is_at (path_cmp k)) es ≡ None
none_at k es h = ap (λ (xs : List (Pair Value)). lookup (is_at (path_cmp k)) xs) (sym (append-nil es)) ∙ lookup_before k es [] h

added : (e : Pair Value) (es : List (Pair Value)) → AreBefore e.0 es → es ++ e ∷ [] ≡ with_one e es
added e es h =
    sym (at_end e.0 e.1 es h)
    ∙ ap (λ (o : Option Value). put path_cmp e.0 (joined_at e.0 o e.1) es) (sym (none_at e.0 es h))

pub first_one : (e : Pair Value) (made self : List (Pair Value)) → self ≡ made ++ [] → made ≡ [] → made ++ e ∷ [] ≡ with_one e self
first_one e made self v h =
    ap (λ (xs : List (Pair Value)). xs ++ e ∷ []) h ∙ ap (λ (xs : List (Pair Value)). with_one e xs) (sym (v ∙ append-nil made ∙ h))

pub first_sorted : (e : Pair Value) (made : List (Pair Value)) → made ≡ [] → IsStrictlySortedBy path_cmp (keys_of (made ++ e ∷ []))
first_sorted e made h = ascends (made ++ e ∷ []) (subst (λ (xs : List (Pair Value)). Rises (xs ++ e ∷ [])) (sym h) (tt, tt))

module _ (made : List (Pair Value)) (l e : Pair Value) (up : IsStrictlySortedBy path_cmp (keys_of (made ++ l ∷ []))) where
  before_last : AreBefore l.0 made
  before_last = rises_apart made l [] (rises (made ++ l ∷ []) up)

  is_tie : (o : Ordering) → is_eq o ≡ true → o ≡ Equal
  is_tie Less h = cc
  is_tie Equal h = refl
  is_tie Greater h = cc

  same_paths : eq_by_cmp path_cmp l.0 e.0 ≡ true → l.0 ≡ e.0
  same_paths h = path_same l.0 e.0 (is_tie _ h)

  -- a value of the last path is joined to the last one
  joins : l.0 ≡ e.0 → path_cmp e.0 l.0 ≡ Equal → made ++ (e.0, value_of_both e.0 l.1 e.1) ∷ [] ≡ with_one e (made ++ l ∷ [])
  joins is tie =
      let apart = subst (λ (k : List Step). AreBefore k made) is before_last
      in ap (λ (xs : List (Pair Value)). made ++ xs) (sym (put_here e.0 (value_of_both e.0 l.1 e.1) l [] tie))
      ∙ sym (put_before e.0 (value_of_both e.0 l.1 e.1) made (l ∷ []) apart)
      ∙ ap (λ (o : Option Value). put path_cmp e.0 (joined_at e.0 o e.1) (made ++ l ∷ [])) (sym (lookup_before e.0 made (l ∷ []) apart ∙ lookup_here e.0 l [] tie))

  tie_back : l.0 ≡ e.0 → eq_by_cmp path_cmp l.0 e.0 ≡ true → path_cmp e.0 l.0 ≡ Equal
  tie_back is h = ap (λ (k : List Step). path_cmp k l.0) (sym is) ∙ ap (λ (k : List Step). path_cmp l.0 k) is ∙ is_tie _ h

  tied_both : (both : Pair Value) → l.0 ≡ e.0 → both ≡ (l.0, value_of_both l.0 l.1 e.1) → both ≡ (e.0, value_of_both e.0 l.1 e.1)
  tied_both both is b = b ∙ ap (λ (k : List Step). (k, value_of_both k l.1 e.1)) is

  pub same_one : (both : Pair Value) → eq_by_cmp path_cmp l.0 e.0 ≡ true → both ≡ (l.0, value_of_both l.0 l.1 e.1) → made ++ both ∷ [] ≡ with_one e (made ++ l ∷ [])
  same_one both h b = ap (λ (p : Pair Value). made ++ p ∷ []) (tied_both both (same_paths h) b) ∙ joins (same_paths h) (tie_back (same_paths h) h)

  rises_other : (xs : List (Pair Value)) (p : Pair Value) → l.0 ≡ p.0 → Rises (xs ++ l ∷ []) → Rises (xs ++ p ∷ [])
  rises_other [] p is h = (tt, tt)
  rises_other (x ∷ xs) p is h =
      (all_join _ xs (p ∷ []) (front xs h.0) (subst (λ (k : List Step). path_cmp x.0 k ≡ Less) is (all_back _ xs (l ∷ []) h.0).0, tt), rises_other xs p is h.1)
    where
      front : (ys : List (Pair Value)) → AllByRecursion (λ y. path_cmp x.0 y.0 ≡ Less) (ys ++ l ∷ []) → AllByRecursion (λ y. path_cmp x.0 y.0 ≡ Less) ys
      front [] g = tt
      front (y ∷ ys) g = (g.0, front ys g.1)

  pub same_sorted : (both : Pair Value) → eq_by_cmp path_cmp l.0 e.0 ≡ true → both ≡ (l.0, value_of_both l.0 l.1 e.1) → IsStrictlySortedBy path_cmp (keys_of (made ++ both ∷ []))
  same_sorted both h b = ascends (made ++ both ∷ []) (rises_other made both (same_paths h ∙ sym (ap (λ (p : Pair Value). p.0) (tied_both both (same_paths h) b))) (rises (made ++ l ∷ []) up))

  is_less : (o : Ordering) → is_eq o ≡ false → is_le o ≡ true → o ≡ Less
  is_less Less h g = refl
  is_less Equal h g = cc
  is_less Greater h g = cc

  last_less : AreUpTo e.0 (made ++ l ∷ []) → eq_by_cmp path_cmp l.0 e.0 ≡ false → path_cmp l.0 e.0 ≡ Less
  last_less upto h = is_less _ h (all_back _ made (l ∷ []) upto).0

  all_before : path_cmp l.0 e.0 ≡ Less → AreBefore e.0 (made ++ l ∷ [])
  all_before h =
      all_join _ made (l ∷ []) (all_each (λ (x : Pair Value). path_cmp x.0 l.0 ≡ Less) (λ (x : Pair Value). path_cmp x.0 e.0 ≡ Less) (λ x g. paths_total.trans x.0 l.0 e.0 g h) made before_last) (h, tt)

  rises_push : (xs : List (Pair Value)) → Rises xs → AreBefore e.0 xs → Rises (xs ++ e ∷ [])
  rises_push [] h g = (tt, tt)
  rises_push (x ∷ xs) h g = (all_join _ xs (e ∷ []) h.0 (g.0, tt), rises_push xs h.1 g.1)

  pub next_one : (now : List (Pair Value)) → AreUpTo e.0 (made ++ l ∷ []) → eq_by_cmp path_cmp l.0 e.0 ≡ false → now ≡ made ++ l ∷ [] → now ++ e ∷ [] ≡ with_one e (made ++ l ∷ [])
  next_one now upto h n = ap (λ (xs : List (Pair Value)). xs ++ e ∷ []) n ∙ added e (made ++ l ∷ []) (all_before (last_less upto h))

  pub next_sorted : (now : List (Pair Value)) → AreUpTo e.0 (made ++ l ∷ []) → eq_by_cmp path_cmp l.0 e.0 ≡ false → now ≡ made ++ l ∷ [] → IsStrictlySortedBy path_cmp (keys_of (now ++ e ∷ []))
  next_sorted now upto h n =
      ascends (now ++ e ∷ []) (subst (λ (xs : List (Pair Value)). Rises (xs ++ e ∷ [])) (sym n)
      (rises_push (made ++ l ∷ []) (rises (made ++ l ∷ []) up) (all_before (last_less upto h))))

-- a put leaves all paths up to one, where its own is
pub upto_with : (k : List Step) (e : Pair Value) (es : List (Pair Value)) → is_le (path_cmp e.0 k) ≡ true → AreUpTo k es → AreUpTo k (with_one e es)
upto_with k e es le h = go (joined_at e.0 (lookup (is_at (path_cmp e.0)) es) e.1) es h
  where
    by_case : (v : Value) (x : Pair Value) (xs : List (Pair Value)) (o : Ordering) → AreUpTo k (x ∷ xs) → AreUpTo k (put path_cmp e.0 v xs)
        → AreUpTo k (by_order o ((e.0, v) ∷ x ∷ xs) ((x.0, v) ∷ xs) (x ∷ put path_cmp e.0 v xs))
    by_case v x xs Less g r = (le, g)
    by_case v x xs Equal g r = g
    by_case v x xs Greater g r = (g.0, r)

    go : (v : Value) (xs : List (Pair Value)) → AreUpTo k xs → AreUpTo k (put path_cmp e.0 v xs)
    go v [] g = (le, tt)
    go v (x ∷ xs) g = by_case v x xs (path_cmp e.0 x.0) g (go v xs g.1)

pub none_sorted : (made : List (Pair Value)) → made ≡ [] → IsStrictlySortedBy path_cmp (keys_of made)
none_sorted made h = ascends made (subst (λ (xs : List (Pair Value)). Rises xs) (sym h) tt)

all_upto : (item : Pair Value) (g new : List (Pair Value)) → AllByRecursion (λ r. AreUpTo r.0 g) new → AllByRecursion (λ r. is_le (path_cmp item.0 r.0) ≡ true) new
    → AllByRecursion (λ r. AreUpTo r.0 (with_one item g)) new
all_upto item g [] a b = tt
all_upto item g (r ∷ new) a b = (upto_with r.0 item g b.0 a.0, all_upto item g new a.1 b.1)

abbrev pub IsWay : List (Pair Value) → List (Pair Value) → List (Pair Value) → Type 0
IsWay items g rest = (grown g rest ≡ grown [] items) × AllByRecursion (λ r. AreUpTo r.0 g) rest × Climbs rest

pub way_on : (items g more rest new : List (Pair Value)) (item : Pair Value) → IsWay items g rest → rest ≡ item ∷ new → more ≡ with_one item g → IsWay items more new
way_on items g more rest new item way e f =
    let at = subst (λ (xs : List (Pair Value)). IsWay items g xs) e way
    in (
      ap (λ (xs : List (Pair Value)). grown xs new) f ∙ at.0,
      subst (λ (xs : List (Pair Value)). AllByRecursion (λ r. AreUpTo r.0 xs) new) (sym f) (all_upto item g new at.1.1 at.2.0),
      at.2.1,
    )

pub way_end : (items g rest : List (Pair Value)) → IsWay items g rest → rest ≡ [] → g ≡ grown [] items
way_end items g rest way e = ap (λ (xs : List (Pair Value)). grown g xs) (sym e) ∙ way.0

pub nothing_left : {X : Type 0} (xs : List X) → length xs ≡ 0 → xs ≡ []
nothing_left [] h = refl
nothing_left (x ∷ xs) h = absurd (omega (arith, h))
