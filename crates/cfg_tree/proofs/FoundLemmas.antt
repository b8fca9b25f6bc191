-- A look-up of a key of a map's entries gives what stands there.
use Rattle.std.proofs.Common.{◌≡◌, Bool, true, false, cond, T, ◌&&◌, List, [], ◌∷◌, Some, refl, sym, ap, ◌∙◌}
use Rattle.std.specs.FinMap as finite
use Rattle.std.specs.FinMap.Entries.{find, is_sorted, below_all}
use Rattle.std.specs.Map.{keys_of}
use Rattle.std.specs.Ordering.{is_eq, is_lt}
use Rattle.std.specs.List.{AllByRecursion}
use Rattle.std.specs.declared.cmp.Ordering.{Ordering}
use Rattle.std.specs.declared.cmp.Ordering.TheVariants.{Less, Equal, Greater}
use Rattle.cfg_base.specs.Order.{path_cmp}
use Rattle.cfg_base.specs.declared.path.Step.{Step}
use Rattle.cfg_entries.specs.EntryMap.{Pair}
use Rattle.cfg_tree.proofs.MapLemmas.{same_path}

pub head_of : (a b : Bool) → T (a && b) → T a
head_of true b h = tt
head_of false b h = h

pub tail_of : (a b : Bool) → T (a && b) → T b
tail_of true b h = h
tail_of false b h = absurd h

less : (o : Ordering) → T (is_lt o) → o ≡ Less
less Less h = refl
less Equal h = absurd h
less Greater h = absurd h

-- a path isn't at one that is before it
not_at : (k j : List Step) → path_cmp k j ≡ Less → is_eq (path_cmp j k) ≡ false
not_at k j before = by_test (is_eq (path_cmp j k)) refl
  where
    by_test : (b : Bool) → is_eq (path_cmp j k) ≡ b → b ≡ false
    by_test true same =
        let is = (same_path j k).0 same
        in let less = ap (path_cmp k) (sym is) ∙ before
        in let at = (same_path k k).1 refl
        in let clash = sym at ∙ ap is_eq less
        in cc
    by_test false other = refl

module _ {V : Type 0} where
  pub later : (k : List Step) (es : List (Pair V)) → T (below_all path_cmp k es) → AllByRecursion (λ j. path_cmp k j ≡ Less) (keys_of es)
  later k [] h = tt
  later k (e ∷ es) h = (less (path_cmp k e.0) (head_of _ _ h), later k es (tail_of _ _ h))

  -- each of these entries is found among those
  abbrev AreFound : List (Pair V) → List (Pair V) → Type 0
  AreFound es xs = AllByRecursion (λ x. find path_cmp x.0 es ≡ Some x.1) xs

  found_more : (e : Pair V) (es xs : List (Pair V)) → AllByRecursion (λ j. path_cmp e.0 j ≡ Less) (keys_of xs) → AreFound es xs → AreFound (e ∷ es) xs
  found_more e es [] behind found = tt
  found_more e es (x ∷ xs) behind found =
      (ap (λ (b : Bool). cond b (Some e.1) (find path_cmp x.0 es)) (not_at e.0 x.0 behind.0) ∙ found.0, found_more e es xs behind.1 found.1)

  found_in : (es : List (Pair V)) → T (is_sorted path_cmp es) → AreFound es es
  found_in [] sorted = tt
  found_in (e ∷ es) sorted = (
    ap (λ (b : Bool). cond b (Some e.1) (find path_cmp e.0 es)) ((same_path e.0 e.0).1 refl),
    found_more e es es (later e.0 es (head_of _ _ sorted)) (found_in es (tail_of _ _ sorted)),
  )

  -- a look-up gives of each entry what is given there
  pub found_all : (full : finite.FinMap path_cmp V) → AllByRecursion (λ x. finite.get full x.0 ≡ Some x.1) (finite.entries full)
  found_all full = told (finite.entries full) (found_in (finite.entries full) (finite.entries_sorted full))
    where
      told : (xs : List (Pair V)) → AreFound (finite.entries full) xs → AllByRecursion (λ x. finite.get full x.0 ≡ Some x.1) xs
      told [] found = tt
      told (x ∷ xs) found = (finite.get-entries full x.0 ∙ found.0, told xs found.1)
