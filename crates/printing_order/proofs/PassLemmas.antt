-- A walk over the statements below a path that goes past what stands in each that it meets.
use Rattle.std.proofs.Common.{◌≡◌, ℕ, zero, suc, ◌+◌, ◌<◌, ◌≤◌, ◌==◌, arith, nat_lt, Bool, true, false, cond, List, [], ◌∷◌, ◌++◌, length, filter, take, drop, get_or, Some, eq-eqb, refl, sym, ap, subst, ◌∙◌, append-nil, append_assoc, length-append}
use Rattle.std.proofs.Math.Seq.{split_at, take-append_seam}
use Rattle.std.proofs.lemmas.Bool.Decides.{nat_tests}
use Rattle.std.proofs.lemmas.Grind.{flat_map-append}
use Rattle.std.proofs.lemmas.List.{length-take-le, take-append-drop}
use Rattle.std.specs.FinMap as map
use Rattle.std.specs.List.{AllByRecursion, flat_map, prefix_len}
use Rattle.cfg_base.specs.declared.path.Step.{Step}
use Rattle.cfg_base.specs.declared.value.Value.{Value}
use Rattle.cfg_entries.specs.EntryMap.{Pair}
use Rattle.cfg_schema.specs.declared.place.Place.{Place}
use Rattle.cfg_schema.specs.Place.{top_place, place_after, and_then, place_of}
use Rattle.cfg_schema.proofs.TestLemmas.{both, both_true}
use Rattle.cfg_tree.specs.Statements.{Statements, last_of, parent_of}
use Rattle.cfg_tree.specs.Children.{is_child, is_inside}
use Rattle.cfg_tree.proofs.PathLemmas.{child_longer, same_ends, split}
use Rattle.cfg_tree.proofs.TypedLemmas.{place_snoc}
use Rattle.printing_order.specs.Inside.{front_inside, statements_inside}
use Rattle.printing_order.proofs.EntriesLemmas.{child_is}

passing : {X : Type 0} (p : X → Bool) (xs : List X) → AllByRecursion (λ x. p x ≡ true) (filter p xs)
passing p [] = tt
passing {X} p (x ∷ xs) = by_test (p x) refl (passing p xs)
  where
    by_test : (b : Bool) → p x ≡ b → AllByRecursion (λ y. p y ≡ true) (filter p xs) → AllByRecursion (λ y. p y ≡ true) (cond b (x ∷ filter p xs) (filter p xs))
    by_test true passes rest = (passes, rest)
    by_test false passes rest = rest

each_at : {X : Type 0} (P : X → Type 0) (xs : List X) (at : ℕ) (x : X) → AllByRecursion P xs → at < length xs → x ≡ get_or xs at x → P x
each_at P [] at x all below is = absurd (omega (arith, below))
each_at P (y ∷ xs) zero x all below is = subst P (sym is) all.0
each_at P (y ∷ xs) (suc at) x all below is = each_at P xs at x all.1 (omega (arith, below)) is

-- a statement of those inside a path is inside it
pub at_inside : (m : Statements) (path : List Step) (inside : List (Pair Value)) (at : ℕ) (e : Pair Value) → inside ≡ statements_inside m path
    → at < length inside → e ≡ get_or inside at e → is_inside path e.0 ≡ true
at_inside m path inside at e are below is =
    each_at (λ (x : Pair Value). is_inside path x.0 ≡ true) inside at e
    (subst (λ (es : List (Pair Value)). AllByRecursion (λ (x : Pair Value). is_inside path x.0 ≡ true) es) (sym are)
    (passing (λ (x : Pair Value). is_inside path x.0) (map.entries m)))
    below is

-- what is inside a path is longer
pub inside_longer : (path k : List Step) → is_inside path k ≡ true → length path + 1 ≤ length k
inside_longer path k inside =
    let longer = (both _ (nat_lt (length path) (length k)) inside).1 in grind (arith, nat_tests, longer)

-- the place of a child is that to which its last step leads
pub placed_child : (path k : List Step) (here : Place) → place_of path ≡ Some here → is_inside path k ≡ true → length k ≡ length path + 1
    → place_of k ≡ place_after here (last_of k)
placed_child path k here placed inside long =
    let child : is_child path k ≡ true = both_true _ _ (both _ _ inside).0 (eq-eqb _ _ long)
    in ap (λ (p : List Step). place_of p) (child_is path k child)
    ∙ place_snoc path (last_of k) top_place
    ∙ ap (and_then (λ (h : Place). place_after h (last_of k))) placed

-- the last step of a path with one step more
last_more : (path : List Step) (step : Step) → last_of (path ++ step ∷ []) ≡ step
last_more path step =
    (same_ends (parent_of (path ++ step ∷ [])) path (last_of (path ++ step ∷ [])) step
    (sym (split (path ++ step ∷ []) (omega (arith, child_longer path step))))).1

-- the same of a path with one step more
pub placed_more : (path : List Step) (step : Step) (here : Place) → place_of path ≡ Some here
    → place_of (path ++ step ∷ []) ≡ place_after here (last_of (path ++ step ∷ []))
placed_more path step here placed =
    place_snoc path step top_place
    ∙ ap (and_then (λ (h : Place). place_after h step)) placed
    ∙ ap (λ (s : Step). place_after here s) (sym (last_more path step))

module _ {X : Type 0} (each : Pair Value → List X) (count : ℕ) (nothing : (x : Pair Value) → (length x.0 == count) ≡ false → each x ≡ []) where
  deeper_none : (n : ℕ) → count ≤ n → (es : List (Pair Value)) → flat_map each (take (prefix_len (λ y. nat_lt n (length y.0)) es) es) ≡ []
  deeper_none n deep [] = refl
  deeper_none n deep (x ∷ es) = by_test (nat_lt n (length x.0)) refl (deeper_none n deep es)
    where
      by_test : (b : Bool) → nat_lt n (length x.0) ≡ b → flat_map each (take (prefix_len (λ y. nat_lt n (length y.0)) es) es) ≡ []
          → flat_map each (take (cond b (1 + prefix_len (λ y. nat_lt n (length y.0)) es) 0) (x ∷ es)) ≡ []
      by_test true longer rest =
          let other : (length x.0 == count) ≡ false = grind (arith, nat_tests, deep, longer)
          in let more : 1 + prefix_len (λ y. nat_lt n (length y.0)) es ≡ suc (prefix_len (λ y. nat_lt n (length y.0)) es) = omega arith
          in ap (λ (k : ℕ). flat_map each (take k (x ∷ es))) more
          ∙ ap (λ (t : List X). t ++ flat_map each (take (prefix_len (λ y. nat_lt n (length y.0)) es) es)) (nothing x other)
          ∙ rest
      by_test false longer rest = refl

  -- of what stands in a statement that is no higher than the children there is no child
  pub within_none : (e : Pair Value) (behind : List (Pair Value)) → count ≤ length e.0 → flat_map each (front_inside e.0 behind) ≡ []
  within_none e behind deep = deeper_none (length e.0) deep behind

  -- what is made up to a statement, and of it, is made up to what follows all that stands in it
  pub past_within : (begun old new : List X) (inside behind within : List (Pair Value)) (at : ℕ) (e : Pair Value)
      → old ≡ begun ++ flat_map each (take at inside) → new ≡ old ++ each e
      → at < length inside → e ≡ get_or inside at e → behind ≡ drop (at + 1) inside → within ≡ front_inside e.0 behind → count ≤ length e.0
      → new ≡ begun ++ flat_map each (take (at + (1 + length within)) inside)
  past_within begun old new inside behind within at e told more below is rest are deep =
      more
      ∙ ap (λ (xs : List X). xs ++ each e) told
      ∙ append_assoc begun (flat_map each (take at inside)) (each e)
      ∙ ap (λ (xs : List X). begun ++ (flat_map each (take at inside) ++ xs)) last
      ∙ ap (λ (xs : List X). begun ++ xs) (sym (flat_map-append each (take at inside) (e ∷ within)))
      ∙ ap (λ (es : List (Pair Value)). begun ++ flat_map each es) front
    where
      last : each e ≡ each e ++ flat_map each within
      last =
          sym (append-nil (each e))
          ∙ ap (λ (xs : List X). each e ++ xs) (sym (ap (λ (es : List (Pair Value)). flat_map each es) are ∙ within_none e behind deep))

      next : suc at ≡ at + 1
      next = omega arith

      within_some : (n : ℕ) → within ≡ take n behind → behind ≡ within ++ drop n behind
      within_some n h = sym (take-append-drop n behind) ∙ ap (λ (es : List (Pair Value)). es ++ drop n behind) (sym h)

      left : List (Pair Value)
      left = drop (prefix_len (λ y. nat_lt (length e.0) (length y.0)) behind) behind

      whole : inside ≡ (take at inside ++ e ∷ within) ++ left
      whole =
          split_at inside at e below
          ∙ ap (λ (x : Pair Value). take at inside ++ x ∷ drop (suc at) inside) (sym is)
          ∙ ap (λ (n : ℕ). take at inside ++ e ∷ drop n inside) next
          ∙ ap (λ (es : List (Pair Value)). take at inside ++ e ∷ es) (sym rest ∙ within_some _ are)
          ∙ sym (append_assoc (take at inside) (e ∷ within) left)

      long : length (take at inside ++ e ∷ within) ≡ at + (1 + length within)
      long = omega (arith, length-append (take at inside) (e ∷ within), length-take-le at inside (omega (arith, below)))

      front : take at inside ++ e ∷ within ≡ take (at + (1 + length within)) inside
      front =
          sym (take-append_seam (take at inside ++ e ∷ within) left)
          ∙ ap (λ (n : ℕ). take n ((take at inside ++ e ∷ within) ++ left)) long
          ∙ ap (λ (es : List (Pair Value)). take (at + (1 + length within)) es) (sym whole)
