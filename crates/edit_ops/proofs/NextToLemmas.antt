-- Names of which one is put next to another: they are the same names, and still differ.
use Rattle.std.proofs.Common.{◌≡◌, ℕ, Bool, true, false, not, ◌&&◌, ◌||◌, List, [], ◌∷◌, ◌++◌, refl, sym, ap, subst, ◌∙◌, if◌then◌else◌}
use Rattle.std.specs.List.{IsDistinct, AllByRecursion}
use Rattle.std.proofs.lemmas.Map.Keys.{IsDistinct-head, IsDistinct-tail, IsDistinct-cons}
use Rattle.cfg_base.proofs.WordLemmas.{lists-append}
use Rattle.cfg_schema.specs.Profile.{same_word}
use Rattle.cfg_schema.proofs.TestLemmas.{same, same_is, neither}
use Rattle.cfg_tree.specs.Tree.{lists}
use Rattle.cfg_tree.specs.Change.{without}
use Rattle.cfg_tree.proofs.InPlaceLemmas.{word_or_not, turned, all_unlisted}
use Rattle.cfg_tree.proofs.RemoveLemmas.{lists-without, distinct-without}
use Rattle.edit_ops.specs.Change.{beside, with_beside, moved_beside}

module _ (before : Bool) (name anchor : List ℕ) where
  at_anchor : (x : List ℕ) → anchor ≡ x → (if same_word anchor x then beside before name anchor else x ∷ []) ≡ beside before name anchor
  at_anchor x e = ap (λ (t : Bool). if t then beside before name anchor else x ∷ []) (same_is anchor x e)

  elsewhere : (x : List ℕ) → same_word anchor x ≡ false → (if same_word anchor x then beside before name anchor else x ∷ []) ≡ x ∷ []
  elsewhere x e = ap (λ (t : Bool). if t then beside before name anchor else x ∷ []) e

  lists-beside : (b : Bool) (w : List ℕ) → lists (beside b name anchor) w ≡ (same_word w name || same_word w anchor)
  lists-beside true w = or_end (same_word w name) (same_word w anchor)
    where
      or_end : (a c : Bool) → (a || (c || false)) ≡ (a || c)
      or_end true c = refl
      or_end false true = refl
      or_end false false = refl
  lists-beside false w = turned_end (same_word w anchor) (same_word w name)
    where
      turned_end : (a c : Bool) → (a || (c || false)) ≡ (c || a)
      turned_end true true = refl
      turned_end true false = refl
      turned_end false true = refl
      turned_end false false = refl

  any_anchor : (s a l k : Bool) → ((s || a) || (l || (k && s))) ≡ ((a || l) || (true && s))
  any_anchor true true l k = refl
  any_anchor true false true k = refl
  any_anchor true false false k = refl
  any_anchor false true l k = refl
  any_anchor false false true k = refl
  any_anchor false false false true = refl
  any_anchor false false false false = refl

  no_anchor : (w l k s : Bool) → ((w || false) || (l || (k && s))) ≡ ((w || l) || (k && s))
  no_anchor true l k s = refl
  no_anchor false l k s = refl

  -- which names are listed, where the anchor is
  lists-with : (names : List (List ℕ)) (w : List ℕ) → lists (with_beside before name anchor names) w ≡ (lists names w || (lists names anchor && same_word w name))
  lists-with [] w = refl
  lists-with (x ∷ names) w =
      lists-append (if same_word anchor x then beside before name anchor else x ∷ []) (with_beside before name anchor names) w
      ∙ ap (λ (t : Bool). lists (if same_word anchor x then beside before name anchor else x ∷ []) w || t) (lists-with names w)
      ∙ word_or_not anchor x _
      (λ e.
      ap (λ (ys : List (List ℕ)). lists ys w || (lists names w || (lists names anchor && same_word w name))) (at_anchor x e)
      ∙ ap (λ (t : Bool). t || (lists names w || (lists names anchor && same_word w name))) (lists-beside before w)
      ∙ any_anchor (same_word w name) (same_word w anchor) (lists names w) (lists names anchor)
      ∙ ap (λ (y : List ℕ). (same_word w y || lists names w) || (true && same_word w name)) e
      ∙ ap (λ (t : Bool). (same_word w x || lists names w) || ((t || lists names anchor) && same_word w name)) (sym (same_is anchor x e)))
      (λ e.
      ap (λ (ys : List (List ℕ)). lists ys w || (lists names w || (lists names anchor && same_word w name))) (elsewhere x e)
      ∙ no_anchor (same_word w x) (lists names w) (lists names anchor) (same_word w name)
      ∙ ap (λ (t : Bool). (same_word w x || lists names w) || ((t || lists names anchor) && same_word w name)) (sym e))

  -- without the anchor nothing is put
  none_beside : (names : List (List ℕ)) → AllByRecursion (λ y. same_word anchor y ≡ false) names → with_beside before name anchor names ≡ names
  none_beside [] h = refl
  none_beside (x ∷ names) h =
      ap (λ (ys : List (List ℕ)). ys ++ with_beside before name anchor names) (elsewhere x h.0)
      ∙ ap (λ (ys : List (List ℕ)). x ∷ ys) (none_beside names h.1)

  all_beside : (x : List ℕ) (names : List (List ℕ)) → same_word x name ≡ false → AllByRecursion (λ y. same_word x y ≡ false) names
      → AllByRecursion (λ y. same_word x y ≡ false) (with_beside before name anchor names)
  all_beside x [] h k = tt
  all_beside x (y ∷ names) h k =
      word_or_not anchor y _
      (λ e.
      subst (λ (ys : List (List ℕ)). AllByRecursion (λ z. same_word x z ≡ false) (ys ++ with_beside before name anchor names)) (sym (at_anchor y e))
      (both_first before (ap (same_word x) e ∙ k.0) (all_beside x names h k.1)))
      (λ e.
      subst (λ (ys : List (List ℕ)). AllByRecursion (λ z. same_word x z ≡ false) (ys ++ with_beside before name anchor names)) (sym (elsewhere y e))
      (k.0, all_beside x names h k.1))
    where
      both_first : (b : Bool) → same_word x anchor ≡ false → AllByRecursion (λ z. same_word x z ≡ false) (with_beside before name anchor names)
          → AllByRecursion (λ z. same_word x z ≡ false) (beside b name anchor ++ with_beside before name anchor names)
      both_first true a rest = (h, (a, rest))
      both_first false a rest = (a, (h, rest))

  distinct-beside : (b : Bool) (names : List (List ℕ)) → same_word name anchor ≡ false → lists names name ≡ false
      → AllByRecursion (λ y. same_word anchor y ≡ false) names → IsDistinct same_word names → IsDistinct same_word (beside b name anchor ++ names)
  distinct-beside true names differ none apart distinct =
      IsDistinct-cons same_word name (anchor ∷ names) (differ, all_unlisted name names none) (IsDistinct-cons same_word anchor names apart distinct)
  distinct-beside false names differ none apart distinct =
      IsDistinct-cons same_word anchor (name ∷ names) (turned name anchor differ, apart)
      (IsDistinct-cons same_word name names (all_unlisted name names none) distinct)

  distinct-with : (names : List (List ℕ)) → same_word name anchor ≡ false → lists names name ≡ false → IsDistinct same_word names
      → IsDistinct same_word (with_beside before name anchor names)
  distinct-with [] differ none distinct = distinct
  distinct-with (x ∷ names) differ none distinct =
      let parts = neither (same_word name x) (lists names name) none
      in let apart = IsDistinct-head same_word x names distinct
      in let rest = IsDistinct-tail same_word x names distinct
      in word_or_not anchor x _
      (λ e.
      let apart_anchor = subst (λ (y : List ℕ). AllByRecursion (λ z. same_word y z ≡ false) names) (sym e) apart
      in subst (λ (ys : List (List ℕ)). IsDistinct same_word (ys ++ with_beside before name anchor names)) (sym (at_anchor x e))
      (subst (λ (ys : List (List ℕ)). IsDistinct same_word (beside before name anchor ++ ys)) (sym (none_beside names apart_anchor))
      (distinct-beside before names differ parts.1 apart_anchor rest)))
      (λ e.
      subst (λ (ys : List (List ℕ)). IsDistinct same_word (ys ++ with_beside before name anchor names)) (sym (elsewhere x e))
      (IsDistinct-cons same_word x (with_beside before name anchor names) (all_beside x names (turned name x parts.0) apart)
      (distinct-with names differ parts.1 rest)))

  left_is : (l s : Bool) → (s ≡ true → l ≡ true) → ((l && not s) || (true && s)) ≡ l
  left_is true true h = refl
  left_is true false h = refl
  left_is false true h = sym (h refl)
  left_is false false h = refl

  moved_is : same_word name anchor ≡ false → (names : List (List ℕ)) → moved_beside before name anchor names ≡ with_beside before name anchor (without name names)
  moved_is e names = ap (λ (t : Bool). if t then names else with_beside before name anchor (without name names)) e

  stays_is : name ≡ anchor → (names : List (List ℕ)) → moved_beside before name anchor names ≡ names
  stays_is e names = ap (λ (t : Bool). if t then names else with_beside before name anchor (without name names)) (same_is name anchor e)

  -- they are the same names
  pub lists-moved : (names : List (List ℕ)) (w : List ℕ) → lists names name ≡ true → lists names anchor ≡ true
      → lists (moved_beside before name anchor names) w ≡ lists names w
  lists-moved names w has_name has_anchor =
      word_or_not name anchor _
      (λ e. ap (λ (ys : List (List ℕ)). lists ys w) (stays_is e names))
      (λ e.
      ap (λ (ys : List (List ℕ)). lists ys w) (moved_is e names)
      ∙ lists-with (without name names) w
      ∙ ap (λ (t : Bool). t || (lists (without name names) anchor && same_word w name)) (lists-without name names w ∙ ap (λ (t : Bool). lists names w && not t) (flip w))
      ∙ ap (λ (t : Bool). (lists names w && not (same_word w name)) || (t && same_word w name))
      (lists-without name names anchor ∙ ap (λ (t : Bool). t && not (same_word name anchor)) has_anchor ∙ ap (λ (t : Bool). true && not t) e)
      ∙ left_is (lists names w) (same_word w name) (λ s. ap (lists names) (same w name s) ∙ has_name))
    where
      flip : (w : List ℕ) → same_word name w ≡ same_word w name
      flip w = word_or_not name w _ (λ e. same_is name w e ∙ sym (same_is w name (sym e))) (λ e. e ∙ sym (turned name w e))

  -- and differ still
  pub distinct-moved : (names : List (List ℕ)) → IsDistinct same_word names → IsDistinct same_word (moved_beside before name anchor names)
  distinct-moved names distinct =
      word_or_not name anchor _
      (λ e. subst (λ (ys : List (List ℕ)). IsDistinct same_word ys) (sym (stays_is e names)) distinct)
      (λ e. subst (λ (ys : List (List ℕ)). IsDistinct same_word ys) (sym (moved_is e names))
      (distinct-with (without name names) e gone (distinct-without name names distinct)))
    where
      never : (c : Bool) → (c && false) ≡ false
      never true = refl
      never false = refl

      gone : lists (without name names) name ≡ false
      gone =
          lists-without name names name ∙ ap (λ (t : Bool). lists names name && not t) (same_is name name refl) ∙ never (lists names name)
