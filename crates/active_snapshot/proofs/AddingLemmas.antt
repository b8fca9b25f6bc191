-- The exchange that adds a view keeps the book's rule.
use Rattle.std.proofs.Common.{◌≡◌, ℕ, ◌+◌, ◌<◌, ◌==◌, Bool, true, false, List, [], ◌∷◌, ◌++◌, length}
use Rattle.std.proofs.Common.{refl, ap, sym, subst, arith, inl, length-append, None}
use Rattle.std.specs.Prelude.{⊤}
use Rattle.std.proofs.lemmas.List.{append-nil}
use Rattle.std.proofs.lemmas.Bool.Decides.{nat_tests}
use mathlib.Core.List.{IsPrefix}
use prog.Atomic.{either}
use Rattle.logbook.specs.Pages.{Cell, cell, keeps, no_nib, step, View, Moves, Goes}
use Rattle.active_snapshot.specs.Book.{IsKeptIn, Adds}
use Rattle.active_snapshot.proofs.PrefixLemmas.{IsPrefix-whole}

-- what the exchange writes where it finds a number
abbrev pub written : ℕ → ℕ → ℕ
written old n = either (n == old) (old + 1) n

module _ {E : Type 0} where
  abbrev pub shows : List E → List E
  shows list = []

  abbrev pub moves : List E → List E → ℕ → Type 0
  moves before after answer = ⊤

  -- what the exchange reports to whoever has seen a list of that length
  abbrev pub tells : List E → E → ℕ → ℕ → View E ℕ → Type 0
  tells seen e old = Adds (step 0 old (old + 1) e) (seen, (no_nib, None))

  adds_goes : (list seen : List E) (e : E) (old : ℕ) → length seen ≡ old → IsPrefix seen list
      → (found : Bool) → (length list == old) ≡ found
      → Goes IsKeptIn shows moves 0 (seen, (no_nib, None)) (written old) (tells seen e old) ((length list, true) ∷ (0, true) ∷ []) list
  adds_goes list seen e old len pre true is =
      let here : length list ≡ old = grind (arith, nat_tests) in
      let same : seen ≡ list = IsPrefix-whole seen list pre (omega arith) in
      let n : written old (length list) ≡ length (list ++ e ∷ []) = rw is (omega (arith, length-append list (e ∷ []))) in (
        keeps,
        e ∷ [],
        None,
        tt,
        ap (λ (k : ℕ). (k, true) ∷ (0, true) ∷ []) n,
        inl (refl, refl),
        rw is (ap (λ w. w ++ e ∷ []) (sym same)),
      )
  adds_goes list seen e old len pre false is =
      let all : list ++ [] ≡ list = append-nil list in
      let n : written old (length list) ≡ length (list ++ []) = rw is (ap length (sym all)) in (
        keeps,
        [],
        None,
        tt,
        ap (λ (k : ℕ). (k, true) ∷ (0, true) ∷ []) n,
        inl (refl, refl),
        rw is (ap length all),
      )

  pub adds_moves : (seen : List E) (e : E) (old : ℕ) → length seen ≡ old
      → Moves IsKeptIn shows moves 0 (seen, (no_nib, None)) (written old) (tells seen e old)
  adds_moves seen e old len cells list kept pre away =
      let P : List Cell → Type 0 = λ c. (0 < length c) × ((cell c 0).1 ≡ true)
      × Goes IsKeptIn shows moves 0 (seen, (no_nib, None)) (written old) (tells seen e old) c list in
      subst P (sym kept) (omega arith, refl, adds_goes list seen e old len pre (length list == old) refl)
