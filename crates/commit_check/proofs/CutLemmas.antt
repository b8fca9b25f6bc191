-- A text that is cut at its first mark.
use Rattle.std.proofs.Common.{◌≡◌, ℕ, ◌<◌, ◌+◌, true, false, List, [], ◌∷◌, ◌++◌, length, drop, refl, sym, ap, ◌∙◌, arith, eqb, get_or, append_assoc, length-append}
use Rattle.std.specs.Prelude.{All}
use Rattle.std.specs.List.{before_first, after_first, position_or_len}
use Rattle.std.proofs.lemmas.Bool.{eqb-true}
use Rattle.std.proofs.lemmas.Bool.Decides.{nat_tests}
use Rattle.std.proofs.lemmas.List.{take_at, drop_at, get_or_at, get_or_append_left, length-drop}
use Rattle.std.proofs.lemmas.List.Elements.{All-get_or}
use Rattle.std.proofs.lemmas.List.Sums.{position_or_len_is, passes_at_first, split_at_first}

eqb_same : (n : ℕ) → eqb n n ≡ true
eqb_same n = grind (arith, nat_tests)

-- where the first mark stands
mark_at : (mark : ℕ) (front back : List ℕ) → All (λ b. eqb b mark ≡ false) front → position_or_len (λ b. eqb b mark) (front ++ mark ∷ back) ≡ length front
mark_at mark front back none =
    position_or_len_is (λ b. eqb b mark) (front ++ mark ∷ back) (length front) 0 (omega (arith, length-append front (mark ∷ back)))
    (λ k small. ap (λ b. eqb b mark) (get_or_append_left front (mark ∷ back) 0 k small) ∙ All-get_or (λ b. eqb b mark ≡ false) front k 0 small none)
    (λ _. ap (λ b. eqb b mark) (get_or_at front mark back 0 (length front) refl) ∙ eqb_same mark)

pub before_mark : (mark : ℕ) (front back : List ℕ) → All (λ b. eqb b mark ≡ false) front → before_first (λ b. eqb b mark) (front ++ mark ∷ back) ≡ front
before_mark mark front back none = take_at front (mark ∷ back) _ (sym (mark_at mark front back none))

pub behind_mark : (mark : ℕ) (front back : List ℕ) → All (λ b. eqb b mark ≡ false) front → after_first (λ b. eqb b mark) (front ++ mark ∷ back) ≡ back
behind_mark mark front back none =
    ap (λ n. drop (n + 1) (front ++ mark ∷ back)) (mark_at mark front back none)
    ∙ ap (λ bs. drop (length front + 1) bs) (sym (append_assoc front (mark ∷ []) back))
    ∙ drop_at (front ++ mark ∷ []) back (length front + 1) (length-append front (mark ∷ []))

-- a text with something after its first mark is cut there
pub cut_there : (mark : ℕ) (text : List ℕ) → 0 < length (after_first (λ b. eqb b mark) text)
    → text ≡ before_first (λ b. eqb b mark) text ++ mark ∷ after_first (λ b. eqb b mark) text
cut_there mark text some =
    let at = position_or_len (λ b. eqb b mark) text in
    let within : at < length text = omega (arith, some, length-drop (at + 1) text) in
    split_at_first (λ b. eqb b mark) text 0 within
    ∙ ap (λ b. before_first (λ x. eqb x mark) text ++ b ∷ after_first (λ x. eqb x mark) text)
    (eqb-true (get_or text at 0) mark (passes_at_first (λ b. eqb b mark) text 0 within))
