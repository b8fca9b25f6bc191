-- Where a text is cut in two at a mark, it is cut in one way.
use Rattle.std.proofs.Common.{◌≡◌, ◌<◌, ◌∙◌, sym, ap, refl, ℕ, List, ◌∷◌, length, ◌++◌, true, false, eqb, get_or, drop, arith, length-append}
use Rattle.std.specs.Prelude.{All}
use Rattle.std.specs.List.{slice_split}
use Rattle.std.proofs.lemmas.Bool.{false≢true}
use Rattle.std.proofs.lemmas.Bool.Decides.{nat_tests}
use Rattle.std.proofs.lemmas.List.{get_or_at, append_cancel_left}
use Rattle.std.proofs.lemmas.List.Splits.{slice_split_at}
use Rattle.cfg_values.specs.Cut.{IsCut}

eqb_same : (n : ℕ) → eqb n n ≡ true
eqb_same n = grind (arith, nat_tests)

-- bytes without the mark are not cut at it
pub not_cut : (mark : ℕ) (bytes before after : List ℕ) → All (λ b. eqb b mark ≡ false) bytes → bytes ≡ before ++ mark ∷ after → ⊥
not_cut mark bytes before after none joined =
    let within : length before < length bytes = omega (arith, ap length joined, length-append before (mark ∷ after)) in
    let here : get_or bytes (length before) 0 ≡ mark =
    ap (λ bs. get_or bs (length before) 0) joined ∙ get_or_at before mark after 0 (length before) refl in
    false≢true (sym (none (length before) 0 within) ∙ ap (λ b. eqb b mark) here ∙ eqb_same mark)

-- what stands before the mark is determined
pub IsCut-before : (mark : ℕ) (bytes before after front back : List ℕ) → IsCut mark bytes before after → IsCut mark bytes front back → before ≡ front
IsCut-before mark bytes before after front back one other =
    let split_one = ap (slice_split (λ b. eqb b mark)) one.joined ∙ slice_split_at (λ b. eqb b mark) before mark after one.first (eqb_same mark) in
    let split_other = ap (slice_split (λ b. eqb b mark)) other.joined ∙ slice_split_at (λ b. eqb b mark) front mark back other.first (eqb_same mark) in
    ap (λ parts. get_or parts 0 before) (sym split_one ∙ split_other)

-- and what stands after it
pub IsCut-after : (mark : ℕ) (bytes before after front back : List ℕ) → IsCut mark bytes before after → IsCut mark bytes front back → after ≡ back
IsCut-after mark bytes before after front back one other =
    let same = IsCut-before mark bytes before after front back one other in
    let joined = sym one.joined ∙ other.joined ∙ ap (λ part. part ++ mark ∷ back) (sym same) in
    ap (λ bs. drop 1 bs) (append_cancel_left before (mark ∷ after) (mark ∷ back) joined)
