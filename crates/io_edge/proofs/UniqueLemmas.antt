-- A reader whose source doesn't fail has one answer, and leaves one rest.
use Rattle.std.proofs.Common.{◌≡◌, ◌<◌, ◌+◌, ℕ, List, [], ◌∷◌, ◌++◌, drop, length}
use Rattle.std.proofs.Common.{get_or, refl, ap, sym, ◌∙◌, inl, inr, arith}
use Rattle.std.proofs.lemmas.List.{get_or_append_left, get_or_at, drop_at}
use Rattle.std.proofs.lemmas.Bool.{cases_order}
use Rattle.io_edge.specs.declared.lines.Line.{Line}
use Rattle.io_edge.specs.Line.{HasNoLf, IsLastLine}

-- an answer, what it leaves and the room that it leaves are those of another
pub record IsSame (a b : Line) (left left' : List ℕ) (room room' : ℕ) : Type 0 where
  pub answers : a ≡ b
  pub lefts : left ≡ left'
  pub rooms : room ≡ room'

-- an LF stands in no part without one
no_lf_inside : (p s q t : List ℕ) → p ++ 10 ∷ s ≡ q ++ t → HasNoLf q → length p < length q → ⊥
no_lf_inside p s q t same no_lf inside =
    no_lf (length p) 0 inside
    (sym (get_or_append_left q t 0 (length p) inside)
    ∙ sym (ap (λ xs. get_or xs (length p) 0) same)
    ∙ get_or_at p 10 s 0 (length p) refl)

-- so is what follows them
same_rest : (p s q t : List ℕ) → p ++ s ≡ q ++ t → length p ≡ length q → s ≡ t
same_rest p s q t same long =
    sym (drop_at p s (length q) long) ∙ ap (drop (length q)) same ∙ drop_at q t (length q) refl

-- two lines that an LF ends are as long
same_length : (p s q t : List ℕ) → p ++ 10 ∷ s ≡ q ++ 10 ∷ t → HasNoLf p → HasNoLf q → length p ≡ length q
same_length p s q t same p_no q_no = elim (cases_order (length p) (length q)) [
  | inl equal ↦ equal
  | inr (inl less) ↦ absurd (no_lf_inside p s q (10 ∷ t) same q_no less)
  | inr (inr more) ↦ absurd (no_lf_inside q t p (10 ∷ s) (sym same) p_no more)
]

module _ (old : List ℕ) (room : ℕ) where
  last_none : (a : Line) (left : List ℕ) (room' : ℕ) → IsLastLine a old room left room' → old ≡ [] → ⊥
  last_none a left room' x none =
      let m : length old ≡ length x.line = ap length x.bytes in
      let k : length old ≡ 0 = ap length none in
      let s : 0 < length x.line = x.some in
      omega arith
