-- A text that is cut in two at the first of its bytes that is a given one.
use Rattle.std.specs.Prelude.{◌≡◌, ℕ, List, ◌∷◌, ◌++◌, ◌==◌, false, All}

-- what stands before the first mark, and what stands after it
pub record IsCut (mark : ℕ) (bytes before after : List ℕ) : Type 0 where
  pub joined : bytes ≡ before ++ mark ∷ after
  pub first : All (λ b. (b == mark) ≡ false) before
