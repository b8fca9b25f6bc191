-- What stands in a sink after a whole text was to be written.
use Rattle.std.specs.Prelude.{◌≡◌, ℕ, List, ◌++◌, Option, Result, MatchResult}
use Rattle.io_edge.specs.Ends.{held_after}

-- a part of the text, from its beginning, was written after what the sink held
pub record WrotePart (text : List ℕ) (old now : Option (List ℕ)) : Type 0 where
  pub part : List ℕ
  pub rest : List ℕ
  pub whole : text ≡ part ++ rest
  pub behind_old : now ≡ held_after old part

-- Ok: the whole text was written after what the sink held; else a part of it
abbrev pub Wrote : {T E : Type 0} → Result T E → List ℕ → Option (List ℕ) → Option (List ℕ) → Type 0
Wrote result text old now = MatchResult result (λ _. now ≡ held_after old text) (λ _. WrotePart text old now)
