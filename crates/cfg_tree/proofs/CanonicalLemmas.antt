-- Canonical words, read one after the other.
use Rattle.std.proofs.Common.{◌≡◌, Bool, true, ℕ, List, ◌∷◌, sym, subst}
use Rattle.std.specs.Bool.{Decides}
use Rattle.std.proofs.lemmas.List.Elements.{All-cons, All-tail}
use Rattle.cfg_base.specs.declared.kind.Kind.{Kind}
use Rattle.cfg_values.specs.Spelling.{IsCanonical}
use Rattle.cfg_tree.specs.Typed.{AreCanonical}

-- one more word is canonical
pub canonical_more : (kind : Kind) (words left rest : List (List ℕ)) (word bytes : List ℕ) (b : Bool) → bytes ≡ word → Decides b (IsCanonical kind bytes) → b ≡ true
    → left ≡ word ∷ rest → (AreCanonical kind left → AreCanonical kind words) × (AreCanonical kind words → AreCanonical kind left)
    → (AreCanonical kind rest → AreCanonical kind words) × (AreCanonical kind words → AreCanonical kind rest)
canonical_more kind words left rest word bytes b e d h is (there, back) = (
  λ r. there (subst (AreCanonical kind) (sym is) (All-cons (IsCanonical kind) word rest (subst (IsCanonical kind) e (d.0 h)) r)),
  λ all. All-tail (IsCanonical kind) word rest (subst (AreCanonical kind) is (back all)),
)
