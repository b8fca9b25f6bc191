-- Bytes before and after what is told, once and twice.
use Rattle.std.proofs.Common.{◌≡◌, ℕ, List, ◌++◌, refl, ap, sym, append_assoc, Option, None}
use Rattle.std.proofs.Common.{Some}
use Rattle.io_edge.specs.Ends.{onto, held_after}

-- bytes before bytes before what is told
pub onto-onto : (a b : List ℕ) (told : Option (List ℕ)) → onto a (onto b told) ≡ onto (a ++ b) told
onto-onto a b None = refl
onto-onto a b (Some left) = ap Some (sym (append_assoc a b left))

-- bytes after bytes after what is told
pub behind-behind : (told : Option (List ℕ)) (a b : List ℕ) → held_after (held_after told a) b ≡ held_after told (a ++ b)
behind-behind None a b = refl
behind-behind (Some held) a b = ap Some (append_assoc held a b)
