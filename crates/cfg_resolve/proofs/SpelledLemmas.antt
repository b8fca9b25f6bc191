-- Spellings of a list of words, one word more.
use Rattle.std.proofs.Common.{◌≡◌, ℕ, ◌+◌, ◌<◌, List, [], ◌∷◌, ◌++◌, length, take, get_or, sym, subst}
use Rattle.std.proofs.lemmas.List.{take_more}
use Rattle.cfg_base.specs.declared.kind.Kind.{Kind}
use Rattle.cfg_values.specs.Spelling.{IsCanonicalOf}
use Rattle.cfg_tree.specs.Typed.{AllSpelled}

push_spelled : (kind : Kind) (xs ys : List (List ℕ)) (x y : List ℕ) → AllSpelled kind xs ys → IsCanonicalOf kind x y → AllSpelled kind (xs ++ x ∷ []) (ys ++ y ∷ [])
push_spelled kind [] [] x y h c = (c, tt)
push_spelled kind [] (z ∷ ys) x y h c = elim h [ ]
push_spelled kind (z ∷ xs) [] x y h c = elim h [ ]
push_spelled kind (z ∷ xs) (w ∷ ys) x y h c = (h.0, push_spelled kind xs ys x y h.1 c)

-- the words so far and the next one
pub more_spelled : (kind : Kind) (words : List (List ℕ)) (i : ℕ) (d : List ℕ) (spelled now : List (List ℕ)) (word : List ℕ) → i < length words
    → AllSpelled kind (take i words) spelled → IsCanonicalOf kind (get_or words i d) word → now ≡ spelled ++ word ∷ []
    → AllSpelled kind (take (i + 1) words) now
more_spelled kind words i d spelled now word below h c e =
    subst (λ (ws : List (List ℕ)). AllSpelled kind (take (i + 1) words) ws) (sym e)
    (subst (λ (ws : List (List ℕ)). AllSpelled kind ws (spelled ++ word ∷ [])) (sym (take_more words i d below))
    (push_spelled kind (take i words) spelled (get_or words i d) word h c))
