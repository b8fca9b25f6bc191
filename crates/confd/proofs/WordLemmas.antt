-- Words of a command line.
use Rattle.std.proofs.Common.{◌≡◌, ℕ, ◌<◌, List, ◌∷◌, ◌++◌, length, refl, subst, arith}
use Rattle.std.specs.List.{Any}
use Rattle.std.proofs.lemmas.List.{length-append, get_or_at}

-- a word that is too long stands among all of them
pub long_inside : (words rest all : List (List ℕ)) (word : List ℕ) → words ++ word ∷ rest ≡ all → 255 < length word → Any (λ w. 255 < length w) all
long_inside words rest all word is long =
    subst (Any (λ w. 255 < length w)) is
    (length words, word, omega (arith, length-append words (word ∷ rest)), get_or_at words word rest word (length words) refl, long)
