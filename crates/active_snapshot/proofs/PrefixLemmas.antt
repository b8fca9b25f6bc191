-- Beginnings of one list.
use Rattle.std.proofs.Common.{◌≡◌, ◌≤◌, List, [], ◌∷◌, length, refl, arith}
use mathlib.Core.List.{IsPrefix}

-- of two beginnings of one list the shorter begins the longer
pub IsPrefix-shorter : {A : Type 0} (xs ys zs : List A) → IsPrefix xs zs → IsPrefix ys zs → length xs ≤ length ys → IsPrefix xs ys
IsPrefix-shorter [] ys zs p q le = (ys, refl)
IsPrefix-shorter (x ∷ xs) [] zs p q le = absurd (omega arith)
IsPrefix-shorter (x ∷ xs) (y ∷ ys) [] p q le = absurd (cc p.1)
IsPrefix-shorter (x ∷ xs) (y ∷ ys) (z ∷ zs) p q le =
    let heads : x ≡ y = cc (p.1, q.1) in
    let rest = IsPrefix-shorter xs ys zs (p.0, cc p.1) (q.0, cc q.1) (omega arith) in
    (rest.0, cc (heads, rest.1))

-- a beginning that is as long is the whole list
pub IsPrefix-whole : {A : Type 0} (xs ys : List A) → IsPrefix xs ys → length ys ≤ length xs → xs ≡ ys
IsPrefix-whole [] [] p le = refl
IsPrefix-whole [] (y ∷ ys) p le = absurd (omega arith)
IsPrefix-whole (x ∷ xs) [] p le = absurd (cc p.1)
IsPrefix-whole (x ∷ xs) (y ∷ ys) p le =
    let heads : x ≡ y = cc p.1 in
    let rest = IsPrefix-whole xs ys (p.0, cc p.1) (omega arith) in
    cc (heads, rest)
