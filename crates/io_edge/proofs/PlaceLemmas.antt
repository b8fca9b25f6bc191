-- The bytes from a place on, in a list of pieces.
use Rattle.std.proofs.Common.{◌≡◌, ◌<◌, ◌≤◌, ◌+◌, ◌-◌, ℕ, List, [], ◌++◌, take, drop, length}
use Rattle.std.proofs.Common.{get_or, Some, ap, sym, ◌∙◌, arith, length-drop}
use Rattle.std.proofs.lemmas.List.{take-append-drop, take-append-le, drop-append-le, drop-drop}
use Rattle.std.proofs.lemmas.List.{drop_more}
use Rattle.std.specs.List.{concat}
use Rattle.io_edge.specs.Places.{left_from}

-- some bytes of a list's first part, and the bytes after them
front_part : (x rest : List ℕ) (a c : ℕ) → a + c ≤ length x →
    drop a (x ++ rest) ≡ take c (drop a x) ++ drop (a + c) (x ++ rest)
front_part x rest a c within =
    let a_in : a ≤ length x = omega arith in
    let c_in : c ≤ length (drop a x) = let e : length (drop a x) ≡ length x - a = length-drop a x in omega arith in
    let e : drop a (x ++ rest) ≡ drop a x ++ rest = drop-append-le a x rest a_in in
    let f : take c (drop a (x ++ rest)) ≡ take c (drop a x) = ap (take c) e ∙ take-append-le c (drop a x) rest c_in in
    sym (take-append-drop c (drop a (x ++ rest)))
    ∙ ap (λ y. y ++ drop c (drop a (x ++ rest))) f
    ∙ ap (λ y. take c (drop a x) ++ y) (drop-drop c a (x ++ rest))

-- bytes of the piece at a place, and the bytes after them
pub left_from_part : (pieces : List (List ℕ)) (piece a c : ℕ) → piece < length pieces → a + c ≤ length (get_or pieces piece []) →
    left_from pieces piece a ≡ take c (drop a (get_or pieces piece [])) ++ left_from pieces piece (a + c)
left_from_part pieces piece a c inside within =
    let e : concat (drop piece pieces) ≡ get_or pieces piece [] ++ concat (drop (piece + 1) pieces) =
    ap concat (drop_more pieces piece [] inside) in
    ap (drop a) e
    ∙ front_part (get_or pieces piece []) (concat (drop (piece + 1) pieces)) a c within
    ∙ ap (λ y. take c (drop a (get_or pieces piece [])) ++ drop (a + c) y) (sym e)

-- what a read of some bytes at a place gives
pub read_part : (pieces : List (List ℕ)) (piece a c : ℕ) (left bytes rest into : List ℕ) →
    left_from pieces piece a ≡ left → piece < length pieces → bytes ≡ get_or pieces piece [] →
    a ≤ length bytes → rest ≡ drop a bytes → c ≤ length rest → take c into ≡ take c rest →
    Some left ≡ Some (take c into ++ left_from pieces piece (a + c))
read_part pieces piece a c left bytes rest into is_left inside is_piece a_in is_rest c_in same =
    let r : rest ≡ drop a (get_or pieces piece []) = is_rest ∙ ap (drop a) is_piece in
    let n : length bytes ≡ length (get_or pieces piece []) = ap length is_piece in
    let m : length (drop a bytes) ≡ length bytes - a = length-drop a bytes in
    let k : length rest ≡ length (drop a bytes) = ap length is_rest in
    let within : a + c ≤ length (get_or pieces piece []) = omega arith in
    ap Some
    (sym is_left
    ∙ left_from_part pieces piece a c inside within
    ∙ ap (λ x. x ++ left_from pieces piece (a + c)) (sym (same ∙ ap (take c) r)))
