-- How a text is cut into lines.
use Rattle.std.proofs.Common.{◌≡◌, ◌<◌, ◌+◌, ◌-◌, suc, ℕ, Bool, true, false, cond, eqb, ◌&&◌, List, [], ◌∷◌, ◌++◌, length, take, drop, get_or, refl, sym, ap, ◌∙◌, subst, arith, length-append}
use Rattle.std.specs.List.{list_all, prefix_len}
use Rattle.std.proofs.lemmas.Bool.{and_parts, not-true}
use Rattle.std.proofs.lemmas.Bool.Decides.{nat_tests}
use Rattle.std.proofs.lemmas.List.{append-nil, take_at, take_all, drop_at, drop_more, length-drop}
use Rattle.cfg_base.specs.Bytes.{without_last_cr}
use Rattle.cfg_lex.specs.Bytes.{begins_with, is_in_line}
use Rattle.cfg_lex.proofs.RunLemmas.{IsLongest, longest}
use Rattle.set_text.specs.Lines.{in_first, with_byte, lines_in}

in_line : (b : ℕ) (bytes : List ℕ) → list_all is_in_line (b ∷ bytes) ≡ true → (eqb b 10 ≡ false) × (list_all is_in_line bytes ≡ true)
in_line b bytes each =
    let parts = and_parts (is_in_line b) (list_all is_in_line bytes) each in
    (not-true (eqb b 10) parts.0, parts.1)

-- a byte that is no LF before what doesn't begin with one
in_front : (b : ℕ) (rest : List ℕ) (lines : List (List ℕ)) → eqb b 10 ≡ false → begins_with 10 rest ≡ false → with_byte b rest lines ≡ in_first b lines
in_front b rest lines no_lf next =
    ap (λ t. cond t ([] ∷ lines) (cond (eqb b 13 && begins_with 10 rest) lines (in_first b lines))) no_lf
    ∙ ap (λ t. cond (eqb b 13 && t) lines (in_first b lines)) next
    ∙ by_and (eqb b 13) lines (in_first b lines)
  where
    by_and : (t : Bool) (xs ys : List (List ℕ)) → cond (t && false) xs ys ≡ ys
    by_and true xs ys = refl
    by_and false xs ys = refl

-- bytes without an LF are one line
pub one_line : (line : List ℕ) → list_all is_in_line line ≡ true → 0 < length line → lines_in line ≡ line ∷ []
one_line [] each some = absurd (omega (arith, some))
one_line (b ∷ []) each some = in_front b [] [] (in_line b [] each).0 refl
one_line (b ∷ c ∷ bytes) each some =
    let here = in_line b (c ∷ bytes) each in
    let next = in_line c bytes here.1 in
    in_front b (c ∷ bytes) (lines_in (c ∷ bytes)) here.0 next.0
    ∙ ap (in_first b) (one_line (c ∷ bytes) here.1 (omega arith))

pub without_cr_more : (b c : ℕ) (bytes : List ℕ) → without_last_cr (b ∷ c ∷ bytes) ≡ b ∷ without_last_cr (c ∷ bytes)
without_cr_more b c bytes =
    let long : length (b ∷ c ∷ bytes) - 1 ≡ suc (length bytes) = omega arith in
    let short : length (c ∷ bytes) - 1 ≡ length bytes = omega arith in
    ap (λ n. cond (eqb (get_or (b ∷ c ∷ bytes) n 0) 13) (take n (b ∷ c ∷ bytes)) (b ∷ c ∷ bytes)) long
    ∙ by_case (eqb (get_or (c ∷ bytes) (length bytes) 0) 13) (take (length bytes) (c ∷ bytes)) (c ∷ bytes)
    ∙ ap (λ n. b ∷ cond (eqb (get_or (c ∷ bytes) n 0) 13) (take n (c ∷ bytes)) (c ∷ bytes)) (sym short)
  where
    by_case : (t : Bool) (xs ys : List ℕ) → cond t (b ∷ xs) (b ∷ ys) ≡ b ∷ cond t xs ys
    by_case true xs ys = refl
    by_case false xs ys = refl

-- one byte before an LF
single : (b : ℕ) (rest : List ℕ) (lines : List (List ℕ)) → eqb b 10 ≡ false → with_byte b (10 ∷ rest) ([] ∷ lines) ≡ without_last_cr (b ∷ []) ∷ lines
single b rest lines no_lf =
    ap (λ t. cond t ([] ∷ [] ∷ lines) (cond (eqb b 13 && true) ([] ∷ lines) ((b ∷ []) ∷ lines))) no_lf
    ∙ by_case (eqb b 13)
  where
    by_case : (t : Bool) → cond (t && true) ([] ∷ lines) ((b ∷ []) ∷ lines) ≡ cond t [] (b ∷ []) ∷ lines
    by_case true = refl
    by_case false = refl

-- bytes without an LF before one are a line, but for a CR at their end
pub line_ended : (line rest : List ℕ) → list_all is_in_line line ≡ true → lines_in (line ++ 10 ∷ rest) ≡ without_last_cr line ∷ lines_in rest
line_ended [] rest each = refl
line_ended (b ∷ []) rest each = single b rest (lines_in rest) (in_line b [] each).0
line_ended (b ∷ c ∷ bytes) rest each =
    let here = in_line b (c ∷ bytes) each in
    let next = in_line c bytes here.1 in
    in_front b (c ∷ bytes ++ 10 ∷ rest) (lines_in (c ∷ bytes ++ 10 ∷ rest)) here.0 next.0
    ∙ ap (in_first b) (line_ended (c ∷ bytes) rest here.1)
    ∙ ap (λ line. line ∷ lines_in rest) (sym (without_cr_more b c bytes))

nothing_of : (bytes : List ℕ) → length bytes ≡ 0 → bytes ≡ []
nothing_of [] none = refl
nothing_of (b ∷ bytes) none = absurd (omega (arith, none))

-- a text without an LF
pub last_line : (text : List ℕ) → prefix_len is_in_line text ≡ length text → 0 < length text → lines_in text ≡ text ∷ []
last_line text all some =
    let it = longest is_in_line text in
    let none : it.back ≡ [] = nothing_of it.back (omega (arith, it.size, all, ap length it.joined, length-append it.front it.back)) in
    let whole : text ≡ it.front = it.joined ∙ ap (λ bytes. it.front ++ bytes) none ∙ append-nil it.front in
    one_line text (subst (λ bytes. list_all is_in_line bytes ≡ true) (sym whole) it.each) some

is_lf : (b : ℕ) → is_in_line b ≡ false → b ≡ 10
is_lf b stops = grind (arith, nat_tests)

ended : (bytes : List ℕ) (count : ℕ) → IsLongest is_in_line bytes count → count < length bytes → lines_in bytes ≡ without_last_cr (take count bytes) ∷ lines_in (take (length bytes - (count + 1)) (drop (count + 1) bytes))
ended bytes count it within =
    let behind : it.back ≡ get_or bytes count 0 ∷ drop (count + 1) bytes =
    sym (drop_at it.front it.back count it.size) ∙ ap (drop count) (sym it.joined) ∙ drop_more bytes count 0 within in
    let lf : get_or bytes count 0 ≡ 10 = is_lf (get_or bytes count 0) (it.stops (get_or bytes count 0) (drop (count + 1) bytes) behind) in
    let front : it.front ≡ take count bytes = sym (take_at it.front it.back count it.size) ∙ ap (take count) (sym it.joined) in
    let rest : take (length bytes - (count + 1)) (drop (count + 1) bytes) ≡ drop (count + 1) bytes =
    take_all (length bytes - (count + 1)) (drop (count + 1) bytes) (omega (arith, length-drop (count + 1) bytes)) in
    ap lines_in (it.joined ∙ ap (λ bs. it.front ++ bs) (behind ∙ ap (λ b. b ∷ drop (count + 1) bytes) lf))
    ∙ line_ended it.front (drop (count + 1) bytes) it.each
    ∙ ap (λ line. without_last_cr line ∷ lines_in (drop (count + 1) bytes)) front
    ∙ ap (λ bs. without_last_cr (take count bytes) ∷ lines_in bs) (sym rest)

-- a text with an LF: the line that it ends, and what stands after it
pub ended_line : (text : List ℕ) (count : ℕ) (line : List ℕ) → prefix_len is_in_line text ≡ count → count < length text → line ≡ without_last_cr (take count text) → lines_in text ≡ line ∷ lines_in (take (length text - (count + 1)) (drop (count + 1) text))
ended_line text count line is within trimmed =
    ended text count (subst (IsLongest is_in_line text) is (longest is_in_line text)) within
    ∙ ap (λ l. l ∷ lines_in (take (length text - (count + 1)) (drop (count + 1) text))) (sym trimmed)
