-- The lines of a source's bytes, one after another.
use Rattle.std.proofs.Common.{◌≡◌, ◌≢◌, ℕ, zero, suc, ◌+◌, ◌<◌, ◌≤◌, ◌==◌, if◌then◌else◌, Bool, true, false, List, [], ◌∷◌, ◌++◌, length, Option, None, Some, refl, sym, ap, subst, ◌∙◌, append_assoc, inl, inr, ◌⊎◌, arith}
use Rattle.std.proofs.lemmas.List.{append-nil, length-append}
use Rattle.std.proofs.lemmas.Bool.{eqb-true}
use Rattle.std.proofs.lemmas.List.Elements.{All-tail}
use Rattle.io_edge.specs.declared.lines.Line.{Line}
use Rattle.io_edge.specs.declared.lines.Line.TheVariants.{End, InputFull}
use Rattle.io_edge.specs.Line.{HasNoLf, IsEndedLine, IsLastLine, IsFull, TellsBoth, ended_line, last_line_of}
use Rattle.session_shell.specs.Cut.{ends_of, lines_from, lines_read, AreFirstLines}

-- a relation of what was told before with what is told then, and of that with what is told now
pub TellsBoth-then : (R S T : List ℕ → List ℕ → Type 0) → ((x y z : List ℕ) → R x y → S y z → T x z) → (a b c : Option (List ℕ)) → TellsBoth R a b → TellsBoth S b c → TellsBoth T a c
TellsBoth-then R S T both None None None front back = tt
TellsBoth-then R S T both (Some a) (Some b) (Some c) front back = both a b c front back
TellsBoth-then R S T both None None (Some c) front back = absurd back
TellsBoth-then R S T both (Some a) (Some b) None front back = absurd back
TellsBoth-then R S T both None (Some b) c front back = absurd front
TellsBoth-then R S T both (Some a) None c front back = absurd front

no_lf_here : (byte : ℕ) (line : List ℕ) → HasNoLf (byte ∷ line) → byte == 10 ≡ false
no_lf_here byte line none = is_no (byte == 10) refl
  where
    is_no : (b : Bool) → byte == 10 ≡ b → b ≡ false
    is_no false is = refl
    is_no true is = absurd (none 0 0 (omega arith) (eqb-true byte 10 is))

ended : (line rest part : List ℕ) (room left : ℕ) → HasNoLf line → room ≡ length line + 1 + left → lines_from part room (line ++ 10 ∷ rest) ≡ ended_line (part ++ line) ∷ lines_read left rest
ended [] rest part zero left none is = absurd (omega (arith, is))
ended [] rest part (suc room) left none is =
    ap (λ p. ended_line p ∷ lines_from [] room rest) (sym (append-nil part)) ∙ ap (λ r. ended_line (part ++ []) ∷ lines_from [] r rest) (omega (arith, is))
ended (byte ∷ line) rest part zero left none is = absurd (omega (arith, is))
ended (byte ∷ line) rest part (suc room) left none is =
    ap (λ lf. if lf then ended_line part ∷ lines_from [] room (line ++ 10 ∷ rest) else lines_from (part ++ byte ∷ []) room (line ++ 10 ∷ rest)) (no_lf_here byte line none)
    ∙ ended line rest (part ++ byte ∷ []) room left (All-tail (λ x. x ≢ 10) byte line none) (omega (arith, is))
    ∙ ap (λ p. ended_line p ∷ lines_read left rest) (append_assoc part (byte ∷ []) line)

last : (line part : List ℕ) (room : ℕ) → HasNoLf line → length line ≤ room → lines_from part room line ≡ ends_of (part ++ line)
last [] part room none within = ap ends_of (sym (append-nil part))
last (byte ∷ line) part zero none within = absurd (omega (arith, within))
last (byte ∷ line) part (suc room) none within =
    ap (λ lf. if lf then ended_line part ∷ lines_from [] room line else lines_from (part ++ byte ∷ []) room line) (no_lf_here byte line none)
    ∙ last line (part ++ byte ∷ []) room (All-tail (λ x. x ≢ 10) byte line none) (omega (arith, within))
    ∙ ap ends_of (append_assoc part (byte ∷ []) line)

full : (line rest part : List ℕ) (room : ℕ) → HasNoLf line → length line ≡ room → 0 < length rest → lines_from part room (line ++ rest) ≡ InputFull ∷ []
full [] [] part room none is more = absurd (omega (arith, more))
full [] (byte ∷ rest) part zero none is more = refl
full [] (byte ∷ rest) part (suc room) none is more = absurd (omega (arith, is))
full (byte ∷ line) rest part zero none is more = absurd (omega (arith, is))
full (byte ∷ line) rest part (suc room) none is more =
    ap (λ lf. if lf then ended_line part ∷ lines_from [] room (line ++ rest) else lines_from (part ++ byte ∷ []) room (line ++ rest)) (no_lf_here byte line none)
    ∙ full line rest (part ++ byte ∷ []) room (All-tail (λ x. x ≢ 10) byte line none) (omega (arith, is)) more

-- the lines so far, where more may come
abbrev pub SoMany : List Line → ℕ → List ℕ → ℕ → List ℕ → Type 0
SoMany lines limit bytes room left = AreFirstLines lines (lines_read room left) limit bytes room left

-- a line more, where its bytes were taken
pushed : (lines : List Line) (answer : Line) (limit : ℕ) (bytes took left : List ℕ) (room room' : ℕ) → SoMany lines limit bytes room (took ++ left) → room ≡ length took + room' → lines_read room (took ++ left) ≡ answer ∷ lines_read room' left → SoMany (lines ++ answer ∷ []) limit bytes room' left
pushed lines answer limit bytes took left room room' first is_room next = record {
  taken = first.taken ++ took;
  split = first.split ∙ sym (append_assoc first.taken took left);
  within = omega (arith, first.within, is_room, length-append first.taken took);
  are = first.are ∙ ap (λ l. lines ++ l) next ∙ sym (append_assoc lines (answer ∷ []) (lines_read room' left));
  others = inl refl;
}

pub push : (lines : List Line) (answer : Line) (limit : ℕ) (bytes old left : List ℕ) (room room' : ℕ) → IsEndedLine answer old room left room' ⊎ IsLastLine answer old room left room' → SoMany lines limit bytes room old → SoMany (lines ++ answer ∷ []) limit bytes room' left
push lines answer limit bytes old left room room' (inl line) first =
    let is_old : old ≡ (line.line ++ 10 ∷ []) ++ left = line.bytes ∙ sym (append_assoc line.line (10 ∷ []) left) in
    pushed lines answer limit bytes (line.line ++ 10 ∷ []) left room room' (subst (λ o. SoMany lines limit bytes room o) is_old first)
    (omega (arith, line.room, length-append line.line (10 ∷ [])))
    (ap (lines_read room) (append_assoc line.line (10 ∷ []) left) ∙ ended line.line left [] room room' line.no_lf line.room ∙ ap (λ a. a ∷ lines_read room' left) (sym line.answers))
push lines answer limit bytes old left room room' (inr line) first =
    let is_old : old ≡ line.line ++ left = line.bytes ∙ sym (append-nil line.line) ∙ ap (λ l. line.line ++ l) (sym line.used_up) in
    pushed lines answer limit bytes line.line left room room' (subst (λ o. SoMany lines limit bytes room o) is_old first)
    line.room
    (ap (lines_read room) (ap (λ l. line.line ++ l) line.used_up ∙ append-nil line.line) ∙ last line.line [] room line.no_lf (omega (arith, line.room)) ∙ one line.line line.some
    ∙ ap (λ a. a ∷ End ∷ []) (sym line.answers) ∙ ap (λ l. answer ∷ lines_read room' l) (sym line.used_up))
  where
    one : (line : List ℕ) → 0 < length line → ends_of line ≡ last_line_of line ∷ End ∷ []
    one [] some = absurd (omega (arith, some))
    one (byte ∷ line) some = refl

-- the end of the bytes
pub at_end : (lines : List Line) (limit : ℕ) (bytes old : List ℕ) (room : ℕ) → old ≡ [] → SoMany lines limit bytes room old → AreFirstLines (lines ++ End ∷ []) [] limit bytes room []
at_end lines limit bytes old room none first =
    let nothing : SoMany lines limit bytes room [] = subst (λ o. SoMany lines limit bytes room o) none first in
    record { taken = nothing.taken; split = nothing.split; within = nothing.within; are = nothing.are ∙ sym (append-nil (lines ++ End ∷ [])); others = inr (refl, refl) }

-- the bytes that may be read are used up inside a line
pub is_full : (old left : List ℕ) (room room' : ℕ) → IsFull old room left room' → lines_read room old ≡ InputFull ∷ []
is_full old left room room' is = ap (lines_read room) is.bytes ∙ full is.part left [] room is.no_lf is.whole_room is.more
