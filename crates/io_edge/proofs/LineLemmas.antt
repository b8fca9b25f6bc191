-- From what a line reader took to its answer.
use Rattle.std.proofs.Common.{◌≡◌, ◌<◌, ◌≤◌, ◌+◌, min, zero-add, ℕ, suc, Bool, true, false}
use Rattle.std.proofs.Common.{nat_lt, if◌then◌else◌, List, [], ◌∷◌, ◌++◌, take, length, Option}
use Rattle.std.proofs.Common.{Some, None, refl, ap, sym, ◌∙◌, subst, inl, inr, arith}
use Rattle.std.proofs.Common.{append_assoc}
use Rattle.std.proofs.lemmas.List.{append-nil, take_all, length-take}
use Rattle.std.proofs.lemmas.Bool.{cases_lt, lt-ltb}
use Rattle.std.proofs.Math.Dec.{eqb-suc-zero}
use Rattle.cfg_base.specs.Bytes.{without_last_cr}
use Rattle.io_edge.specs.declared.lines.Line.{Line}
use Rattle.io_edge.specs.declared.lines.Line.TheVariants.{Text, TooLong, InputFull, End as AtEnd}
use Rattle.io_edge.specs.declared.lines.Line.TheVariants.{Failed as AtFault}
use Rattle.io_edge.specs.declared.lines.Stop.{Stop}
use Rattle.io_edge.specs.declared.lines.Stop.TheVariants.{Lf, End, Full, Failed}
use Rattle.io_edge.specs.declared.lines.TheConstants.{MAX_LINE}
use Rattle.io_edge.specs.Ends.{onto, IsUsedUp, HasMore}
use Rattle.io_edge.specs.Feed.{LinesView}
use Rattle.io_edge.specs.Line.{HasNoLf, ended_line, last_line_of, IsEndedLine}
use Rattle.io_edge.specs.Line.{IsLastLine, Gives, TellsBoth, GivesLine}
use Rattle.io_edge.specs.Reader.{GathersTo, answer_of, end_of}
use Rattle.io_edge.proofs.EndLemmas.{onto-onto}

-- a relation of what was left with what is left holds where it holds of each list that may be left
pub tells_onto : (R : List ℕ → List ℕ → Type 0) (bytes : List ℕ) (old now : Option (List ℕ)) → old ≡ onto bytes now →
    ((rest : List ℕ) → now ≡ Some rest → R (bytes ++ rest) rest) → TellsBoth R old now
tells_onto R bytes old None is holds = subst (λ o. TellsBoth R o None) (sym is) tt
tells_onto R bytes old (Some rest) is holds = subst (λ o. TellsBoth R o (Some rest)) (sym is) (holds rest refl)

-- nothing is left of a list that is told and used up
used_up : (now : Option (List ℕ)) (rest : List ℕ) → IsUsedUp now → now ≡ Some rest → rest ≡ []
used_up now rest is told = let P : Option (List ℕ) → Type 0 = IsUsedUp in subst P told is

-- a byte is left of a list that is told and has more
has_more : (now : Option (List ℕ)) (rest : List ℕ) → HasMore now → now ≡ Some rest → 0 < length rest
has_more now rest is told = let P : Option (List ℕ) → Type 0 = HasMore in subst P told is

-- a line that an LF ends is answered by TooLong or by its text
ended_by : (long : Bool) (text old now : List ℕ) (old_room now_room : ℕ) →
    IsEndedLine (if long then TooLong else Text text) old old_room now now_room →
    Gives (if long then TooLong else Text text) old old_room now now_room
ended_by true text old now old_room now_room is = inl is
ended_by false text old now old_room now_room is = inl is

-- so is a line that the end of the input ends
last_by : (long : Bool) (text old now : List ℕ) (old_room now_room : ℕ) →
    IsLastLine (if long then TooLong else Text text) old old_room now now_room →
    Gives (if long then TooLong else Text text) old old_room now now_room
last_by true text old now old_room now_room is = inr is
last_by false text old now old_room now_room is = inr is

-- the kept bytes of a line show whether it is too long, and are the line where it isn't
kept_line : (most : ℕ) (long : Line) (answer : List ℕ → Line) (part : List ℕ) →
    (if nat_lt most (length (take (most + 1) part)) then long else answer (take (most + 1) part))
    ≡ (if nat_lt most (length part) then long else answer part)
kept_line most long answer part = elim (cases_lt most (length part)) [
  | inl over ↦
      let n : length (take (most + 1) part) ≡ min (most + 1) (length part) = length-take (most + 1) part in
      let kept_over : most < length (take (most + 1) part) = omega arith in
      ap (λ b. if b then long else answer (take (most + 1) part)) (lt-ltb most (length (take (most + 1) part)) kept_over)
      ∙ sym (ap (λ b. if b then long else answer part) (lt-ltb most (length part) over))
  | inr within ↦
      let small : length part ≤ most + 1 = omega arith in
      ap (λ line. if nat_lt most (length line) then long else answer line) (take_all (most + 1) part small)
]

-- the answer for a line that an LF ends
ended_gives : (part rest : List ℕ) (old_room now_room : ℕ) → HasNoLf part → old_room ≡ length part + 1 + now_room →
    Gives (ended_line (take (MAX_LINE + 1) part)) (part ++ 10 ∷ [] ++ rest) old_room rest now_room
ended_gives part rest old_room now_room no_lf room =
    subst (λ answer. Gives answer (part ++ 10 ∷ [] ++ rest) old_room rest now_room)
    (sym (kept_line MAX_LINE TooLong (λ line. Text (without_last_cr line)) part))
    (ended_by (nat_lt MAX_LINE (length part)) (without_last_cr part) (part ++ 10 ∷ [] ++ rest) rest old_room now_room
    (record { line = part; no_lf = no_lf; bytes = append_assoc part (10 ∷ []) rest; room = room; answers = refl }))

-- the first bytes of a line that has some are some
take_cons : (n x : ℕ) (xs : List ℕ) → take (n + 1) (x ∷ xs) ≡ x ∷ take n xs
take_cons n x xs = let e : n + 1 ≡ suc n = omega arith in ap (λ m. take m (x ∷ xs)) e

-- a line that has bytes is no end
end_of-cons : (x : ℕ) (xs : List ℕ) → end_of (x ∷ xs) ≡ last_line_of (x ∷ xs)
end_of-cons x xs = ap (λ b. if b then AtEnd else last_line_of (x ∷ xs)) (eqb-suc-zero (length xs))

-- the answer for a last line that has bytes, by its first ones
end_of-kept : (n x : ℕ) (xs : List ℕ) → end_of (take (n + 1) (x ∷ xs)) ≡ last_line_of (take (n + 1) (x ∷ xs))
end_of-kept n x xs = ap end_of (take_cons n x xs) ∙ end_of-cons x (take n xs) ∙ ap last_line_of (sym (take_cons n x xs))

-- the answer at the end of the input
end_gives : (part rest : List ℕ) (old_room now_room : ℕ) → HasNoLf part → rest ≡ [] → old_room ≡ length part + now_room →
    Gives (end_of (take (MAX_LINE + 1) part)) (part ++ rest) old_room rest now_room
end_gives [] rest old_room now_room no_lf used_up room = (used_up, used_up, sym (room ∙ zero-add now_room))
end_gives (x ∷ xs) rest old_room now_room no_lf used_up room =
    subst (λ answer. Gives answer (x ∷ xs ++ rest) old_room rest now_room)
    (sym (end_of-kept MAX_LINE x xs ∙ kept_line MAX_LINE TooLong (λ line. Text line) (x ∷ xs)))
    (last_by (nat_lt MAX_LINE (length (x ∷ xs))) (x ∷ xs) (x ∷ xs ++ rest) rest old_room now_room
    (record {
      line = x ∷ xs;
      no_lf = no_lf;
      some = omega arith;
      bytes = ap (λ r. x ∷ xs ++ r) used_up ∙ append-nil (x ∷ xs);
      used_up = used_up;
      room = room;
      answers = refl;
    }))

-- the answer after what was taken up to a stop
pub gives_line : (stop : Stop) (kept : List ℕ) (old now : LinesView) → GathersTo stop kept old now →
    GivesLine (answer_of stop kept) old.left old.room now.left now.room
gives_line Lf kept old now g =
    let bytes : old.left ≡ onto (g.gathered.part ++ 10 ∷ []) now.left =
    g.gathered.bytes ∙ ap (onto g.gathered.part) g.stops.bytes ∙ onto-onto g.gathered.part (10 ∷ []) now.left in
    let room : old.room ≡ length g.gathered.part + 1 + now.room =
    let h : old.room ≡ length g.gathered.part + g.mid.room = g.gathered.room in
    let k : g.mid.room ≡ now.room + 1 = g.stops.room in
    omega arith in
    tells_onto (λ before rest. Gives (ended_line kept) before old.room rest now.room) (g.gathered.part ++ 10 ∷ []) old.left now.left bytes
    (λ rest told. subst (λ line. Gives (ended_line line) (g.gathered.part ++ 10 ∷ [] ++ rest) old.room rest now.room)
    (sym g.gathered.is_kept) (ended_gives g.gathered.part rest old.room now.room g.gathered.no_lf room))
gives_line End kept old now g =
    let bytes : old.left ≡ onto g.gathered.part now.left = g.gathered.bytes ∙ ap (onto g.gathered.part) (sym g.stops.0.bytes) in
    let room : old.room ≡ length g.gathered.part + now.room = g.gathered.room ∙ ap (λ n. length g.gathered.part + n) (sym g.stops.0.room) in
    tells_onto (λ before rest. Gives (end_of kept) before old.room rest now.room) g.gathered.part old.left now.left bytes
    (λ rest told. subst (λ line. Gives (end_of line) (g.gathered.part ++ rest) old.room rest now.room)
    (sym g.gathered.is_kept)
    (end_gives g.gathered.part rest old.room now.room g.gathered.no_lf (used_up now.left rest g.stops.2 told) room))
gives_line Full kept old now g =
    let bytes : old.left ≡ onto g.gathered.part now.left = g.gathered.bytes ∙ ap (onto g.gathered.part) (sym g.stops.0.bytes) in
    let room : old.room ≡ length g.gathered.part + now.room = g.gathered.room ∙ ap (λ n. length g.gathered.part + n) (sym g.stops.0.room) in
    let none : now.room ≡ 0 = g.stops.1 in
    tells_onto (λ before rest. Gives InputFull before old.room rest now.room) g.gathered.part old.left now.left bytes
    (λ rest told. record {
      part = g.gathered.part;
      no_lf = g.gathered.no_lf;
      bytes = refl;
      more = has_more now.left rest g.stops.3 told;
      whole_room = omega arith;
      no_room = none;
    })
gives_line Failed kept old now g =
    let bytes : old.left ≡ onto g.gathered.part now.left = g.gathered.bytes ∙ ap (onto g.gathered.part) (sym g.stops.0.bytes) in
    let room : old.room ≡ length g.gathered.part + now.room = g.gathered.room ∙ ap (λ n. length g.gathered.part + n) (sym g.stops.0.room) in
    tells_onto (λ before rest. Gives AtFault before old.room rest now.room) g.gathered.part old.left now.left bytes
    (λ rest told. record { part = g.gathered.part; no_lf = g.gathered.no_lf; bytes = refl; room = room })
