-- What a line says, and the lines of a text one after another.
use Rattle.std.proofs.Common.{◌≡◌, ◌+◌, ◌==◌, false, inl, inr, ℕ, List, [], ◌∷◌, ◌++◌, length, Option, None, Some, Ok, Err, refl, sym, ap, ◌∙◌, subst, arith, append_assoc, length-append}
use Rattle.std.proofs.lemmas.List.{append-nil, take_all, drop_all}
use Rattle.commands.specs.declared.command.Op.{Op}
use Rattle.cfg_lex.specs.declared.token.Token.{Token}
use Rattle.cfg_lex.specs.declared.fault.LexFault.{LexFault}
use Rattle.cfg_lex.specs.Tokens.{IsCut, capped}
use Rattle.set_text.specs.declared.op_lines.OpLine.{OpLine}
use Rattle.set_text.specs.declared.stop.Stop.{Stop}
use Rattle.set_text.specs.declared.stop.Stop.TheVariants.{At, NoMemory}
use Rattle.set_text.specs.declared.fit.Fit.TheVariants.{More}
use Rattle.cfg_lex.specs.Lexed.{Lexed}
use Rattle.set_text.specs.Form.{parts_in, Spells, Begins}
use Rattle.set_text.specs.Fit.{FitsForms}
use Rattle.set_text.specs.Lines.{lines_in, IsSkipped, AsksChange, StopsAt, IsRefused, AreRead}
use Rattle.set_text.specs.Stop.{IsStopOf, Says, IsReadTo}

-- what a line says that isn't refused
abbrev pub SaysMaybe : List ℕ → Option Op → Type 0
SaysMaybe line change = Says line (Ok change)

-- a line begins a line
pub whole_begun : (parts : List Lexed) (change : Op) → Spells parts change → Begins parts
whole_begun parts change line = record { more = []; change = change; spelled = subst (λ ps. Spells ps change) (sym (append-nil parts)) line }

-- a line that stops after all its tokens
stops_last : (line : List ℕ) (tokens : List Token) (fault : Option LexFault) (place : ℕ) → IsCut line tokens fault → Begins (parts_in line tokens) → StopsAt line tokens (length tokens) [] fault place → IsRefused line place
stops_last line tokens fault place cut begun stops = record {
  tokens = tokens;
  fault = fault;
  cut = cut;
  count = length tokens;
  within = omega arith;
  begun = subst (λ ts. Begins (parts_in line ts)) (sym (take_all (length tokens) tokens (omega arith))) begun;
  stops = subst (λ ts. StopsAt line tokens (length tokens) ts fault place) (sym (drop_all (length tokens) tokens (omega arith))) stops;
}

-- at its lexical fault
pub refused_at_fault : (line : List ℕ) (tokens : List Token) (fault : LexFault) (stop : Stop) → IsCut line tokens (Some fault) → Begins (parts_in line tokens) → IsStopOf fault stop → Says line (Err stop)
refused_at_fault line tokens fault (At place) cut begun is = stops_last line tokens (Some fault) place cut begun is
refused_at_fault line tokens fault NoMemory cut begun is = tt

-- at its end
pub refused_at_end : (line : List ℕ) (tokens : List Token) (place : ℕ) → IsCut line tokens None → FitsForms line tokens More → length tokens == 0 ≡ false → place ≡ capped (length line) → IsRefused line place
refused_at_end line [] place cut more some is = absurd cc
refused_at_end line (token ∷ tokens) place cut more some is = stops_last line (token ∷ tokens) None place cut more.0 (omega arith, more.1, is)

-- lines that are read, and then others
pub read_both : (number : ℕ) (xs ys : List (List ℕ)) (one other : List OpLine) → AreRead number xs one → AreRead (number + length xs) ys other → AreRead number (xs ++ ys) (one ++ other)
read_both number [] ys one other front back =
    subst (λ cs. AreRead number ys (cs ++ other)) (sym front) (subst (λ n. AreRead n ys other) (omega arith) back)
read_both number (x ∷ xs) ys one other (inl front) back =
    inl (front.0, read_both (number + 1) xs ys one other front.1 (subst (λ n. AreRead n ys other) (omega arith) back))
read_both number (x ∷ xs) ys one other (inr front) back =
    inr (
      front.0,
      front.1 ++ other,
      front.2,
      ap (λ cs. cs ++ other) front.3,
      read_both (number + 1) xs ys front.1 other front.4 (subst (λ n. AreRead n ys other) (omega arith) back),
    )

longer : (lines : List (List ℕ)) (line : List ℕ) (count number : ℕ) → count ≡ capped (length lines) → number ≡ capped (count + 1) → number ≡ capped (length (lines ++ line ∷ []))
longer lines line count number counted next = omega (arith, counted, next, length-append lines (line ∷ []))

joined_more : (text rest behind line : List ℕ) (lines : List (List ℕ)) → lines_in text ≡ lines ++ lines_in rest → lines_in rest ≡ line ∷ lines_in behind → lines_in text ≡ (lines ++ line ∷ []) ++ lines_in behind
joined_more text rest behind line lines joined first =
    joined ∙ ap (λ ls. lines ++ ls) first ∙ sym (append_assoc lines (line ∷ []) (lines_in behind))

pub skipped_more : (text rest behind line : List ℕ) (count number : ℕ) (changes : List OpLine) → IsReadTo text rest count changes → lines_in rest ≡ line ∷ lines_in behind → number ≡ capped (count + 1) → IsSkipped line → IsReadTo text behind number changes
skipped_more text rest behind line count number changes so_far first next skipped = record {
  lines = so_far.lines ++ line ∷ [];
  joined = joined_more text rest behind line so_far.lines so_far.joined first;
  read = subst (AreRead 1 (so_far.lines ++ line ∷ [])) (append-nil changes) (read_both 1 so_far.lines (line ∷ []) changes [] so_far.read (inl (skipped, refl)));
  counted = longer so_far.lines line count number so_far.counted next;
}

pub change_more : (text rest behind line : List ℕ) (count number : ℕ) (changes : List OpLine) (change : Op) → IsReadTo text rest count changes → lines_in rest ≡ line ∷ lines_in behind → number ≡ capped (count + 1) → AsksChange line change → IsReadTo text behind number (changes ++ record { line = number; op = change } ∷ [])
change_more text rest behind line count number changes change so_far first next asks =
    let is : number ≡ capped (1 + length so_far.lines) = omega (arith, so_far.counted, next) in
    record {
      lines = so_far.lines ++ line ∷ [];
      joined = joined_more text rest behind line so_far.lines so_far.joined first;
      read = read_both 1 so_far.lines (line ∷ []) changes (record { line = number; op = change } ∷ []) so_far.read
          (inr (change, [], asks, ap (λ n. record { line = n; op = change } ∷ []) is, refl));
      counted = longer so_far.lines line count number so_far.counted next;
    }
