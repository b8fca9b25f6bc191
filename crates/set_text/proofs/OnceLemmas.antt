-- A line says one thing, and a text has one answer.
use Rattle.std.proofs.Common.{◌≡◌, ◌≢◌, ◌<◌, ◌≤◌, ◌+◌, ◌⊎◌, inl, inr, ℕ, List, [], ◌∷◌, ◌++◌, length, take, drop, Option, None, Some, refl, sym, ap, ◌∙◌, subst, arith, append_assoc}
use Rattle.std.proofs.lemmas.Bool.{cases_lt}
use Rattle.std.proofs.lemmas.List.{map-append, take_all, take-append-drop, take-take, drop_all, length-drop}
use Rattle.commands.specs.declared.command.Op.{Op}
use Rattle.cfg_lex.specs.declared.token.Token.{Token}
use Rattle.cfg_lex.specs.declared.fault.LexFault.{LexFault}
use Rattle.cfg_lex.specs.declared.fault.LexFault.TheVariants as lexical
use Rattle.cfg_lex.specs.Tokens.{IsCut}
use Rattle.cfg_lex.proofs.LexLemmas.{one_cut}
use Rattle.set_text.specs.declared.form.Form.{Form}
use Rattle.set_text.specs.declared.op_lines.OpLine.{OpLine}
use Rattle.set_text.specs.declared.fault.LineFault.{LineFault}
use Rattle.set_text.specs.declared.fault.LineFault.TheVariants.{Line, NoMemory}
use Rattle.cfg_lex.specs.Lexed.{Lexed, lexed_in}
use Rattle.set_text.specs.declared.form.Form.TheVariants.{OneList, TwoLists}
use Rattle.set_text.specs.Form.{parts_in, form_of, AsksBehind, Spells, Begins}
use Rattle.set_text.specs.Lines.{op_line, IsPlaceOf, IsSkipped, AsksChange, EndsAt, StopsAt, IsRefused, AreRead, AsksFor, IsLineFault}
use Rattle.set_text.proofs.FormLemmas.{nothing_is_no_line}
use Rattle.set_text.proofs.TwoListsLemmas.{two_lists_once}
use Rattle.set_text.proofs.ReadLemmas.{whole_begun}

same_first : {X : Type 0} (a b : X) (xs ys : List X) → a ∷ xs ≡ b ∷ ys → (a ≡ b) × (xs ≡ ys)
same_first a b xs ys e = (cc, cc)

same_some : {X : Type 0} (a b : X) → Some a ≡ Some b → a ≡ b
same_some a b e = cc

-- the parts after a keyword ask one thing
behind_once : (form : Form) (parts : List Lexed) (one other : Op) → AsksBehind form parts one → AsksBehind form parts other → one ≡ other
behind_once (OneList verb brackets) parts one other a b = a.1 ∙ sym b.1
behind_once (TwoLists first last) parts one other a b = two_lists_once first last parts one other a b

-- parts are a line of one form, which asks one thing
pub spelled_once : (parts : List Lexed) (one other : Op) → Spells parts one → Spells parts other → one ≡ other
spelled_once parts one other a b =
    let split = same_first a.first b.first a.rest b.rest (sym a.joined ∙ b.joined) in
    let form : a.form ≡ b.form = same_some a.form b.form (sym a.begun ∙ ap (λ (p : Lexed). form_of p.word) split.0 ∙ b.begun) in
    behind_once b.form b.rest one other
    (subst (λ (f : Form). AsksBehind f b.rest one) form (subst (λ (ps : List Lexed). AsksBehind a.form ps one) split.1 a.asked)) b.asked

-- what begins a line with more after it begins a line
front_begun : (front back : List Lexed) → Begins (front ++ back) → Begins front
front_begun front back line = record {
  more = back ++ line.more;
  change = line.change;
  spelled = subst (λ ps. Spells ps line.change) (append_assoc front back line.more) line.spelled;
}

fewer_begun : (text : List ℕ) (tokens : List Token) (m n : ℕ) → m ≤ n → Begins (parts_in text (take n tokens)) → Begins (parts_in text (take m tokens))
fewer_begun text tokens m n fewer line =
    let split : take m tokens ++ drop m (take n tokens) ≡ take n tokens = ap (λ ts. ts ++ drop m (take n tokens)) (sym (take-take m n tokens fewer)) ∙ take-append-drop m (take n tokens) in
    front_begun (parts_in text (take m tokens)) (parts_in text (drop m (take n tokens)))
    (subst Begins (ap (parts_in text) (sym split) ∙ map-append (lexed_in text) (take m tokens) (drop m (take n tokens))) line)

-- lists that are split at a place
left_of : (xs : List Token) (n : ℕ) → n < length xs → (x : Token) × (rest : List Token) × (drop n xs ≡ x ∷ rest)
left_of xs n within = by_rest (drop n xs) (omega (arith, length-drop n xs))
  where
    by_rest : (ys : List Token) → 0 < length ys → (x : Token) × (rest : List Token) × (ys ≡ x ∷ rest)
    by_rest [] some = absurd (omega (arith, some))
    by_rest (y ∷ ys) some = (y, ys, refl)

-- a line that stops after some tokens begins no line with more of them
not_longer : (line : List ℕ) (tokens : List Token) (fault : Option LexFault) (m n place : ℕ) → m < n → n ≤ length tokens → StopsAt line tokens m (drop m tokens) fault place → Begins (parts_in line (take n tokens)) → ⊥
not_longer line tokens fault m n place less within stops line_begun =
    let next = left_of tokens m (omega arith) in
    (subst (λ ts. StopsAt line tokens m ts fault place) next.2 stops).0
    (fewer_begun line tokens (m + 1) n (omega arith) line_begun)

same_place_of : (fault : LexFault) (m n : ℕ) → IsPlaceOf fault m → IsPlaceOf fault n → m ≡ n
same_place_of (lexical.BadByte at) m n one other = one ∙ sym other
same_place_of (lexical.OpenComment at) m n one other = one ∙ sym other
same_place_of (lexical.OpenQuote at) m n one other = one ∙ sym other
same_place_of (lexical.LongWord at) m n one other = one ∙ sym other
same_place_of lexical.NoMemory m n one other = absurd one

same_end : (line : List ℕ) (tokens : List Token) (fault : Option LexFault) (m n : ℕ) → EndsAt line tokens fault m → EndsAt line tokens fault n → m ≡ n
same_end line tokens (Some fault) m n one other = same_place_of fault m n one other
same_end line tokens None m n one other = one.2 ∙ sym other.2

same_stop : (line : List ℕ) (tokens : List Token) (fault : Option LexFault) (count m n : ℕ) (rest : List Token) → StopsAt line tokens count rest fault m → StopsAt line tokens count rest fault n → m ≡ n
same_stop line tokens fault count m n [] one other = same_end line tokens fault m n one other
same_stop line tokens fault count m n (token ∷ rest) one other = one.1 ∙ sym other.1

-- where the tokens and the fault are the same
stopped_once : (line : List ℕ) (tokens : List Token) (fault : Option LexFault) (c d m n : ℕ) → c ≤ length tokens → d ≤ length tokens → Begins (parts_in line (take c tokens)) → Begins (parts_in line (take d tokens)) → StopsAt line tokens c (drop c tokens) fault m → StopsAt line tokens d (drop d tokens) fault n → m ≡ n
stopped_once line tokens fault c d m n c_within d_within c_begun d_begun one other =
    elim (cases_lt c d) as (λ _. m ≡ n) [
      | inl less ↦ absurd (not_longer line tokens fault c d m less d_within one d_begun)
      | inr up ↦
          elim (cases_lt d c) as (λ _. m ≡ n) [
            | inl less ↦ absurd (not_longer line tokens fault d c n less c_within other c_begun)
            | inr down ↦
                let same : c ≡ d = omega (arith, up, down) in
                same_stop line tokens fault d m n (drop d tokens) (subst (λ k. StopsAt line tokens k (drop k tokens) fault m) same one) other
          ]
    ]

pub refused_once : (line : List ℕ) (m n : ℕ) → IsRefused line m → IsRefused line n → m ≡ n
refused_once line m n one other =
    let same = one_cut line one.tokens other.tokens one.fault other.fault one.cut other.cut in
    by_tokens one.tokens other.tokens one.fault other.fault same.0 same.1 one.count other.count one.within other.within one.begun other.begun one.stops other.stops
  where
    by_tokens : (ts us : List Token) (f g : Option LexFault) → ts ≡ us → f ≡ g → (c d : ℕ) → c ≤ length ts → d ≤ length us → Begins (parts_in line (take c ts)) → Begins (parts_in line (take d us)) → StopsAt line ts c (drop c ts) f m → StopsAt line us d (drop d us) g n → m ≡ n
    by_tokens ts us f g same_tokens same_fault c d c_within d_within c_begun d_begun stops other_stops =
        stopped_once line us g c d m n (subst (λ vs. c ≤ length vs) same_tokens c_within) d_within
        (subst (λ vs. Begins (parts_in line (take c vs))) same_tokens c_begun) d_begun
        (subst (λ h. StopsAt line us c (drop c us) h m) same_fault (subst (λ vs. StopsAt line vs c (drop c vs) f m) same_tokens stops)) other_stops

pub asked_once : (line : List ℕ) (one other : Op) → AsksChange line one → AsksChange line other → one ≡ other
asked_once line one other a b =
    let same = one_cut line a.tokens b.tokens None None a.cut b.cut in
    spelled_once (parts_in line b.tokens) one other (subst (λ ts. Spells (parts_in line ts) one) same.0 a.spelled) b.spelled

pub not_skipped : (line : List ℕ) (change : Op) → IsSkipped line → AsksChange line change → ⊥
not_skipped line change skipped asks =
    let same = one_cut line asks.tokens [] None None asks.cut skipped in
    nothing_is_no_line change (subst (λ ts. Spells (parts_in line ts) change) same.0 asks.spelled)

-- a line without a lexical fault whose tokens are none, or are a line, isn't refused
not_stopped : (line : List ℕ) (tokens : List Token) (count place : ℕ) → (length tokens ≡ 0) ⊎ ((change : Op) × Spells (parts_in line tokens) change) → count ≤ length tokens → StopsAt line tokens count (drop count tokens) None place → ⊥
not_stopped line tokens count place (inl none) within stops =
    let last = subst (λ ts. StopsAt line tokens count ts None place) (drop_all count tokens (omega arith)) stops in
    omega (arith, none, last.0)
not_stopped line tokens count place (inr whole) within stops =
    elim (cases_lt count (length tokens)) as (λ _. ⊥) [
      | inl less ↦
          not_longer line tokens None count (length tokens) place less (omega arith) stops
          (subst (λ ts. Begins (parts_in line ts)) (sym (take_all (length tokens) tokens (omega arith))) (whole_begun (parts_in line tokens) whole.0 whole.1))
      | inr past ↦ (subst (λ ts. StopsAt line tokens count ts None place) (drop_all count tokens past) stops).1 whole.0 whole.1
    ]

-- what a line says that isn't refused
abbrev Passes : List ℕ → Type 0
Passes line = IsSkipped line ⊎ ((change : Op) × AsksChange line change)

passed_tokens : (line : List ℕ) → Passes line → (tokens : List Token) × IsCut line tokens None × ((length tokens ≡ 0) ⊎ ((change : Op) × Spells (parts_in line tokens) change))
passed_tokens line (inl skipped) = ([], skipped, inl refl)
passed_tokens line (inr asks) = (asks.1.tokens, asks.1.cut, inr (asks.0, asks.1.spelled))

pub not_refused : (line : List ℕ) (place : ℕ) → Passes line → IsRefused line place → ⊥
not_refused line place passes refused =
    let it = passed_tokens line passes in
    let same = one_cut line refused.tokens it.0 refused.fault None refused.cut it.1 in
    not_stopped line it.0 refused.count place it.2 (subst (λ ts. refused.count ≤ length ts) same.0 refused.within)
    (subst (λ f. StopsAt line it.0 refused.count (drop refused.count it.0) f place) same.1
    (subst (λ ts. StopsAt line ts refused.count (drop refused.count ts) refused.fault place) same.0 refused.stops))

-- lines are read in one way
pub read_once : (number : ℕ) (lines : List (List ℕ)) (one other : List OpLine) → AreRead number lines one → AreRead number lines other → one ≡ other
read_once number [] one other a b = a ∙ sym b
read_once number (line ∷ lines) one other (inl a) (inl b) = read_once (number + 1) lines one other a.1 b.1
read_once number (line ∷ lines) one other (inl a) (inr b) = absurd (not_skipped line b.0 a.0 b.2)
read_once number (line ∷ lines) one other (inr a) (inl b) = absurd (not_skipped line a.0 b.0 a.2)
read_once number (line ∷ lines) one other (inr a) (inr b) =
    a.3
    ∙ ap (λ change. op_line number change ∷ a.1) (asked_once line a.0 b.0 a.2 b.2)
    ∙ ap (λ rest. op_line number b.0 ∷ rest) (read_once (number + 1) lines a.1 b.1 a.4 b.4)
    ∙ sym b.3

-- the first of lines that are read passes
first_passes : (number : ℕ) (line : List ℕ) (lines : List (List ℕ)) (changes : List OpLine) → AreRead number (line ∷ lines) changes → Passes line
first_passes number line lines changes (inl a) = inl a.0
first_passes number line lines changes (inr a) = inr (a.0, a.2)

record Behind (number : ℕ) (lines : List (List ℕ)) : Type 0 where
  changes : List OpLine
  read : AreRead (number + 1) lines changes

behind : (number : ℕ) (line : List ℕ) (lines : List (List ℕ)) (changes : List OpLine) → AreRead number (line ∷ lines) changes → Behind number lines
behind number line lines changes (inl a) = record { changes = changes; read = a.1 }
behind number line lines changes (inr a) = record { changes = a.1; read = a.4 }

-- the first refused line is one
first_once : (number : ℕ) (xs ys : List (List ℕ)) (x y : List ℕ) (after behind_y : List (List ℕ)) (one other : List OpLine) (m n : ℕ) → xs ++ x ∷ after ≡ ys ++ y ∷ behind_y → AreRead number xs one → AreRead number ys other → IsRefused x m → IsRefused y n → (length xs ≡ length ys) × (m ≡ n)
first_once number [] [] x y after behind_y one other m n same a b refused again =
    let first = same_first x y after behind_y same in
    (refl, refused_once y m n (subst (λ l. IsRefused l m) first.0 refused) again)
first_once number [] (z ∷ ys) x y after behind_y one other m n same a b refused again =
    let first = same_first x z after (ys ++ y ∷ behind_y) same in
    absurd (not_refused z m (first_passes number z ys other b) (subst (λ l. IsRefused l m) first.0 refused))
first_once number (z ∷ xs) [] x y after behind_y one other m n same a b refused again =
    let first = same_first z y (xs ++ x ∷ after) behind_y same in
    absurd (not_refused z n (first_passes number z xs one a) (subst (λ l. IsRefused l n) (sym first.0) again))
first_once number (w ∷ xs) (z ∷ ys) x y after behind_y one other m n same a b refused again =
    let first = same_first w z (xs ++ x ∷ after) (ys ++ y ∷ behind_y) same in
    let left = behind number w xs one a in
    let right = behind number z ys other b in
    let further = first_once (number + 1) xs ys x y after behind_y left.changes right.changes m n first.1 left.read right.read refused again in
    (omega (arith, further.0), further.1)

same_fault_line : (a b c d : ℕ) → a ≡ c → b ≡ d → Line a b ≡ Line c d
same_fault_line a b c d one other = cc

pub one_fault : (text : List ℕ) (one other : LineFault) → IsLineFault text one → IsLineFault text other → one ≢ NoMemory → other ≢ NoMemory → one ≡ other
one_fault text NoMemory other a b ok again = absurd (ok refl)
one_fault text (Line k m) NoMemory a b ok again = absurd (again refl)
one_fault text (Line k m) (Line l n) a b ok again =
    let same = first_once 1 a.before b.before a.line b.line a.after b.after a.changes b.changes m n (sym a.joined ∙ b.joined) a.read b.read a.refused b.refused in
    same_fault_line k m l n (omega (arith, a.numbered, b.numbered, same.0)) same.1

all_pass : (number : ℕ) (xs : List (List ℕ)) (line : List ℕ) (after : List (List ℕ)) (changes : List OpLine) → AreRead number (xs ++ line ∷ after) changes → Passes line
all_pass number [] line after changes read = first_passes number line after changes read
all_pass number (x ∷ xs) line after changes read =
    let rest = behind number x (xs ++ line ∷ after) changes read in
    all_pass (number + 1) xs line after rest.changes rest.read

pub apart : (text : List ℕ) (changes : List OpLine) (fault : LineFault) → AsksFor text changes → IsLineFault text fault → fault ≡ NoMemory
apart text changes NoMemory a b = refl
apart text changes (Line k m) a b =
    absurd (not_refused b.line m (all_pass 1 b.before b.line b.after changes (subst (λ ls. AreRead 1 ls changes) b.joined a)) b.refused)
