-- How the tokens of a line fit the forms, against what is a line and what begins one.
use Rattle.std.proofs.Common.{◌≡◌, ◌<◌, ◌≤◌, ◌-◌, ◌+◌, ℕ, Bool, true, false, List, [], ◌∷◌, ◌++◌, length, take, drop, Some, None, refl, sym, ap, ◌∙◌, subst, append_assoc, get_or, arith, add-one}
use Rattle.std.specs.Prelude.{codes}
use Rattle.std.proofs.lemmas.List.{map-append, take_all, take_more, drop_more, length-drop}
use Rattle.commands.specs.declared.command.Op.{Op}
use Rattle.cfg_lex.specs.Tokens.{word_in}
use Rattle.cfg_lex.specs.declared.token.Token.{Token}
use Rattle.cfg_lex.specs.declared.token.TokenKind.{TokenKind}
use Rattle.cfg_lex.specs.declared.token.TokenKind.TheVariants as kind
use Rattle.set_text.specs.declared.form.Form.{Form}
use Rattle.set_text.specs.declared.fit.Fit.{Fit}
use Rattle.set_text.specs.declared.fit.Fit.TheVariants.{Stops, More, Whole, Around}
use Rattle.commands.specs.declared.verb.Verb.{Verb}
use Rattle.commands.specs.declared.verb.Verb.TheVariants.{Set}
use Rattle.commands.specs.declared.mover.Mover.{Mover}
use Rattle.commands.specs.Mover as moves
use Rattle.set_text.specs.declared.form.Form.TheVariants.{OneList}
use Rattle.set_text.specs.declared.phase.Phase.{Phase}
use Rattle.set_text.specs.declared.phase.Phase.TheVariants.{Bare}
use Rattle.cfg_lex.specs.Lexed.{Lexed, lexed_in, is_word_kind}
use Rattle.set_text.specs.Form.{parts_in, kinds_of, form_of, words_among, IsTail, AsksBehind, Spells, Begins, IsNoLine}
use Rattle.commands.specs.Verb.{op_of}
use Rattle.set_text.specs.Phase.{kinds_in, PhaseLeads, StopsFrom}
use Rattle.set_text.specs.Fit.{form_at, FitsOneList, BeginsBehind, StopsIn, IsAround, FitsBehind, StopsBehind, SpellsAround, FitsForms}
use Rattle.set_text.proofs.PhaseLemmas.{tail_of, tail_more, not_tail, not_tail_yet}

-- the kinds of parts are those of their tokens
pub kinds_of_parts : (text : List ℕ) (tokens : List Token) → kinds_of (parts_in text tokens) ≡ kinds_in tokens
kinds_of_parts text [] = refl
kinds_of_parts text (token ∷ tokens) = ap (λ ks. token.kind ∷ ks) (kinds_of_parts text tokens)

-- parts of these kinds
pub parts_of : List TokenKind → List Lexed
parts_of [] = []
parts_of (k ∷ ks) = record { kind = k; word = [] } ∷ parts_of ks

kinds_of_parts_of : (ks : List TokenKind) → kinds_of (parts_of ks) ≡ ks
unfolding parts_of
kinds_of_parts_of [] = refl
kinds_of_parts_of (k ∷ ks) = ap (λ rest. k ∷ rest) (kinds_of_parts_of ks)

kinds_of_both : (xs ys : List Lexed) → kinds_of (xs ++ ys) ≡ kinds_of xs ++ kinds_of ys
kinds_of_both xs ys = map-append (λ (p : Lexed). p.kind) xs ys

pub kinds_more : (xs : List Lexed) (ks : List TokenKind) → kinds_of (xs ++ parts_of ks) ≡ kinds_of xs ++ ks
kinds_more xs ks = kinds_of_both xs (parts_of ks) ∙ ap (λ rest. kinds_of xs ++ rest) (kinds_of_parts_of ks)

pub kinds_between : (xs : List Lexed) (x : Lexed) (ys : List Lexed) → kinds_of ((xs ++ x ∷ []) ++ ys) ≡ kinds_of xs ++ x.kind ∷ kinds_of ys
kinds_between xs x ys = ap kinds_of (append_assoc xs (x ∷ []) ys) ∙ kinds_of_both xs (x ∷ ys)

same_some : {X : Type 0} (a b : X) → Some a ≡ Some b → a ≡ b
same_some a b e = cc

same_first : (a b : Lexed) (xs ys : List Lexed) → a ∷ xs ≡ b ∷ ys → (a ≡ b) × (xs ≡ ys)
same_first a b xs ys e = (cc, cc)

-- the form of the first token, where it is a word
record IsBegun (first : Lexed) (form : Form) : Type 0 where
  word : is_word_kind first.kind ≡ true
  begun : form_of first.word ≡ Some form

-- a keyword and what stands after it are a line
line_of : (first : Lexed) (rest : List Lexed) (form : Form) (change : Op) → IsBegun first form → AsksBehind form rest change → Spells (first ∷ rest) change
line_of first rest form change is asked =
    record { first = first; rest = rest; joined = refl; word = is.word; form = form; begun = is.begun; asked = asked }

begun_line : (first : Lexed) (rest : List Lexed) (form : Form) → IsBegun first form → BeginsBehind form rest → Begins (first ∷ rest)
begun_line first rest form is it =
    record { more = it.more; change = it.change; spelled = line_of first (rest ++ it.more) form it.change is it.asked }

-- after the keyword of a line stands what its form says
behind_line : (first : Lexed) (rest : List Lexed) (form : Form) (change : Op) → form_of first.word ≡ Some form → Spells (first ∷ rest) change → AsksBehind form rest change
behind_line first rest form change begun line =
    let parts = same_first first line.first rest line.rest line.joined in
    let same : line.form ≡ form = same_some line.form form (sym line.begun ∙ ap (λ (p : Lexed). form_of p.word) (sym parts.0) ∙ begun) in
    subst (λ (f : Form). AsksBehind f rest change) same
    (subst (λ (ps : List Lexed). AsksBehind line.form ps change) (sym parts.1) line.asked)

begun_behind : (first : Lexed) (rest : List Lexed) (form : Form) → form_of first.word ≡ Some form → Begins (first ∷ rest) → BeginsBehind form rest
begun_behind first rest form begun line =
    record { more = line.more; change = line.change; asked = behind_line first (rest ++ line.more) form line.change begun line.spelled }

-- tokens that lead somewhere begin a list of words
one_list_begun : (verb : Verb) (brackets : Bool) (parts : List Lexed) (phase : Phase) → PhaseLeads brackets Bare (kinds_of parts) phase → BeginsBehind (OneList verb brackets) parts
one_list_begun verb brackets parts phase leads =
    let on = tail_more brackets (kinds_of parts) phase leads in
    record {
      more = parts_of on.more;
      change = op_of verb (words_among (parts ++ parts_of on.more));
      asked = (subst (IsTail brackets) (sym (kinds_more parts on.more)) on.tail, refl);
    }

set_begins : form_of (codes "set") ≡ Some (OneList Set true)
set_begins = refl

set_part : Lexed
set_part = record { kind = kind.Bare; word = codes "set" }

-- nothing begins a line
pub nothing_begun : Begins []
unfolding set_part
nothing_begun =
    let one = begun_line set_part [] (OneList Set true) (record { word = refl; begun = set_begins }) (one_list_begun Set true [] Bare refl) in
    record { more = set_part ∷ one.more; change = one.change; spelled = one.spelled }

-- nothing is no line
pub nothing_is_no_line : IsNoLine []
nothing_is_no_line change spells = cc (spells.joined)

-- the first part begins no form
pub no_form : (first : Lexed) (rest : List Lexed) → form_at (is_word_kind first.kind) first.word ≡ None → ¬ (Begins (first ∷ rest))
no_form first rest none line =
    let parts = same_first first line.spelled.first (rest ++ line.more) line.spelled.rest line.spelled.joined in
    let some : form_at (is_word_kind first.kind) first.word ≡ Some line.spelled.form =
    ap (λ (p : Lexed). form_at (is_word_kind p.kind) p.word) parts.0
    ∙ ap (λ b. form_at b line.spelled.first.word) line.spelled.word
    ∙ line.spelled.begun in
    let e = sym some ∙ none in cc

-- a line without tokens
pub fits_nothing : (text : List ℕ) (tokens : List Token) → length tokens < 1 → FitsForms text tokens More
fits_nothing text [] none = (nothing_begun, nothing_is_no_line)
fits_nothing text (first ∷ rest) none = absurd (omega (arith, none))

-- a line whose first token begins no form
pub fits_no_form : (text : List ℕ) (tokens : List Token) (d : Token) → 1 ≤ length tokens → form_at (is_word_kind (get_or tokens 0 d).kind) (word_in text (get_or tokens 0 d)) ≡ None → FitsForms text tokens (Stops 0)
fits_no_form text [] d some none = absurd (omega (arith, some))
fits_no_form text (first ∷ rest) d some none =
    record { within = omega arith; begun = nothing_begun; not_more = no_form (lexed_in text first) [] none }

begun_if : (b : Bool) (word : List ℕ) (form : Form) → form_at b word ≡ Some form → (b ≡ true) × (form_of word ≡ Some form)
begun_if true word form e = (refl, e)
begun_if false word form e = absurd cc

-- the tokens before one, and that one
pub take_next : (tokens : List Token) (token : Token) (rest : List Token) (place : ℕ) → drop place tokens ≡ token ∷ rest → take (place + 1) tokens ≡ take place tokens ++ token ∷ []
take_next tokens token rest place here =
    let within : place < length tokens = omega (arith, length-drop place tokens, ap length here) in
    let split : get_or tokens place token ∷ drop (place + 1) tokens ≡ token ∷ rest = sym (drop_more tokens place token within) ∙ here in
    let same : get_or tokens place token ≡ token = cc in
    take_more tokens place token within ∙ ap (λ t. take place tokens ++ t ∷ []) same

-- so many tokens of a list of words
one_list_stops : (text : List ℕ) (verb : Verb) (brackets : Bool) (tokens : List Token) (place : ℕ) → StopsFrom brackets tokens place → StopsIn text (OneList verb brackets) tokens place
one_list_stops text verb brackets tokens place stops =
    let leads = subst (λ ks. PhaseLeads brackets Bare ks stops.phase) (sym (kinds_of_parts text (take place tokens))) stops.leads in
    record {
      within = stops.within;
      begun = one_list_begun verb brackets (parts_in text (take place tokens)) stops.phase leads;
      not_more = λ it.
          let parts : parts_in text (take (place + 1) tokens) ≡ parts_in text (take place tokens) ++ lexed_in text stops.token ∷ [] =
          ap (parts_in text) (take_next tokens stops.token stops.rest place stops.here) ∙ map-append (lexed_in text) (take place tokens) (stops.token ∷ []) in
          not_tail brackets (kinds_of (parts_in text (take place tokens))) (kinds_of it.more) stops.token.kind stops.phase leads stops.none
          (subst (IsTail brackets)
          (ap (λ (ps : List Lexed). kinds_of (ps ++ it.more)) parts ∙ kinds_between (parts_in text (take place tokens)) (lexed_in text stops.token) it.more) it.asked.0);
    }

pub fits_one_list : (text : List ℕ) (verb : Verb) (brackets : Bool) (tokens : List Token) (fit : Fit) → FitsOneList verb brackets tokens fit → FitsBehind text (OneList verb brackets) tokens fit
fits_one_list text verb brackets tokens (Stops count) fits = (fits.0, fits.1, one_list_stops text verb brackets tokens fits.0 fits.2)
fits_one_list text verb brackets tokens More fits =
    let leads = subst (λ ks. PhaseLeads brackets Bare ks fits.phase) (sym (kinds_of_parts text tokens)) fits.leads in (
      one_list_begun verb brackets (parts_in text tokens) fits.phase leads,
      λ change asked. not_tail_yet brackets (kinds_of (parts_in text tokens)) fits.phase leads fits.ends_there asked.0,
    )
fits_one_list text verb brackets tokens (Whole kind) fits =
    let leads = subst (λ ks. PhaseLeads brackets Bare ks fits.0.phase) (sym (kinds_of_parts text tokens)) fits.0.leads in (
      tail_of brackets (kinds_of (parts_in text tokens)) fits.0.phase leads fits.0.ends_there,
      ap (λ v. op_of v (words_among (parts_in text tokens))) fits.1,
    )
fits_one_list text verb brackets tokens (Around mover at) fits = absurd fits

-- so many tokens of a line after its first
stops_behind : (text : List ℕ) (first : Token) (rest : List Token) (form : Form) (place : ℕ) → IsBegun (lexed_in text first) form → StopsIn text form rest place → StopsBehind text (first ∷ rest) (place + 1)
stops_behind text first rest form place is stops = record {
  within = omega (arith, stops.within);
  begun = subst (λ n. Begins (parts_in text (take n (first ∷ rest)))) (sym (add-one place))
      (begun_line (lexed_in text first) (parts_in text (take place rest)) form is stops.begun);
  not_more = λ line.
      stops.not_more (begun_behind (lexed_in text first) (parts_in text (take (place + 1) rest)) form is.begun
      (subst (λ n. Begins (parts_in text (take n (first ∷ rest)))) (add-one (place + 1)) line));
}

-- a line with a mark after its first token
around_behind : (text : List ℕ) (first : Token) (rest : List Token) (form : Form) (mover : Mover) (place : ℕ) → IsBegun (lexed_in text first) form → IsAround text form rest mover place → SpellsAround text (first ∷ rest) mover (place + 1)
around_behind text first rest form mover place is around =
    let front : take place rest ≡ take (place + 1 - 1) rest = ap (λ n. take n rest) (omega arith) in
    let behind : drop (place + 1) rest ≡ drop (place + 1 + 1) (first ∷ rest) = ap (λ n. drop n (first ∷ rest)) (sym (add-one (place + 1))) in
    record {
      behind = omega arith;
      within = omega (arith, around.within);
      spelled =
          subst (λ ts. Spells (parts_in text (first ∷ rest)) (moves.op_of mover (words_among (parts_in text (take (place + 1 - 1) rest))) (words_among (parts_in text ts)))) behind
          (subst (λ ts. Spells (parts_in text (first ∷ rest)) (moves.op_of mover (words_among (parts_in text ts)) (words_among (parts_in text (drop (place + 1) rest))))) front
          (line_of (lexed_in text first) (parts_in text rest) form
          (moves.op_of mover (words_among (parts_in text (take place rest))) (words_among (parts_in text (drop (place + 1) rest)))) is around.asked));
    }

fits_behind_is : (text : List ℕ) (first : Token) (rest : List Token) (form : Form) (fit : Fit) → IsBegun (lexed_in text first) form → FitsBehind text form rest fit → FitsForms text (first ∷ rest) fit
fits_behind_is text first rest form (Stops count) is fits =
    subst (StopsBehind text (first ∷ rest)) (sym fits.1) (stops_behind text first rest form fits.0 is fits.2)
fits_behind_is text first rest form More is fits = (
  begun_line (lexed_in text first) (parts_in text rest) form is fits.0,
  λ change line. fits.1 change (behind_line (lexed_in text first) (parts_in text rest) form change is.begun line),
)
fits_behind_is text first rest form (Whole verb) is fits = (
  omega arith,
  line_of (lexed_in text first) (parts_in text rest) form (op_of verb (words_among (parts_in text rest))) is fits,
)
fits_behind_is text first rest form (Around mover at) is fits =
    subst (SpellsAround text (first ∷ rest) mover) (sym fits.1) (around_behind text first rest form mover fits.0 is fits.2)

-- a line that a form begins
pub fits_behind : (text : List ℕ) (tokens : List Token) (d : Token) (form : Form) (fit : Fit) → 1 ≤ length tokens → form_at (is_word_kind (get_or tokens 0 d).kind) (word_in text (get_or tokens 0 d)) ≡ Some form → FitsBehind text form (take (length tokens - 1) (drop 1 tokens)) fit → FitsForms text tokens fit
fits_behind text [] d form fit some begun fits = absurd (omega (arith, some))
fits_behind text (first ∷ rest) d form fit some begun fits =
    let is = begun_if (is_word_kind first.kind) (lexed_in text first).word form begun in
    let whole : take (length (first ∷ rest) - 1) rest ≡ rest = take_all (length (first ∷ rest) - 1) rest (omega arith) in
    fits_behind_is text first rest form fit (record { word = is.0; begun = is.1 }) (subst (λ ts. FitsBehind text form ts fit) whole fits)
