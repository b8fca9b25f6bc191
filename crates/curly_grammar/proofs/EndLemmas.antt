-- Where tokens cease to begin a text, and that each text has one answer.
use Rattle.std.proofs.Common.{◌≡◌, ℕ, zero, suc, ◌+◌, ◌<◌, ◌≤◌, false, List, [], ◌∷◌, ◌++◌, length, map, take, drop, get_or, Some, None, refl, sym, ap, subst, ◌∙◌, append-nil, append_assoc, arith}
use Rattle.std.specs.Prelude.{slice_get}
use Rattle.std.specs.List.{AllByRecursion}
use Rattle.std.proofs.lemmas.List.{take_more, take_all, take-append-drop, take-take}
use Rattle.std.proofs.lemmas.Option.{slice_get-get_or, slice_get_past}
use Rattle.cfg_lex.specs.declared.token.Token.{Token}
use Rattle.cfg_lex.specs.declared.token.TokenKind.{TokenKind}
use Rattle.cfg_lex.specs.declared.token.TokenKind.TheVariants as kind
use Rattle.cfg_lex.specs.Lexed.{Lexed, lexed_in, is_word_kind}
use Rattle.cfg_lex.specs.Tokens.{word_spelled, bytes_in}
use Rattle.curly_grammar.specs.Grammar.{sign, Derives, Begins}
use Rattle.curly_grammar.specs.Reading.{start, IsFinal, Run, and_then, Takes, Goes}
use Rattle.curly_grammar.specs.Fault.{IsEndOfBeginning}
use Rattle.curly_grammar.proofs.RunLemmas.{run_of, goes_join, goes_split, goes_once}
use Rattle.curly_grammar.proofs.GoesLemmas.{derived_goes}
use Rattle.curly_grammar.proofs.LeftLemmas.{IsLexed, goes_derived}
use Rattle.curly_grammar.proofs.ClosingLemmas.{ends}
use Rattle.curly_grammar.proofs.StandingLemmas.{sound_fair, read_sound}

sign_means : (k : TokenKind) (bytes : List ℕ) → is_word_kind k ≡ false → word_spelled k bytes ≡ []
sign_means kind.OpenBrace bytes h = refl
sign_means kind.CloseBrace bytes h = refl
sign_means kind.OpenBracket bytes h = refl
sign_means kind.CloseBracket bytes h = refl
sign_means kind.Semicolon bytes h = refl
sign_means kind.Bare bytes h = cc
sign_means kind.Quoted bytes h = cc

-- the tokens of a text
pub are_lexed : (text : List ℕ) (tokens : List Token) → AllByRecursion IsLexed (map (lexed_in text) tokens)
are_lexed text [] = tt
are_lexed text (token ∷ tokens) = (λ h. sign_means token.kind (bytes_in text token) h, are_lexed text tokens)

all_join : (xs ys : List Lexed) → AllByRecursion IsLexed xs → AllByRecursion IsLexed ys → AllByRecursion IsLexed (xs ++ ys)
all_join [] ys h g = g
all_join (x ∷ xs) ys h g = (h.0, all_join xs ys h.1 g)

-- and those at the front
pub all_front : (n : ℕ) (xs : List Lexed) → AllByRecursion IsLexed xs → AllByRecursion IsLexed (take n xs)
all_front zero xs h = tt
all_front (suc n) [] h = tt
all_front (suc n) (x ∷ xs) h = (h.0, all_front n xs h.1)

-- what is read begins a text
pub begins_run : (tokens : List Lexed) (run : Run) → AllByRecursion IsLexed tokens → Goes start tokens run → Begins tokens
begins_run tokens run are goes =
    let sound = read_sound tokens run goes
    in let end = ends run.state.phase run.state.here run.state.outer (sound_fair _ run.state.phase run.state.here sound.state.phase)
    in record {
      more = end.tokens;
      items = run.items ++ end.run.items;
      tags = run.tags ++ end.run.tags;
      derives = goes_derived (tokens ++ end.tokens) (and_then run end.run) (all_join tokens end.tokens are end.are) (goes_join tokens end.tokens start run end.run goes end.goes) end.final;
    }

-- and what begins a text is read
pub begun_run : (xs ys : List Lexed) → Begins (xs ++ ys) → (run : Run) × Goes start xs run
begun_run xs ys h =
    let goes = derived_goes ((xs ++ ys) ++ h.more) h.items h.tags h.derives
    in let front = goes_split (xs ++ ys) h.more start _ goes
    in let parts = goes_split xs ys start front.one front.first
    in (parts.one, parts.first)

-- two runs over tokens that begin alike
pub run_front : (xs ys : List Lexed) (one two : Run) → Goes start xs one → Goes start (xs ++ ys) two → (more : Run) × Goes one.state ys more × (two ≡ and_then one more)
run_front xs ys one two goes both =
    let parts = goes_split xs ys start two both
    in let same = goes_once xs start parts.one one parts.first goes
    in (
      parts.two,
      subst (λ (r : Run). Goes r.state ys parts.two) same parts.second,
      parts.joined ∙ ap (λ (r : Run). and_then r parts.two) same,
    )

-- a token that isn't taken ends the beginning of a text, and so does the end of the tokens where a text isn't whole
pub end_of_beginning : (tokens : List Lexed) (at : ℕ) (run : Run) → AllByRecursion IsLexed tokens → at ≤ length tokens → Goes start (take at tokens) run
    → ((token : Lexed) → slice_get tokens at ≡ Some token → (one : Run) → Takes run.state token one → ⊥)
    → (slice_get tokens at ≡ None → IsFinal run.state → ⊥)
    → IsEndOfBeginning tokens at
end_of_beginning tokens at run are within goes not_taken not_final = record {
  within = within;
  begins = begins_run (take at tokens) run (all_front at tokens are) goes;
  no_more = λ below begins.
      let token : Lexed = get_or tokens at (sign kind.Semicolon)
      in let there = slice_get-get_or tokens at (sign kind.Semicolon) below
      in let longer : Begins ((take at tokens ++ token ∷ []) ++ []) =
      subst (λ (ts : List Lexed). Begins ts) (take_more tokens at (sign kind.Semicolon) below ∙ sym (append-nil (take at tokens ++ token ∷ []))) begins
      in let both = begun_run (take at tokens ++ token ∷ []) [] longer
      in let more = run_front (take at tokens) (token ∷ []) run both.0 goes both.1
      in not_taken token there more.1.0 more.1.2;
  no_end = λ all items tags derives.
      let whole : Goes start (take at tokens) (run_of start items tags) =
      subst (λ (ts : List Lexed). Goes start ts (run_of start items tags)) (sym (take_all at tokens (omega (arith, all)))) (derived_goes tokens items tags derives)
      in let same = goes_once (take at tokens) start run (run_of start items tags) goes whole
      in not_final (slice_get_past tokens at (omega (arith, all))) (subst (λ (r : Run). IsFinal r.state) (sym same) record { closed = refl; whole = refl });
}

begins_front : (xs ys : List Lexed) → Begins (xs ++ ys) → Begins xs
begins_front xs ys h = record {
  more = ys ++ h.more;
  items = h.items;
  tags = h.tags;
  derives = subst (λ (ts : List Lexed). Derives ts h.items h.tags) (append_assoc xs ys h.more) h.derives;
}

-- fewer tokens of those that begin a text begin one too
begins_fewer : (tokens : List Lexed) (m n : ℕ) → m ≤ n → Begins (take n tokens) → Begins (take m tokens)
begins_fewer tokens m n l h =
    subst (λ (ts : List Lexed). Begins ts) (take-take m n tokens l)
    (begins_front (take m (take n tokens)) (drop m (take n tokens)) (subst (λ (ts : List Lexed). Begins ts) (sym (take-append-drop m (take n tokens))) h))

-- no token after the end of the beginning begins a text
pub not_behind : (tokens : List Lexed) (one two : ℕ) → IsEndOfBeginning tokens one → two ≤ length tokens → Begins (take two tokens) → one < two → ⊥
not_behind tokens one two end within begins l = end.no_more (omega (arith, within, l)) (begins_fewer tokens (one + 1) two (omega (arith, l)) begins)

-- there is one such place
pub place_once : (tokens : List Lexed) (one two : ℕ) → IsEndOfBeginning tokens one → IsEndOfBeginning tokens two → one ≡ two
place_once tokens one two a b =
    let before : one < two → ⊥ = not_behind tokens one two a b.within b.begins
    in let after : two < one → ⊥ = not_behind tokens two one b a.within a.begins
    in omega arith
