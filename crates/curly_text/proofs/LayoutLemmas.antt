-- The parts of a printed statement, and their tokens.
use Rattle.std.proofs.Common.{ℕ, Bool, true, false, List, [], ◌∷◌, ◌++◌, map as each, codes, refl, Some, if◌then◌else◌, arith}
use Rattle.cfg_base.specs.declared.path.Step.{Step}
use Rattle.cfg_base.specs.declared.value.Value.{Value}
use Rattle.cfg_lex.specs.declared.token.TokenKind.TheVariants as kind
use Rattle.cfg_lex.specs.Lexed.{Lexed}
use Rattle.cfg_tree.specs.OwnWords.{own_words}
use Rattle.curly_grammar.specs.Grammar.{sign}
use Rattle.cfg_lex.specs.declared.mark.Mark.TheVariants.{Inactive, Protect}
use Rattle.cfg_lex.specs.Mark.{mark_word}
use Rattle.curly_print.specs.Printed.{mark_text, marks_of, words_line, value_text, line_of, ended, statement_text}
use Rattle.curly_print.specs.Printing.{blank_words}
use Rattle.curly_text.proofs.LexedLemmas.{Closed, Open, Stops, Shuts, closed_closed, closed_open, open_open, open_closed, nothing_made, space_made, sign_made, bare_made, lexed_word, word_made, spaces_made}
use Rattle.curly_text.proofs.PrintableLemmas.{AllPrintable}

-- the tokens of the marks of a value
abbrev pub inactive_mark : Lexed
inactive_mark = record { kind = kind.Bare; word = mark_word Inactive }

abbrev pub protect_mark : Lexed
protect_mark = record { kind = kind.Bare; word = mark_word Protect }

abbrev pub mark_if : Bool → Lexed → List Lexed
mark_if there mark = (if there then mark ∷ [] else [])

abbrev pub mark_tokens : Value → List Lexed
mark_tokens value = mark_if value.inactive inactive_mark ++ mark_if value.protected protect_mark

inactive_made : (there : Bool) → Closed (if there then mark_text Inactive else []) (mark_if there inactive_mark)
inactive_made true = open_closed {t = inactive_mark ∷ []} {u = []} (bare_made (mark_word Inactive) (omega arith) refl (omega arith)) (space_made 32 refl) (λ rest. refl)
inactive_made false = nothing_made

protect_made : (there : Bool) → Closed (if there then mark_text Protect else []) (mark_if there protect_mark)
protect_made true = open_closed {t = protect_mark ∷ []} {u = []} (bare_made (mark_word Protect) (omega arith) refl (omega arith)) (space_made 32 refl) (λ rest. refl)
protect_made false = nothing_made

marks_made : (value : Value) → Closed (marks_of value) (mark_tokens value)
marks_made value = closed_closed (inactive_made value.inactive) (protect_made value.protected)

-- words after one another
abbrev pub word_tokens : List (List ℕ) → List Lexed
word_tokens words = each lexed_word words

blanks_stop : (words : List (List ℕ)) → Stops (blank_words words)
blanks_stop [] rest h = h
blanks_stop (word ∷ words) rest h = refl

blanks_made : (words : List (List ℕ)) → AllPrintable words → Open (blank_words words) (word_tokens words)
blanks_made [] h = λ rest e. nothing_made rest
blanks_made (word ∷ words) h =
    open_open {t = lexed_word word ∷ []} (closed_open {t = []} (space_made 32 refl) (word_made word h.0)) (blanks_made words h.1) (blanks_stop words)

line_made : (words : List (List ℕ)) → AllPrintable words → Open (words_line words) (word_tokens words)
line_made [] h = λ rest e. nothing_made rest
line_made (word ∷ words) h = open_open {t = lexed_word word ∷ []} (word_made word h.0) (blanks_made words h.1) (blanks_stop words)

-- the words of a value
abbrev pub value_tokens : List (List ℕ) → List Lexed
value_tokens [] = []
value_tokens (word ∷ []) = lexed_word word ∷ []
value_tokens (word ∷ next ∷ words) = sign kind.OpenBracket ∷ (word_tokens (word ∷ next ∷ words) ++ sign kind.CloseBracket ∷ [])

value_stops : (words : List (List ℕ)) → Stops (value_text words)
value_stops [] rest h = h
value_stops (word ∷ []) rest h = refl
value_stops (word ∷ next ∷ words) rest h = refl

value_made : (words : List (List ℕ)) → AllPrintable words → Open (value_text words) (value_tokens words)
value_made [] h = λ rest e. nothing_made rest
value_made (word ∷ []) h = closed_open {t = []} (space_made 32 refl) (word_made word h.0)
value_made (word ∷ next ∷ words) h =
    closed_open {a = codes " [ "} {t = sign kind.OpenBracket ∷ []}
    (closed_closed {a = 32 ∷ []} {t = []} (space_made 32 refl)
    (closed_closed {a = 91 ∷ []} {t = sign kind.OpenBracket ∷ []} {u = []} (sign_made 91 kind.OpenBracket refl) (space_made 32 refl)))
    (λ rest e.
    open_closed {b = codes " ]"} (line_made (word ∷ next ∷ words) h)
    (closed_closed {a = 32 ∷ []} {t = []} (space_made 32 refl) (sign_made 93 kind.CloseBracket refl)) (λ more. refl) rest)

-- a statement's line
abbrev pub line_tokens : Step → Value → List Lexed
line_tokens step value = mark_tokens value ++ (word_tokens (own_words (step ∷ [])) ++ value_tokens value.words)

statement_line : (step : Step) (value : Value) → AllPrintable (own_words (step ∷ [])) → AllPrintable value.words → Open (line_of step value) (line_tokens step value)
statement_line step value own words =
    closed_open (marks_made value) (open_open (line_made (own_words (step ∷ [])) own) (value_made value.words words) (value_stops value.words))

-- a statement's end
abbrev pub end_tokens : List ℕ → List Lexed → List Lexed
end_tokens [] tokens = sign kind.Semicolon ∷ []
end_tokens (byte ∷ body) tokens = sign kind.OpenBrace ∷ (tokens ++ sign kind.CloseBrace ∷ [])

end_shuts : (indent : ℕ) (body : List ℕ) → Shuts (ended indent body)
end_shuts indent [] rest = refl
end_shuts indent (byte ∷ body) rest = refl

end_made : (indent : ℕ) (body : List ℕ) (tokens : List Lexed) → Closed body tokens → Closed (ended indent body) (end_tokens body tokens)
end_made indent [] tokens made =
    closed_closed {a = 59 ∷ []} {t = sign kind.Semicolon ∷ []} {u = []} (sign_made 59 kind.Semicolon refl) (space_made 10 refl)
end_made indent (byte ∷ body) tokens made =
    closed_closed {a = codes " {\n"} {t = sign kind.OpenBrace ∷ []}
    (closed_closed {a = 32 ∷ []} {t = []} (space_made 32 refl)
    (closed_closed {a = 123 ∷ []} {t = sign kind.OpenBrace ∷ []} {u = []} (sign_made 123 kind.OpenBrace refl) (space_made 10 refl)))
    (closed_closed {a = byte ∷ body} made
    (closed_closed {t = []} (spaces_made indent)
    (closed_closed {a = 125 ∷ []} {t = sign kind.CloseBrace ∷ []} {u = []} (sign_made 125 kind.CloseBrace refl) (space_made 10 refl))))

-- a statement that is there
pub statement_made : (indent : ℕ) (step : Step) (value : Value) (body : List ℕ) (tokens : List Lexed) → AllPrintable (own_words (step ∷ [])) → AllPrintable value.words
    → Closed body tokens → Closed (statement_text indent step (Some value) body) (line_tokens step value ++ end_tokens body tokens)
statement_made indent step value body tokens own words made =
    closed_closed {t = []} (spaces_made indent) (open_closed (statement_line step value own words) (end_made indent body tokens made) (end_shuts indent body))
