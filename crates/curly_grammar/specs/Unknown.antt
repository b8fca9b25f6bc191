-- Where a word begins a step, determined by the grammar alone: how a text stands up to there. This is this project's own.
use Rattle.std.specs.Prelude.{◌≡◌, ◌⊎◌, ◌<◌, ℕ, List, [], ◌∷◌, ◌++◌, length, map, take, slice_get, true, false, Some}
use Rattle.std.specs.List.{flat_map, AllByRecursion}
use Rattle.cfg_base.specs.declared.path.Step.{Step}
use Rattle.cfg_base.specs.declared.value.Value.{Value}
use Rattle.cfg_entries.specs.EntryMap.{Pair}
use Rattle.cfg_lex.specs.declared.token.Token.{Token}
use Rattle.cfg_lex.specs.declared.token.TokenKind.TheVariants as kind
use Rattle.cfg_lex.specs.Lexed.{Lexed, lexed_in}
use Rattle.cfg_lex.specs.Tokens.{IsTokens, capped}
use Rattle.cfg_schema.specs.declared.answer.Child.TheVariants as begun
use Rattle.cfg_schema.specs.Child as schema
use Rattle.curly_grammar.specs.Grammar.{Level, Part, Text, IsWord, Says, Tells, is_mark, is_open, sign, spell, spell_part, top_level}
use Rattle.curly_grammar.specs.Reading.{HasRows}
use Rattle.curly_grammar.specs.Fault.{byte_of}

-- whole statements of a level
pub record AreStatements (here : Level) (tokens : List Lexed) : Type 0 where
  pub text : Text
  pub items : List (Pair Value)
  pub tags : List (List Step)
  pub tells : Tells text here items tags
  pub spelled : tokens ≡ spell text

-- a statement of a level without its end: its marks, and its steps, of which the last leads to this level
pub record IsStatement (here : Level) (tokens : List Lexed) (last : Level) : Type 0 where
  pub marks : List Lexed
  pub first : Part
  pub more : List Part
  pub own : List (Pair Value)
  pub says : Says here marks first more own last
  pub spelled : tokens ≡ marks ++ flat_map spell_part (first ∷ more)

-- tokens up to where the text of a level begins, at the top or after the brace of a statement; the levels around it, from the inside
abbrev pub Enters : List Level → Level → List Lexed → Type 0
Enters [] here tokens = (here ≡ top_level) × (tokens ≡ [])
Enters (up ∷ outer) here tokens =
    (around : List Lexed) × (before : List Lexed) × (own : List Lexed)
    × Enters outer up around × AreStatements up before × IsStatement up own here × (is_open here ≡ true)
    × (tokens ≡ around ++ (before ++ (own ++ sign kind.OpenBrace ∷ [])))

-- tokens up to a place in the text of a level, the last of them those of a statement that has begun
pub record InText (outer : List Level) (here : Level) (tokens own : List Lexed) : Type 0 where
  pub around : List Lexed
  pub before : List Lexed
  pub enters : Enters outer here around
  pub whole : AreStatements here before
  pub joined : tokens ≡ around ++ (before ++ own)

-- after these tokens a statement of the level begins with this word, which isn't a mark; other marks may stand before it
pub record BeginsStatement (outer : List Level) (here : Level) (tokens : List Lexed) (word : Lexed) : Type 0 where
  pub marks : List Lexed
  pub in_text : InText outer here tokens marks
  pub are_marks : AllByRecursion (λ token. is_mark token ≡ true) marks
  pub some_rows : 0 < length marks → HasRows here
  pub no_mark : is_mark word ≡ false

-- after these tokens a statement, whose steps lead to this level, may have a further step
pub record GoesOn (outer : List Level) (here : Level) (tokens : List Lexed) (level : Level) : Type 0 where
  pub own : List Lexed
  pub in_text : InText outer here tokens own
  pub statement : IsStatement here own level
  pub opens : is_open level ≡ true

-- after these tokens this word begins a step at this level
abbrev pub BeginsStepAt : List Level → Level → List Lexed → Lexed → Level → Type 0
BeginsStepAt outer here tokens word level =
    ((level ≡ here) × BeginsStatement outer here tokens word) ⊎ GoesOn outer here tokens level

-- at this byte of a text a word begins a step, and no row of its level takes the word
pub record IsUnknownAt (text : List ℕ) (byte : ℕ) : Type 0 where
  pub tokens : List Token
  pub are_tokens : IsTokens text tokens
  pub at : ℕ
  pub word : Lexed
  pub there : slice_get (map (lexed_in text) tokens) at ≡ Some word
  pub is_word : IsWord word
  pub outer : List Level
  pub here : Level
  pub level : Level
  pub begins : BeginsStepAt outer here (take at (map (lexed_in text) tokens)) word level
  pub untaken : schema.Begins level.place.row level.place.in_group word.word [] begun.Unknown
  pub byte_is : byte ≡ capped (byte_of text (slice_get tokens at))
