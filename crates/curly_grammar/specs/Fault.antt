-- The leftmost fault of a text that isn't read. Its place is determined by the grammar alone. Which faults there are is this project's own.
use Rattle.std.specs.Prelude.{◌≡◌, ◌≤◌, ◌<◌, ◌+◌, ℕ, List, [], ◌++◌, length, map, take, slice_get}
use Rattle.std.specs.Prelude.{Bool, true, false, Option, Some, None}
use Rattle.cfg_base.specs.declared.path.Step.{Step}
use Rattle.cfg_base.specs.declared.value.Value.{Value}
use Rattle.cfg_entries.specs.EntryMap.{Pair}
use Rattle.cfg_lex.specs.declared.fault.LexFault.{LexFault}
use Rattle.cfg_lex.specs.declared.fault.LexFault.TheVariants as lexical
use Rattle.cfg_lex.specs.declared.token.Token.{Token}
use Rattle.cfg_lex.specs.declared.token.TokenKind.{TokenKind}
use Rattle.cfg_lex.specs.declared.token.TokenKind.TheVariants as kind
use Rattle.cfg_lex.specs.Lexed.{Lexed, lexed_in}
use Rattle.cfg_lex.specs.Tokens.{IsTokens, capped}
use Rattle.cfg_lex.specs.Tokens as lex
use Rattle.cfg_schema.specs.declared.answer.Child.{Child}
use Rattle.cfg_schema.specs.declared.answer.Child.TheVariants as begun
use Rattle.cfg_tree.specs.declared.limit.TheConstants.{MAX_STATEMENTS}
use Rattle.cfg_tree.specs.Stated.{different}
use Rattle.curly_grammar.specs.declared.fault.TextFault.{TextFault}
use Rattle.curly_grammar.specs.declared.fault.TextFault.TheVariants as fault
use Rattle.curly_grammar.specs.declared.fault.Why.{Why}
use Rattle.curly_grammar.specs.declared.fault.Why.TheVariants.{Unexpected, Unknown, BadValue}
use Rattle.curly_grammar.specs.declared.phase.Phase.{Phase}
use Rattle.curly_grammar.specs.declared.phase.Phase.TheVariants.{Between, Marked, Naming, Valuing, Listing, After}
use Rattle.curly_grammar.specs.Grammar.{Level, is_open, is_mark, Derives, Begins}
use Rattle.curly_grammar.specs.Reading.{ReadState, Run, start, child_at, Goes, begun_paths}

-- a word that doesn't begin a step: no row takes it, or it is a bare name that isn't of its kind
abbrev pub why_no_step : Child → Why
why_no_step begun.Unknown = Unknown
why_no_step (begun.BadName row) = BadValue
why_no_step (begun.Row row) = BadValue

-- a word that doesn't begin a statement: a mark, where none can stand, or no step
abbrev pub why_no_statement : Bool → Level → Lexed → Why
why_no_statement true here token = Unexpected
why_no_statement false here token = why_no_step (child_at here token.word [])

-- a word after a step: a level may have a further one, and any other statement has to end
abbrev pub why_no_more : Bool → Level → List ℕ → Why
why_no_more true level word = why_no_step (child_at level word [])
why_no_more false level word = Unexpected

-- why a word isn't taken in a level's text
abbrev pub why_no_word : Phase → Level → Lexed → Why
why_no_word Between here token = why_no_statement (is_mark token) here token
why_no_word (Marked marks) here token = why_no_statement (is_mark token) here token
why_no_word (Naming marks at head) here token = BadValue
why_no_word (Valuing marks level) here token = BadValue
why_no_word (Listing marks level words) here token = BadValue
why_no_word (After level) here token = why_no_more (is_open level) level token.word

abbrev pub why_by : TokenKind → ReadState → Lexed → Why
why_by kind.Bare s token = why_no_word s.phase s.here token
why_by kind.Quoted s token = why_no_word s.phase s.here token
why_by _ s token = Unexpected

-- why a token isn't taken in a state; at the end of the text something had to come
abbrev pub why_not : ReadState → Option Lexed → Why
why_not s None = Unexpected
why_not s (Some token) = why_by token.kind s token

-- the paths of all statements that are met, in their order: those that are said, and the one that has begun
abbrev pub paths_met : Run → List (List Step)
paths_met run = map (λ (item : Pair Value). item.0) run.items ++ begun_paths run.state.phase

-- where tokens cease to be a text of the grammar: those before the place begin one, and with the token at the place they begin none; or all
-- begin one and are none
pub record IsEndOfBeginning (tokens : List Lexed) (at : ℕ) : Type 0 where
  pub within : at ≤ length tokens
  pub begins : Begins (take at tokens)
  pub no_more : at < length tokens → ¬ (Begins (take (at + 1) tokens))
  pub no_end : at ≡ length tokens → (items : List (Pair Value)) (tags : List (List Step)) → ¬ (Derives tokens items tags)

-- the byte at which a token begins, or the end of the text
abbrev pub byte_of : List ℕ → Option Token → ℕ
byte_of text None = length text
byte_of text (Some token) = token.start

-- a text isn't read for this reason, at this byte; it hasn't too many statements before it
pub record IsRefused (text : List ℕ) (why : Why) (byte : ℕ) : Type 0 where
  pub tokens : List Token
  pub are_tokens : IsTokens text tokens
  pub at : ℕ
  pub ends : IsEndOfBeginning (map (lexed_in text) tokens) at
  pub run : Run
  pub read : Goes start (take at (map (lexed_in text) tokens)) run
  pub few : different (paths_met run) ≤ MAX_STATEMENTS
  pub why_is : why ≡ why_not run.state (slice_get (map (lexed_in text) tokens) at)
  pub byte_is : byte ≡ capped (byte_of text (slice_get tokens at))

-- more statements than a tree has are met in tokens that begin a text
pub record HasTooMany (text : List ℕ) : Type 0 where
  pub tokens : List Token
  pub are_tokens : IsTokens text tokens
  pub at : ℕ
  pub within : at ≤ length tokens
  pub run : Run
  pub read : Goes start (take at (map (lexed_in text) tokens)) run
  pub many : MAX_STATEMENTS < different (paths_met run)

-- a text's lexical fault
abbrev pub of_lexical : LexFault → TextFault
of_lexical (lexical.BadByte byte) = fault.BadByte byte
of_lexical (lexical.OpenComment byte) = fault.OpenComment byte
of_lexical (lexical.OpenQuote byte) = fault.OpenQuote byte
of_lexical (lexical.LongWord byte) = fault.LongWord byte
of_lexical lexical.NoMemory = fault.NoMemory

-- the fault of a text that isn't read for this reason, at this byte
abbrev pub of_reason : Why → ℕ → TextFault
of_reason Unexpected byte = fault.Unexpected byte
of_reason Unknown byte = fault.Unknown byte
of_reason BadValue byte = fault.BadValue byte

-- the leftmost fault of a text
abbrev pub IsLeftmostFault : List ℕ → TextFault → Type 0
IsLeftmostFault text (fault.BadByte byte) = lex.IsLeftmostFault text (lexical.BadByte byte)
IsLeftmostFault text (fault.OpenComment byte) = lex.IsLeftmostFault text (lexical.OpenComment byte)
IsLeftmostFault text (fault.OpenQuote byte) = lex.IsLeftmostFault text (lexical.OpenQuote byte)
IsLeftmostFault text (fault.LongWord byte) = lex.IsLeftmostFault text (lexical.LongWord byte)
IsLeftmostFault text (fault.Unexpected byte) = IsRefused text Unexpected byte
IsLeftmostFault text (fault.Unknown byte) = IsRefused text Unknown byte
IsLeftmostFault text (fault.BadValue byte) = IsRefused text BadValue byte
IsLeftmostFault text fault.TooMany = HasTooMany text
IsLeftmostFault text fault.NoMemory = ⊥
