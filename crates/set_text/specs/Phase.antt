-- A plain program that reads a line after its keyword, one token after another. No public clause cites it.
use Rattle.std.specs.Prelude.{◌≡◌, ◌<◌, ℕ, Bool, true, false, List, [], ◌∷◌, length, map, take, drop, Option, Some, None}
use Rattle.cfg_lex.specs.declared.token.Token.{Token}
use Rattle.cfg_lex.specs.declared.token.TokenKind.{TokenKind}
use Rattle.cfg_lex.specs.declared.token.TokenKind.TheVariants as kind
use Rattle.set_text.specs.declared.phase.Phase.{Phase}
use Rattle.set_text.specs.declared.phase.Phase.TheVariants.{Bare, Words, Opened, Inside, Closed}

abbrev pub on_word : Phase → Option Phase
on_word Bare = Some Words
on_word Words = Some Words
on_word Opened = Some Inside
on_word Inside = Some Inside
on_word Closed = None

abbrev pub on_open : Bool → Phase → Option Phase
on_open true Bare = Some Opened
on_open true Words = Some Opened
on_open true Opened = None
on_open true Inside = None
on_open true Closed = None
on_open false phase = None

abbrev pub on_close : Phase → Option Phase
on_close Bare = None
on_close Words = None
on_close Opened = None
on_close Inside = Some Closed
on_close Closed = None

-- what a token makes of a phase, where it may stand there
abbrev pub next : Bool → Phase → TokenKind → Option Phase
next brackets phase kind.OpenBrace = None
next brackets phase kind.CloseBrace = None
next brackets phase kind.OpenBracket = on_open brackets phase
next brackets phase kind.CloseBracket = on_close phase
next brackets phase kind.Semicolon = None
next brackets phase kind.Bare = on_word phase
next brackets phase kind.Quoted = on_word phase

-- a line may end here
abbrev pub ends_at : Phase → Bool
ends_at Bare = false
ends_at Words = true
ends_at Opened = false
ends_at Inside = false
ends_at Closed = true

-- tokens of these kinds lead from one phase to another
abbrev pub PhaseLeads : Bool → Phase → List TokenKind → Phase → Type 0
PhaseLeads brackets from [] to = from ≡ to
PhaseLeads brackets from (kind ∷ kinds) to = (after : Phase) × (next brackets from kind ≡ Some after) × PhaseLeads brackets after kinds to

abbrev pub kinds_in : List Token → List TokenKind
kinds_in tokens = map (λ token. token.kind) tokens

-- so many of the tokens lead from a keyword to a phase, and the next one may not stand there
pub record StopsFrom (brackets : Bool) (tokens : List Token) (place : ℕ) : Type 0 where
  pub within : place < length tokens
  pub phase : Phase
  pub leads : PhaseLeads brackets Bare (kinds_in (take place tokens)) phase
  pub token : Token
  pub rest : List Token
  pub here : drop place tokens ≡ token ∷ rest
  pub none : next brackets phase token.kind ≡ None
