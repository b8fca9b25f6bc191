-- Tokens as they are read: what each is, and which word it means. Junos OS CLI User Guide, on configuration statements.
use Rattle.std.specs.Prelude.{ℕ, List, Bool, true, false, ◌&&◌}
use Rattle.cfg_base.specs.Words.{same_word}
use Rattle.cfg_lex.specs.declared.token.Token.{Token}
use Rattle.cfg_lex.specs.declared.token.TokenKind.{TokenKind}
use Rattle.cfg_lex.specs.declared.token.TokenKind.TheVariants.{OpenBrace, CloseBrace, OpenBracket, CloseBracket, Semicolon, Bare, Quoted}
use Rattle.cfg_lex.specs.Tokens.{word_in}

-- a token as it is read: its kind, and the word that it means; of a sign the empty one
pub record Lexed : Type 0 where
  pub kind : TokenKind
  pub word : List ℕ

-- a token of this kind that means this word
abbrev pub lexed : TokenKind → List ℕ → Lexed
lexed kind word = record { kind = kind; word = word }

-- a token as it is read in its text
abbrev pub lexed_in : List ℕ → Token → Lexed
lexed_in text token = lexed token.kind (word_in text token)

-- a token of this kind is a word, bare or in quotes
abbrev pub is_word_kind : TokenKind → Bool
is_word_kind OpenBrace = false
is_word_kind CloseBrace = false
is_word_kind OpenBracket = false
is_word_kind CloseBracket = false
is_word_kind Semicolon = false
is_word_kind Bare = true
is_word_kind Quoted = true

-- a token of this kind is a bare word
abbrev pub is_bare_kind : TokenKind → Bool
is_bare_kind OpenBrace = false
is_bare_kind CloseBrace = false
is_bare_kind OpenBracket = false
is_bare_kind CloseBracket = false
is_bare_kind Semicolon = false
is_bare_kind Bare = true
is_bare_kind Quoted = false

-- a token of this kind is `[`
abbrev pub is_open_bracket : TokenKind → Bool
is_open_bracket OpenBrace = false
is_open_bracket CloseBrace = false
is_open_bracket OpenBracket = true
is_open_bracket CloseBracket = false
is_open_bracket Semicolon = false
is_open_bracket Bare = false
is_open_bracket Quoted = false

-- a token of this kind is `]`
abbrev pub is_close_bracket : TokenKind → Bool
is_close_bracket OpenBrace = false
is_close_bracket CloseBrace = false
is_close_bracket OpenBracket = false
is_close_bracket CloseBracket = true
is_close_bracket Semicolon = false
is_close_bracket Bare = false
is_close_bracket Quoted = false

-- the token is this word, bare or in quotes
abbrev pub is_this_word : List ℕ → Lexed → Bool
is_this_word word token = is_word_kind token.kind && same_word word token.word

-- the token is this word, and bare
abbrev pub is_bare_word : List ℕ → Lexed → Bool
is_bare_word word token = is_bare_kind token.kind && same_word word token.word
