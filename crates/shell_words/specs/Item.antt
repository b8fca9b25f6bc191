-- The tokens of a line, as the forms of commands see them.
use Rattle.std.specs.Prelude.{ℕ, List}
use Rattle.cfg_lex.specs.declared.token.Token.{Token}
use Rattle.cfg_lex.specs.Lexed.{Lexed, lexed_in}

-- a token as it is read, and the place of its first byte
pub record Item : Type 0 where
  pub token : Lexed
  pub place : ℕ

-- a token of a line
abbrev pub item_in : List ℕ → Token → Item
item_in line token = record { token = lexed_in line token; place = token.start }
