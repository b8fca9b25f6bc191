-- What stands in the words of a command line: each argument's text, and whether the flag is there.
use Rattle.std.specs.Prelude.{Bool, List, [], codes, unwrap_or}
use Rattle.std.specs.Str.{bytes_eq}
use Rattle.clap.specs.Words.{Row, Text, all_of, first_of}
use Rattle.command_line.specs.Command.{rows_in}

pub record Given : Type 0 where
  pub mode : Text
  pub place : Text
  pub sessions : List Text
  pub user : Text
  pub input : Text
  pub journal : Text
  pub access : Bool

-- the value of an argument, which is empty where it has none
abbrev pub text_of : Text → List Row → Text
text_of id rows = unwrap_or (first_of id rows) []

-- a flag is there: it has the value that stands for it
abbrev pub has_flag : Text → List Row → Bool
has_flag id rows = bytes_eq (text_of id rows) (codes "true")

-- the values of an argument
abbrev pub texts_of : Text → List Row → List Text
texts_of id rows = unwrap_or (all_of id rows) []

abbrev pub given_in : List Row → Given
given_in rows = record {
  mode = text_of (codes "mode") rows;
  place = text_of (codes "place") rows;
  sessions = texts_of (codes "session") rows;
  user = text_of (codes "user") rows;
  input = text_of (codes "input") rows;
  journal = text_of (codes "journal-limit") rows;
  access = has_flag (codes "access") rows;
}

-- what the words give
abbrev pub given : List Text → Given
given words = given_in (rows_in words)
