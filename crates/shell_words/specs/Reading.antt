-- What a line asks, in operational and in configuration mode.
-- Junos OS CLI User Guide, on the commands of operational and of configuration mode; the places of faults are this project's own.
use Rattle.std.specs.Prelude.{◌≡◌, ◌⊎◌, ◌<◌, ◌≤◌, ◌+◌, ℕ, List, [], ◌∷◌, length, map, take, drop, Bool}
use Rattle.std.specs.Prelude.{Option, None, Some, Result, Ok, Err}
use Rattle.cfg_lex.specs.declared.token.Token.{Token}
use Rattle.cfg_lex.specs.declared.fault.LexFault.{LexFault}
use Rattle.cfg_lex.specs.declared.fault.LexFault.TheVariants as lex
use Rattle.cfg_lex.specs.Tokens.{IsCut}
pub use Rattle.cfg_lex.specs.Tokens.{capped}
use Rattle.shell_words.specs.declared.form.CommandForm.{CommandForm}
use Rattle.shell_words.specs.declared.making.Words0.{Words0}
use Rattle.shell_words.specs.declared.reader.ReadFault.{ReadFault}
use Rattle.shell_words.specs.declared.reader.ReadFault.TheVariants.{Syntax, NoMemory}
use Rattle.shell_words.specs.Item.{Item, item_in}
use Rattle.shell_words.specs.Form.{IsIn, Begins}
use Rattle.shell_words.specs.Made.{made_by}

-- the place of the first token, or else the end
abbrev pub first_place : List Item → ℕ → ℕ
first_place [] end = end
first_place (item ∷ items) end = item.place

-- a line of these tokens is in a form, and this is what it asks
pub record AsksByForm (configuring : Bool) (items : List Item) (answer : Result (Option Words0) ℕ) : Type 0 where
  pub form : CommandForm
  pub words : List (List ℕ)
  pub line : IsIn configuring items form words
  pub is : answer ≡ Ok (Some (made_by form.makes items words))

-- a line begins with so many of these tokens and with no more; the place reported is that of the next token, or the end
pub record IsMisfit (configuring : Bool) (items : List Item) (end : ℕ) (answer : Result (Option Words0) ℕ) : Type 0 where
  pub count : ℕ
  pub within : count ≤ length items
  pub begins : Begins configuring (take count items)
  pub stops : count < length items → Begins configuring (take (count + 1) items) → ⊥
  pub is : answer ≡ Err (capped (first_place (drop count items) end))

-- a line of these tokens is in no form
abbrev pub IsInNone : Bool → List Item → Type 0
IsInNone configuring items = (form : CommandForm) (words : List (List ℕ)) → IsIn configuring items form words → ⊥

-- what these tokens ask, which are all of a line: nothing, what their form makes, or the place where the line fits no form
abbrev pub AnswersWhole : Bool → List Item → ℕ → Result (Option Words0) ℕ → Type 0
AnswersWhole configuring [] end answer = answer ≡ Ok None
AnswersWhole configuring (item ∷ items) end answer =
    AsksByForm configuring (item ∷ items) answer
    ⊎ (IsInNone configuring (item ∷ items) × IsMisfit configuring (item ∷ items) end answer)

-- where a lexical fault stands; want of memory is none
abbrev pub place_of : LexFault → ℕ
place_of (lex.BadByte place) = place
place_of (lex.OpenComment place) = place
place_of (lex.OpenQuote place) = place
place_of (lex.LongWord place) = place
place_of lex.NoMemory = 0

-- what a line of these tokens asks. A lexical fault after them is one token more, that fits no form, at its own place
abbrev pub Answers : Bool → List Item → Option LexFault → ℕ → Result (Option Words0) ℕ → Type 0
Answers configuring items None end answer = AnswersWhole configuring items end answer
Answers configuring items (Some fault) end answer = IsMisfit configuring items (place_of fault) answer

-- what a line asks: a command, a load of the text after it, nothing, or the place of its syntax error
pub record IsReading (configuring : Bool) (line : List ℕ) (answer : Result (Option Words0) ℕ) : Type 0 where
  pub tokens : List Token
  pub fault : Option LexFault
  pub cut : IsCut line tokens fault
  pub answers : Answers configuring (map (item_in line) tokens) fault (length line) answer

-- what the reader answers is so, unless memory runs out
abbrev pub Gives : (Result (Option Words0) ℕ → Type 0) → Result (Option Words0) ReadFault → Type 0
Gives Is (Ok made) = Is (Ok made)
Gives Is (Err (Syntax place)) = Is (Err place)
Gives Is (Err NoMemory) = Unit {0}
