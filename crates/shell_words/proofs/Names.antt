-- The rows of changes and what they are made of, by names that proofs above this crate may use.
use Rattle.std.proofs.Common.{◌≡◌, ℕ, List, [], ◌∷◌, map, Bool, true, false, sym}
use Rattle.std.specs.List.{list_all}
use Rattle.std.proofs.lemmas.Bool.{false≢true}
use Rattle.std.proofs.lemmas.List.{append-nil}
use Rattle.commands.specs.declared.command.Command.TheVariants as command
use Rattle.commands.specs.declared.command.Op.{Op}
use Rattle.commands.specs.declared.mover.Mover.{Mover}
use Rattle.commands.specs.declared.verb.Verb.{Verb}
use Rattle.shell_words.specs.declared.form.CommandForm.{CommandForm}
use Rattle.shell_words.specs.declared.form.Makes.{Makes}
use Rattle.shell_words.specs.declared.form.Makes.TheVariants as makes
use Rattle.shell_words.specs.declared.form.Part.{Part}
use Rattle.shell_words.specs.declared.form.Part.TheVariants.{Nothing, One, Many}
use Rattle.shell_words.specs.declared.form.Symbol.{Symbol}
use Rattle.shell_words.specs.declared.form.Symbol.TheVariants.{Keyword, Mark, Word, Neither, OpenBracket, CloseBracket}
use Rattle.shell_words.specs.declared.keyword.Keyword as keywords
use Rattle.shell_words.specs.declared.keyword.Keyword.TheVariants as key
use Rattle.shell_words.specs.declared.making.Words0.TheVariants.{Whole}
use Rattle.shell_words.specs.Item.{Item}
use Rattle.shell_words.specs.Form.{is_of, FitsParts}
use Rattle.shell_words.specs.Made.{made_by}

abbrev pub Row : Type 0
Row = CommandForm

abbrev pub change_key : Verb → keywords.Keyword
change_key verb = key.Change verb

abbrev pub move_key : Mover → keywords.Keyword
move_key mover = key.Move mover

abbrev pub mark_key : Mover → keywords.Keyword
mark_key mover = key.Mark mover

-- a word
abbrev pub any : Symbol
any = Word

-- a word that is neither mark
abbrev pub neither : Mover → Mover → Symbol
neither one other = Neither (key.Mark one) (key.Mark other)

abbrev pub keyword_of : Mover → Symbol
keyword_of mover = Keyword (key.Move mover)

abbrev pub mark_of : Mover → Symbol
mark_of mover = Mark (key.Mark mover)

-- the row of a keyword and words
abbrev pub plain : Verb → CommandForm
plain verb = record {
  first = One (Keyword (key.Change verb));
  second = One Word;
  third = Many Word;
  fourth = Nothing;
  fifth = Nothing;
  sixth = Nothing;
  seventh = Nothing;
  makes = makes.Change verb;
}

-- of a keyword and words, the last of them in brackets
abbrev pub bracketed : Verb → CommandForm
bracketed verb = record {
  first = One (Keyword (key.Change verb));
  second = Many Word;
  third = One OpenBracket;
  fourth = One Word;
  fifth = Many Word;
  sixth = One CloseBracket;
  seventh = Nothing;
  makes = makes.Change verb;
}

-- of a keyword, words but two marks, the mark of a kind, and words
abbrev pub around : Mover → Mover → Mover → CommandForm
around mover one other = record {
  first = One (Keyword (key.Move mover));
  second = One (neither one other);
  third = Many (neither one other);
  fourth = One (Mark (key.Mark mover));
  fifth = One Word;
  sixth = Many Word;
  seventh = Nothing;
  makes = makes.Move mover;
}

abbrev changes : Makes → Bool
changes (makes.Change verb) = true
changes (makes.Move mover) = true
changes other = false

-- the row makes a change
abbrev pub is_change : CommandForm → Bool
is_change form = changes form.makes

no_change : (made : Makes) → changes made ≡ false → (items : List Item) (words : List (List ℕ)) (change : Op) → Whole (command.Change change) ≡ made_by made items words → ⊥
no_change (makes.Configure mode) e items words change asked = cc
no_change (makes.ShowActive form) e items words change asked = cc
no_change makes.ShowJson e items words change asked = cc
no_change makes.ShowCommits e items words change asked = cc
no_change makes.ClearCommit e items words change asked = cc
no_change makes.Logout e items words change asked = cc
no_change (makes.Change verb) e items words change asked = false≢true (sym e)
no_change (makes.Move mover) e items words change asked = false≢true (sym e)
no_change makes.Edit e items words change asked = cc
no_change makes.Up e items words change asked = cc
no_change makes.Top e items words change asked = cc
no_change makes.Exit e items words change asked = cc
no_change makes.ExitAll e items words change asked = cc
no_change (makes.Show form) e items words change asked = cc
no_change (makes.Load way) e items words change asked = cc
no_change (makes.LoadJson way) e items words change asked = cc
no_change makes.Rollback e items words change asked = cc
no_change makes.CheckOnly e items words change asked = cc
no_change (makes.Commit confirmed comment quit) e items words change asked = cc
no_change (makes.Synchronize confirmed comment quit) e items words change asked = cc
no_change (makes.CommitAt comment) e items words change asked = cc
no_change makes.Update e items words change asked = cc
no_change makes.Status e items words change asked = cc

-- no other row does
pub others_change_nothing : (form : CommandForm) → is_change form ≡ false → (items : List Item) (words : List (List ℕ)) (change : Op) → Whole (command.Change change) ≡ made_by form.makes items words → ⊥
others_change_nothing form = no_change form.makes

-- the last run of words of a form
pub last_run : (parts : List Part) (items : List Item) → FitsParts parts [] [] → list_all (is_of Word) items ≡ true → FitsParts (Many Word ∷ parts) items (map (λ (item : Item). item.token.word) items)
last_run parts items ends all = record {
  run = items;
  rest = [];
  others = [];
  joined = sym (append-nil items);
  given = sym (append-nil (map (λ (item : Item). item.token.word) items));
  all = all;
  behind = ends;
}
