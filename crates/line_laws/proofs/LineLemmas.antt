-- Whole lines: the readers cut them in one way.
use Rattle.std.proofs.Common.{◌↔◌, inl, inr, ℕ, List, [], ◌∷◌, length, map, true, Option, None, Some, Result, Ok, refl, sym, subst}
use Rattle.commands.specs.declared.command.Command.TheVariants as command
use Rattle.commands.specs.declared.command.Op.{Op}
use Rattle.cfg_lex.specs.declared.fault.LexFault.{LexFault}
use Rattle.cfg_lex.specs.declared.token.Token.{Token}
use Rattle.cfg_lex.specs.Tokens.{IsCut}
use Rattle.set_text.specs.Form.{Spells}
use Rattle.set_text.specs.Lines as set
use Rattle.shell_words.specs.declared.making.Words0.{Words0}
use Rattle.shell_words.specs.declared.making.Words0.TheVariants.{Whole}
use Rattle.shell_words.specs.Item.{Item, item_in}
use Rattle.shell_words.specs.Reading.{AnswersWhole, Answers, IsReading}
use Rattle.line_laws.proofs.TokenLemmas.{tokens_of, tokens_of_line}
use Rattle.line_laws.proofs.TypedLemmas.{typed}
use Rattle.line_laws.proofs.LoadedLemmas.{loaded}

-- the answer that is this change
abbrev change_answer : Op → Result (Option Words0) ℕ
change_answer change = Ok (Some (Whole (command.Change change)))

whole_typed : (items : List Item) (end : ℕ) (change : Op) → Spells (tokens_of items) change → AnswersWhole true items end (change_answer change)
whole_typed [] end change line = let none = line.joined in cc
whole_typed (item ∷ items) end change line = inl (typed (item ∷ items) change line)

line_typed : (line : List ℕ) (change : Op) → set.AsksChange line change → IsReading true line (change_answer change)
line_typed line change asks = record {
  tokens = asks.tokens;
  fault = None;
  cut = asks.cut;
  answers = whole_typed (map (item_in line) asks.tokens) (length line) change (subst (λ parts. Spells parts change) (sym (tokens_of_line line asks.tokens)) asks.spelled);
}

whole_loaded : (items : List Item) (end : ℕ) (change : Op) → AnswersWhole true items end (change_answer change) → Spells (tokens_of items) change
whole_loaded [] end change e = cc
whole_loaded (item ∷ items) end change (inl asks) = loaded (item ∷ items) change asks
whole_loaded (item ∷ items) end change (inr misfit) = let no = misfit.1.is in cc

line_loaded : (line : List ℕ) (change : Op) (tokens : List Token) (fault : Option LexFault) → IsCut line tokens fault → Answers true (map (item_in line) tokens) fault (length line) (change_answer change) → set.AsksChange line change
line_loaded line change tokens None cut answers = record {
  tokens = tokens;
  cut = cut;
  spelled = subst (λ parts. Spells parts change) (tokens_of_line line tokens) (whole_loaded (map (item_in line) tokens) (length line) change answers);
}
line_loaded line change tokens (Some fault) cut answers = let no = answers.is in cc

pub same_change : (line : List ℕ) (change : Op) → set.AsksChange line change ↔ IsReading true line (Ok (Some (Whole (command.Change change))))
same_change line change = (line_typed line change, λ reading. line_loaded line change reading.tokens reading.fault reading.cut reading.answers)

line_skipped : (line : List ℕ) (tokens : List Token) (fault : Option LexFault) → IsCut line tokens fault → Answers true (map (item_in line) tokens) fault (length line) (Ok None) → set.IsSkipped line
line_skipped line [] None cut answers = cut
line_skipped line (token ∷ tokens) None cut (inl asks) = let no = asks.is in cc
line_skipped line (token ∷ tokens) None cut (inr misfit) = let no = misfit.1.is in cc
line_skipped line tokens (Some fault) cut answers = let no = answers.is in cc

pub same_nothing : (line : List ℕ) → set.IsSkipped line ↔ IsReading true line (Ok None)
same_nothing line = (
  λ skipped. record { tokens = []; fault = None; cut = skipped; answers = refl },
  λ reading. line_skipped line reading.tokens reading.fault reading.cut reading.answers,
)
