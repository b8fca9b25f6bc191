use Rattle.std.proofs.Common.{List, ℕ, refl, sym, ap, ◌∙◌}
use Rattle.curly_grammar.specs.Reading.{child_at}
use Rattle.curly_grammar.proofs.StepAnswers.{name_answers, names_nothing}
use Rattle.curly_grammar.proofs.steps.name_step.Goals as goal

pub returns-in-Row : goal.returns-in-Row
returns-in-Row c =
    name_answers c.args.at.now c.args.marks c.args.head.now c.args.word.now _ c.in-Row.id c.row.result c.name_row.result
    (sym (c.in-Row.ensures.row ∙ ap (λ (bytes : List ℕ). child_at c.args.at.now bytes c.args.word.now) c.as_bytes.ensures.bytes)) c.row.ensures c.name_row.ensures

pub returns-in-BadName : goal.returns-in-BadName
returns-in-BadName c = (
  refl,
  names_nothing c.args.at.now c.args.marks c.args.head.now c.args.word.now _ c.child.result
      (c.child.ensures.row ∙ ap (λ (bytes : List ℕ). child_at c.args.at.now bytes c.args.word.now) c.as_bytes.ensures.bytes) c.in-BadName.is,
)
