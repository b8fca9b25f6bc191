use Rattle.curly_grammar.proofs.StepAnswers.{bare_answers}
use Rattle.curly_grammar.proofs.steps.begin_row.Goals as goal

pub returns-in_ok-copied-in-Bare : goal.returns-in_ok-copied-in-Bare
returns-in_ok-copied-in-Bare c =
    bare_answers c.args.at.now c.args.marks c.args.row.now.id c.args.row.now.name_kind c.named.result c.args.row.now.shape
    c.in_ok-copied-in-Bare.field-0 c.args.word.now c.in-Bare.is c.in_ok-copied-in-Bare.ensures c.named.ensures
