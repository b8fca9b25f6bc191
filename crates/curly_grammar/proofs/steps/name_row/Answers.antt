use Rattle.curly_grammar.proofs.StepAnswers.{keyed_answers}
use Rattle.curly_grammar.proofs.steps.name_row.Goals as goal

pub returns-in_ok-clone-in-Keyed : goal.returns-in_ok-clone-in-Keyed
returns-in_ok-clone-in-Keyed c =
    keyed_answers c.args.at.now c.args.marks c.args.row.now.id c.args.row.now.name_kind c.named.result c.args.row.now.shape
    c.in_ok-clone-in-Keyed.field-0 c.args.head.now c.args.word.now c.in-Keyed.is c.in_ok-clone-in-Keyed.ensures.cases c.named.ensures
