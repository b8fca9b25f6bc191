use Rattle.cfg_tree.specs.Tree.{step_of}
use Rattle.curly_grammar.specs.Reading.{below}
use Rattle.curly_grammar.proofs.StepAnswers.{named_refused}
use Rattle.curly_grammar.proofs.steps.named.Goals as goal

pub returns-in-Err : goal.returns-in-Err
returns-in-Err c =
    named_refused c.args.at.now.place.in_group c.args.row.now.name_kind c.args.bytes.now c.args.marks
    (λ name. below c.args.at.now c.args.row.now.id (step_of c.args.head name)) c.in-Err.stop c.in-Err.ensures
