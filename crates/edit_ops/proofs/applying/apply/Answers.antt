use Rattle.edit_ops.proofs.AnswerLemmas.{refused}
use Rattle.edit_ops.proofs.applying.apply.Goals as goal

pub returns-clause-err : goal.returns-clause-err
returns-clause-err c =
    refused c.args.tree.now c.args.level.now c.args.op.now c.in_ok-subject.subject c.in_ok-subject.ensures.ok c.in-Err.fault c.in-Err.ensures
