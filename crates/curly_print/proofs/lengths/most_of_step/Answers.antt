use Rattle.curly_print.proofs.MostLemmas.{most_step}
use Rattle.curly_print.proofs.lengths.most_of_step.Goals as goal

pub returns-clause-enough : goal.returns-clause-enough
returns-clause-enough c =
    most_step c.args.step.now _ _ c.most_of.result c.most_of-2.result c.as_bytes.ensures.bytes c.as_bytes-2.ensures.bytes c.most_of.ensures.enough c.most_of-2.ensures.enough
