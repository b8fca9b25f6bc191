use Rattle.curly_print.proofs.MostLemmas.{most_printed}
use Rattle.curly_print.proofs.lengths.most_of.Goals as goal

pub returns-clause-enough : goal.returns-clause-enough
returns-clause-enough c = most_printed c.args.word.now
