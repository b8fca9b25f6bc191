use Rattle.curly_print.proofs.OwnLemmas.{printed_own}
use Rattle.curly_print.proofs.laws.own_statements_are_printed_alike.Goals as goal

pub returns : goal.returns
returns c = λ m full path own. printed_own m full own path
