use Rattle.command_line.proofs.LawLemmas.{one_thing}
use Rattle.command_line.proofs.laws.words_ask_one_thing.Goals as goal

pub returns : goal.returns
returns c = one_thing
