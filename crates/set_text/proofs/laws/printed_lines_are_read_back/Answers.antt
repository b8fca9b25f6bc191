use Rattle.set_text.proofs.BackLemmas.{read_back}
use Rattle.set_text.proofs.laws.printed_lines_are_read_back.Goals as goal

pub returns : goal.returns
returns c = read_back
