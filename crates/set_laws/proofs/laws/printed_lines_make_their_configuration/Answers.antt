use Rattle.set_laws.proofs.LawLemmas.{makes_back}
use Rattle.set_laws.proofs.laws.printed_lines_make_their_configuration.Goals as goal

pub returns : goal.returns
returns c = makes_back
