use Rattle.command_line.proofs.LawLemmas.{asked_with_flag}
use Rattle.command_line.proofs.laws.a_flag_asks_for_rights.Goals as goal

pub returns : goal.returns
returns c = asked_with_flag
