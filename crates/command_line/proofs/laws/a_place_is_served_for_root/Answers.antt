use Rattle.command_line.proofs.LawLemmas.{served_for_root}
use Rattle.command_line.proofs.laws.a_place_is_served_for_root.Goals as goal

pub returns : goal.returns
returns c = served_for_root
