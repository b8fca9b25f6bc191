use Rattle.commit_check.proofs.UnitLemmas.{unit_is}
use Rattle.commit_check.proofs.unit.names_of_units_are_cut.Goals as goal

pub returns : goal.returns
returns c = unit_is
