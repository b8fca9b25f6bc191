use Rattle.json_text.proofs.ApartLemmas.{fault_apart}
use Rattle.json_text.proofs.OneFaultLemmas.{one_fault}
use Rattle.json_text.proofs.laws.faulty_values_say_nothing.Goals as goal

pub returns-clause-nothing : goal.returns-clause-nothing
returns-clause-nothing c = fault_apart

pub returns-clause-one_fault : goal.returns-clause-one_fault
returns-clause-one_fault c = one_fault
