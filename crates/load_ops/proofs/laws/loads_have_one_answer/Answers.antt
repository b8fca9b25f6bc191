use Rattle.load_ops.proofs.OnceLemmas.{one_map, one_fault, apart}
use Rattle.load_ops.proofs.laws.loads_have_one_answer.Goals as goal

pub returns-clause-one_map : goal.returns-clause-one_map
returns-clause-one_map c = one_map

pub returns-clause-one_fault : goal.returns-clause-one_fault
returns-clause-one_fault c = one_fault

pub returns-clause-apart : goal.returns-clause-apart
returns-clause-apart c = apart
