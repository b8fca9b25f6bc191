use Rattle.private_merge.proofs.LawLemmas.{merge_once, fault_once, merged_apart}
use Rattle.private_merge.proofs.laws.merges_have_one_answer.Goals as goal

pub returns-clause-one_map : goal.returns-clause-one_map
returns-clause-one_map c = merge_once

pub returns-clause-one_fault : goal.returns-clause-one_fault
returns-clause-one_fault c = fault_once

pub returns-clause-apart : goal.returns-clause-apart
returns-clause-apart c = merged_apart
