use Rattle.edit_ops.proofs.UniqueLemmas.{one_map, one_fault, apart}
use Rattle.edit_ops.proofs.laws.changes_have_one_answer.Goals as goal

pub returns-clause-one_map : goal.returns-clause-one_map
returns-clause-one_map c = λ m one other level op told again is_level a b. one_map m level op is_level one other told again a b

pub returns-clause-one_fault : goal.returns-clause-one_fault
returns-clause-one_fault c = λ m level op one other is_level a b h k. one_fault m level op is_level one other a b h k

pub returns-clause-apart : goal.returns-clause-apart
returns-clause-apart c = λ m n level op told fault is_level a b. apart m level op is_level n told fault a b
