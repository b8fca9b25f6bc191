use Rattle.json_text.proofs.AnswerLemmas.{one_map, fault_apart, one_fault}
use Rattle.json_text.proofs.laws.texts_have_one_answer.Goals as goal

pub returns-clause-one : goal.returns-clause-one
returns-clause-one c = one_map

pub returns-clause-apart : goal.returns-clause-apart
returns-clause-apart c = fault_apart

pub returns-clause-one_fault : goal.returns-clause-one_fault
returns-clause-one_fault c = one_fault
