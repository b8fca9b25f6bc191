use Rattle.set_text.specs.Lines.{lines_in}
use Rattle.set_text.proofs.OnceLemmas.{read_once, one_fault, apart}
use Rattle.set_text.proofs.laws.texts_have_one_answer.Goals as goal

pub returns-clause-one_list : goal.returns-clause-one_list
returns-clause-one_list c = λ text. read_once 1 (lines_in text)

pub returns-clause-one_fault : goal.returns-clause-one_fault
returns-clause-one_fault c = one_fault

pub returns-clause-apart : goal.returns-clause-apart
returns-clause-apart c = apart
