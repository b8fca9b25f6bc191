use Rattle.candidate.proofs.EditLemmas.{edit_once, change_once}
use Rattle.candidate.proofs.laws.edits_have_one_answer.Goals as goal

pub returns-clause-one_edit : goal.returns-clause-one_edit
returns-clause-one_edit c = edit_once

pub returns-clause-one_change : goal.returns-clause-one_change
returns-clause-one_change c = change_once
