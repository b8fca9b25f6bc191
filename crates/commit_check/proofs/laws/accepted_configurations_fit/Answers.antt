use Rattle.commit_check.proofs.CheckLemmas.{text_within, expansion_within}
use Rattle.commit_check.proofs.laws.accepted_configurations_fit.Goals as goal

pub returns-clause-text : goal.returns-clause-text
returns-clause-text c = λ m accepts. text_within m accepts

pub returns-clause-expansion : goal.returns-clause-expansion
returns-clause-expansion c = λ m full accepted. expansion_within m full accepted
