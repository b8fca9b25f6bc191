use Rattle.commit_check.proofs.CheckLemmas.{accepted_or_not, first_one, accepted_apart}
use Rattle.commit_check.proofs.laws.checks_have_one_answer.Goals as goal

pub returns-clause-some : goal.returns-clause-some
returns-clause-some c = λ m tree. accepted_or_not m tree

pub returns-clause-one : goal.returns-clause-one
returns-clause-one c = λ m number other path place one two. first_one m number other path place one two

pub returns-clause-apart : goal.returns-clause-apart
returns-clause-apart c = λ m number path accepts first. accepted_apart m number path accepts first
