use Rattle.config_core.proofs.ModeLemmas.{opening_agrees, steps_agree}
use Rattle.config_core.proofs.laws.private_sessions_edit_their_own.Goals as goal

pub returns-clause-opening : goal.returns-clause-opening
returns-clause-opening c = λ kept users. opening_agrees users

pub returns-clause-steps : goal.returns-clause-steps
returns-clause-steps c = steps_agree
