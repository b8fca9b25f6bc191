use Rattle.config_core.proofs.OtherLemmas.{steps_leave_others, steps_leave_candidates}
use Rattle.config_core.proofs.laws.others_stay_where_they_are.Goals as goal

pub returns-clause-callers : goal.returns-clause-callers
returns-clause-callers c = steps_leave_others

pub returns-clause-candidates : goal.returns-clause-candidates
returns-clause-candidates c = steps_leave_candidates
