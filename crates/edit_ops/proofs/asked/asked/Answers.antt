use Rattle.edit_ops.proofs.AskedLemmas.{beside_itself}
use Rattle.edit_ops.proofs.asked.asked.Goals as goal

pub returns-in-None-clause-subject : goal.returns-in-None-clause-subject
returns-in-None-clause-subject c = record { target = c.in_ok-target.ensures.target; other = beside_itself c.in_ok-target.target c.in_ok-target.ensures.target }
