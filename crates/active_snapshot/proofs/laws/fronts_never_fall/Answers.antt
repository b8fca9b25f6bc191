use Rattle.active_snapshot.proofs.ViewLemmas.{count-nth, count-prefix}
use Rattle.active_snapshot.proofs.laws.fronts_never_fall.Goals as goal

pub returns-clause-each : goal.returns-clause-each
returns-clause-each c opening view more n are is = count-nth opening view more n are is

pub returns-clause-last : goal.returns-clause-last
returns-clause-last c = count-prefix
