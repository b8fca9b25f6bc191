use Rattle.session_history.proofs.AcceptedLemmas.{leads_accepted}
use Rattle.session_history.proofs.laws.histories_stay_accepted.Goals as goal

pub returns : goal.returns
returns c = λ s events sound legal.
    leads_accepted c.active_configuration_stays_accepted.ensures.steps c.active_configuration_stays_accepted.ensures.accepted s events legal.0 sound legal.1
