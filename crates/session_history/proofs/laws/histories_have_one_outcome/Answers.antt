use Rattle.session_history.proofs.OutcomeLemmas.{stand_at_first, leads_once, at_once}
use Rattle.config_core.specs.State.{opening_of}
use Rattle.session_history.proofs.laws.histories_have_one_outcome.Goals as goal

pub returns-clause-state : goal.returns-clause-state
returns-clause-state c = λ kept users events one other.
    leads_once c.steps_have_one_outcome.ensures (opening_of kept users) events one other (stand_at_first users)

pub returns-clause-reply : goal.returns-clause-reply
returns-clause-reply c = λ kept users events place before again event same one other.
    at_once c.steps_have_one_outcome.ensures (opening_of kept users) events place before again event same one other (stand_at_first users)
