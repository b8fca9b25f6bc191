use Rattle.session_history.proofs.OutcomeLemmas.{event_once, leads_stand, stand_at_first}
use Rattle.config_core.specs.State.{opening_of}
use Rattle.session_history.proofs.laws.histories_go_on_in_one_way.Goals as goal

pub returns : goal.returns
returns c = λ kept users events s event one other leads first second.
    event_once c.steps_have_one_outcome.ensures s event one other (leads_stand (opening_of kept users) events s (stand_at_first users) leads) first second
