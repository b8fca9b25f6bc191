use Rattle.config_core.specs.State.{opening_of}
use Rattle.config_db.proofs.AddedLemmas.{adds_cut, adds_follow, adds_front, adds_kept, adds_leads, adds_once}
use Rattle.config_db.proofs.laws.events_add_one_list.Goals as goal

pub returns-clause-one : goal.returns-clause-one
returns-clause-one c = λ kept users events last again entries others.
    adds_once (opening_of kept users) (λ before s event one other. c.histories_go_on_in_one_way.ensures kept users before s event one other) events last again entries others

pub returns-clause-leads : goal.returns-clause-leads
returns-clause-leads c = λ s last events entries. adds_leads s events last entries

pub returns-clause-kept : goal.returns-clause-kept
returns-clause-kept c = λ s last events entries. adds_kept s events last entries

pub returns-clause-follow : goal.returns-clause-follow
returns-clause-follow c = λ s last events entries. adds_follow s events last entries

pub returns-clause-behind : goal.returns-clause-behind
returns-clause-behind c = λ s last events entries count. adds_front s events last entries count

pub returns-clause-front : goal.returns-clause-front
returns-clause-front c = λ s last events entries front rest. adds_cut s events last entries front rest
