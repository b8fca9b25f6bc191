use Rattle.std.proofs.Common.{subst}
use Rattle.session_history.specs.Events.{IsLegal, StaysAccepted}
use Rattle.config_db.specs.View.{opened}
use Rattle.config_db.proofs.ClosingLemmas.{stays_accepted}
use Rattle.config_db.proofs.database.Database.count.Goals as goal

pub returns-clause-legal : goal.returns-clause-legal
returns-clause-legal g c = subst (λ v. IsLegal (opened v) v.events) c.self.view_is (c.self.inside.core, c.self.invariant.0.leads)

pub returns-clause-accepted : goal.returns-clause-accepted
returns-clause-accepted g c =
    subst (λ v. StaysAccepted (opened v) v.events) c.self.view_is
    (stays_accepted c.self.inside.opening c.self.inside.users c.self.inside.events.items c.self.inside.core c.histories_stay_accepted.ensures c.self.invariant.0.began c.self.invariant.0.leads)
