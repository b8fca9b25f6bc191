use Rattle.std.proofs.Common.{subst}
use Rattle.config_db.specs.Appended.{AreAppended}
use Rattle.config_db.proofs.HeldLemmas.{are_appended}
use Rattle.config_db.proofs.database.Database.appended.Goals as goal

pub returns : goal.returns
returns g c =
    let i = c.self.inside in
    subst (λ v. AreAppended v c.entries.result.now) c.self.view_is
    (are_appended (record { journal = i.journal; opening = i.opening; users = i.users; events = i.events.items; state = i.core; shown = i.shown; readers = i.readers }) i.held c.entries.result.now
    c.self.invariant.2 c.entries.ensures.entries c.entries.ensures.few)
