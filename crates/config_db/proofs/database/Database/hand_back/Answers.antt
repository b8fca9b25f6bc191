use Rattle.std.proofs.Common.{Some, refl, subst, rules}
use Rattle.disk_model.specs.Pair.{pair_of}
use Rattle.session_history.specs.declared.history.History.{History}
use Rattle.config_db.specs.Closing.{IsHandedBack}
use Rattle.config_db.proofs.ClosingLemmas.{handed_back}
use Rattle.config_db.proofs.database.Database.hand_back.Goals as goal

pub returns-clause-back : goal.returns-clause-back
returns-clause-back g c =
    let i = c.self.inside in
    let happened : History = record { opening = Some i.opening; users = i.users; made = c.calls-made.result; events = i.events } in
    subst (λ v. IsHandedBack v happened (pair_of g.D.Disk.view c.into_disks-a.result.0 c.into_disks-a.result.1)) c.self.view_is
    (handed_back (record { journal = i.journal; opening = i.opening; users = i.users; events = i.events.items; state = i.core; shown = i.shown; readers = i.readers }) happened (pair_of g.D.Disk.view c.into_disks-a.result.0 c.into_disks-a.result.1)
    c.histories_stay_accepted.ensures c.self.invariant.0 (c.self.invariant.2.added, c.self.invariant.2.adds) refl refl refl c.calls-made.ensures.a c.calls-made.ensures.b (search rules))
