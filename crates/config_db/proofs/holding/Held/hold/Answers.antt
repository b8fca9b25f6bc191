use Rattle.std.proofs.Common.{refl, subst}
use Rattle.config_core.specs.Plan.{made_in}
use Rattle.config_db.specs.Appended.{HoldsMade}
use Rattle.config_db.proofs.HeldLemmas.{holds_done}
use Rattle.config_db.proofs.holding.Held.hold.Goals as goal

pub returns-in-Some-Done : goal.returns-in-Some-Done
returns-in-Some-Done c =
    let i = c.self.inside in
    subst (λ h. HoldsMade (made_in c.args.prepared.now.effect) c.args.outcome h (record { entries = c.put.new.entries; waits = i.waits })) c.self.view_is
    (holds_done (made_in c.args.prepared.now.effect) c.in-Some-Done.entry.now c.args.outcome c.copy_of-copy.result (record { entries = i.entries; waits = i.waits })
    (record { entries = c.put.new.entries; waits = i.waits }) c.in-Some-Done.ensures c.in-Some-Done.is-1 c.copy_of-copy.ensures c.put.ensures.put refl)
