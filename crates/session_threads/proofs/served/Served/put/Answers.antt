use Rattle.session_threads.proofs.LogLemmas.{IsUnderway-then}
use Rattle.session_threads.proofs.served.Served.put.Goals as goal

pub invariant_of-self : goal.invariant_of-self
invariant_of-self g c =
    IsUnderway-then _ _ c.step.ensures.answers.own c.self.inside.notes.items c.self.inside.first c.self.inside.database
    c.step.new.self c.step.ensures.answers.extends (record {
      fresh = c.self.invariant.fresh;
      leads = c.self.invariant.leads;
      adds = c.self.invariant.adds;
      noted = c.self.invariant.noted;
      up_to = c.self.invariant.up_to;
    })
