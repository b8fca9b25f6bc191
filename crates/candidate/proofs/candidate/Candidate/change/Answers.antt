use Rattle.candidate.proofs.EditLemmas.{still_base}
use Rattle.candidate.proofs.candidate.Candidate.change.Goals as goal

pub invariant_of-self : goal.invariant_of-self
invariant_of-self c =
    still_base c.self.inside.base c.self.inside.tree c.apply.new.tree c.self.inside.modified c.in-Ok.changed c.modified_after-self-inside.result c.self.invariant
    c.in-Ok.ensures.ok.tells c.modified_after-self-inside.ensures
