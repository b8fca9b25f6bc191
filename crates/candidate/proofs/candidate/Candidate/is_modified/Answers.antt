use Rattle.std.proofs.Common.{◌≡◌, false, subst}
use Rattle.candidate.specs.Edits.{CandidateView}
use Rattle.candidate.proofs.candidate.Candidate.is_modified.Goals as goal

pub returns-clause-base : goal.returns-clause-base
returns-clause-base c = subst (λ (v : CandidateView). v.modified ≡ false → v.map ≡ v.base) c.self.view_is c.self.invariant
