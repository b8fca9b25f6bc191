use Rattle.kept_expansion.proofs.UpdateLemmas.{same_err}
use Rattle.kept_expansion.proofs.cached.Cached.update.Goals as goal

pub returns-in-Err-clause-wide : goal.returns-in-Err-clause-wide
returns-in-Err-clause-wide c = λ is. c.in-Err.ensures.wide (same_err _ _ is)
