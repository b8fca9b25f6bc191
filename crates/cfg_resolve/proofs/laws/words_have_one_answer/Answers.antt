use Rattle.cfg_resolve.proofs.UniqueLemmas.{resolved_once}
use Rattle.cfg_resolve.proofs.laws.words_have_one_answer.Goals as goal

pub returns : goal.returns
returns c = resolved_once
