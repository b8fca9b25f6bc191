use Rattle.commit_ledger.specs.Kept.{factory}
use Rattle.service.proofs.GeneratedLemmas.{generated_once}
use Rattle.service.proofs.laws.generated_texts_are_one.Goals as goal

pub returns : goal.returns
returns c = generated_once (λ events users. c.histories_have_one_outcome.ensures.state factory users events) c.expansion_is_one.ensures.one
