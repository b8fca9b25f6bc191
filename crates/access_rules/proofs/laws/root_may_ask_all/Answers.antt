use Rattle.access_rules.specs.Needs.{needs_of}
use Rattle.access_rules.proofs.RightLemmas.{all_lacks_none}
use Rattle.access_rules.proofs.laws.root_may_ask_all.Goals as goal

pub returns : goal.returns
returns c = λ full level asked. all_lacks_none (needs_of level asked)
