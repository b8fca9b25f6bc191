use Rattle.json_text.proofs.OneLemmas.{one_said}
use Rattle.json_text.proofs.SaidLemmas.{says_back}
use Rattle.json_text.proofs.laws.values_say_configurations.Goals as goal

pub returns-clause-written : goal.returns-clause-written
returns-clause-written c = says_back

pub returns-clause-one : goal.returns-clause-one
returns-clause-one c = one_said
