use Rattle.access_rules.proofs.RightLemmas.{changes_sees}
use Rattle.access_rules.proofs.laws.who_changes_sees.Goals as goal

pub returns : goal.returns
returns c = changes_sees
