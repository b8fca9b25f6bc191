use Rattle.active_snapshot.proofs.ViewLemmas.{entries-last}
use Rattle.active_snapshot.proofs.laws.views_are_of_entries.Goals as goal

pub returns : goal.returns
returns c = entries-last
