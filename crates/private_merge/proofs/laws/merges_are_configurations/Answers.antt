use Rattle.private_merge.proofs.MergedLemmas.{merged_unbounded}
use Rattle.private_merge.proofs.laws.merges_are_configurations.Goals as goal

pub returns : goal.returns
returns c = merged_unbounded
