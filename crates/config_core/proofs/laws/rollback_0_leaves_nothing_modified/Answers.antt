use Rattle.config_core.proofs.RollbackLemmas.{rolls_back_to_fresh}
use Rattle.config_core.proofs.laws.rollback_0_leaves_nothing_modified.Goals as goal

pub returns : goal.returns
returns c = rolls_back_to_fresh
