use Rattle.config_core.proofs.LevelLemmas.{level_told}
use Rattle.config_core.proofs.laws.levels_are_told.Goals as goal

pub returns : goal.returns
returns c = level_told
