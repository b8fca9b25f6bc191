use Rattle.cfg_schema.proofs.SearchLemmas.{inner_in}
use Rattle.cfg_schema.proofs.level.inner.Goals as goal

pub returns-clause-within : goal.returns-clause-within
returns-clause-within c = inner_in _ _ c.requires.rows c.requires.parent
