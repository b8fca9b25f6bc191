use Rattle.std.proofs.Common.{refl}
use Rattle.cfg_schema.specs.Profile.{profile}
use Rattle.cfg_schema.proofs.table.lines.Goals as goal

pub returns-clause-rows : goal.returns-clause-rows
unfolding profile
returns-clause-rows c = refl
