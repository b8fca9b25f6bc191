use Rattle.std.proofs.Common.{refl}
use Rattle.cfg_values.proofs.address.read_prefix.Goals as goal

pub returns-in-None : goal.returns-in-None
returns-in-None c = (refl, λ spelling. c.in-None.ensures.none spelling.value spelling.spells)
