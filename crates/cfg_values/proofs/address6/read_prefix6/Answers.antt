use Rattle.std.proofs.Common.{refl}
use Rattle.cfg_values.proofs.Address6Lemmas.{prefix6_address}
use Rattle.cfg_values.proofs.address6.read_prefix6.Goals as goal

pub spell_prefix-requires-clause-address : goal.spell_prefix-requires-clause-address
spell_prefix-requires-clause-address c = prefix6_address _ _ c.in-Some.ensures.some

pub returns-in-None : goal.returns-in-None
returns-in-None c = (refl, λ spelling. c.in-None.ensures.none spelling.value spelling.spells)
