use Rattle.std.proofs.Common.{rules}
use Rattle.glob_name.proofs.ClassLemmas.{no_ranges}
use Rattle.glob_name.proofs.class.in_class.Goals as goal

pub returns : goal.returns
returns c = no_ranges c.loop-rest.rest.now c.args.byte _ c.loop-rest.invariant (search rules)
