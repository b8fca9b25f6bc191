use Rattle.std.proofs.Common.{rules}
use Rattle.cfg_tree.proofs.FullLemmas.{made_within}
use Rattle.cfg_tree.proofs.full.FullMaker.finish.Goals as goal

pub invariant_of-result : goal.invariant_of-result
invariant_of-result c = made_within c.in_ok-entries.entries.entries c.args.self c.requires (search rules) (search rules)
