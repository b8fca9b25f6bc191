use Rattle.std.proofs.Common.{rules}
use Rattle.kept_expansion.proofs.expanded.expansion_after.Goals as goal

pub updated-requires : goal.updated-requires
updated-requires c = (c.args.old.now, c.requires, search rules)
