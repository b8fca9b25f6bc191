use Rattle.std.specs.BTreeSet as set
use Rattle.cfg_base.specs.Order.{word_cmp}
use Rattle.cfg_base.proofs.WordLemmas.{unlearned}
use Rattle.cfg_base.proofs.joining.strike.Goals as goal

pub returns-clause-left : goal.returns-clause-left
returns-clause-left c = λ other.
    unlearned (set.contains word_cmp c.args.missing.now other) (set.contains word_cmp c.remove.new.self other) c.args.word.now other (c.remove.ensures.updates.0 other)
