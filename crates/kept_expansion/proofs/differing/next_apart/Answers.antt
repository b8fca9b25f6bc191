use Rattle.kept_expansion.proofs.DifferingLemmas.{apart_before}
use Rattle.kept_expansion.proofs.differing.next_apart.Goals as goal

pub returns : goal.returns
returns c = apart_before _ _ c.loop-old.old c.loop-old.new _ _ _ c.loop-old.invariant c.pass_first.ensures
