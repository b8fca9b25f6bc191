use Rattle.cfg_resolve.proofs.TargetLemmas.{reading_target}
use Rattle.cfg_resolve.proofs.reading.resolve.Goals as goal

pub returns-in_ok-clone-in-Some-clause-target : goal.returns-in_ok-clone-in-Some-clause-target
returns-in_ok-clone-in-Some-clause-target c =
    reading_target c.args.level.now _ _ c.in-Some.here _ _ c.requires.typed c.steps.ensures.steps c.in-Some.ensures c.in_ok-clone-in-Some.ensures.cases
    c.read_on.ensures
