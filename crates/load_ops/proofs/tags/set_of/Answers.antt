use Rattle.load_ops.proofs.LeftLemmas.{known_more}
use Rattle.load_ops.proofs.tags.set_of.Goals as goal

pub loop-path-preserved : goal.loop-path-preserved
loop-path-preserved c =
    known_more c.args.paths.now c.loop-path.path-index c.path-item.result _ c.loop-path.known c.learn.new.known c.loop-path-test.true c.path-item.is
    c.loop-path.invariant c.in_ok-learn.ensures
