use Rattle.cfg_base.proofs.WordLemmas.{joined-step}
use Rattle.cfg_base.proofs.joining.join_few.Goals as goal

pub loop-word-preserved : goal.loop-word-preserved
loop-word-preserved c =
    joined-step c.args.list.now c.args.given.now c.loop-word.words c.add.new.words c.loop-word.word-index c.word-item.result _
    c.loop-word-test.true c.loop-word.invariant c.word-item.is c.in_ok-add.ensures
