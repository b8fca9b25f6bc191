use Rattle.load_ops.proofs.LineLemmas.{made_at, unmade_at}
use Rattle.load_ops.proofs.lines.made.Goals as goal

pub loop-line-preserved : goal.loop-line-preserved
loop-line-preserved c =
    made_at c.args.tree.now c.loop-line.next c.make.new.tree c.args.lines.now c.loop-line.line-index c.line-item.result _ c.loop-line-test.true c.line-item.is
    c.loop-line.invariant c.in_default.ensures.ok

pub returns-in-Err-clause-err : goal.returns-in-Err-clause-err
returns-in-Err-clause-err c =
    unmade_at c.args.tree.now c.loop-line.next c.args.lines.now c.loop-line.line-index c.line-item.result _ c.in-Err.fault c.loop-line-test.true c.line-item.is
    c.loop-line.invariant c.in-Err.ensures.err
