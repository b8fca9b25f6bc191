use Rattle.load_ops.proofs.LineLemmas.{lines_made, lines_unmade}
use Rattle.load_ops.proofs.lines.lines_loaded.Goals as goal

pub returns-in-Ok-clause-ok : goal.returns-in-Ok-clause-ok
returns-in-Ok-clause-ok c =
    lines_made c.args.tree.now c.args.text.now c.in-Ok.lines c.as_slice.result.now c.in-Ok.ensures.ok c.as_slice.ensures c.made.result c.made.ensures.ok

pub returns-in-Ok-clause-err : goal.returns-in-Ok-clause-err
returns-in-Ok-clause-err c =
    lines_unmade c.args.tree.now c.args.text.now c.in-Ok.lines c.as_slice.result.now c.in-Ok.ensures.ok c.as_slice.ensures c.made.result c.made.ensures.err
