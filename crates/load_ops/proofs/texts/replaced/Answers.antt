use Rattle.commands.specs.declared.command.LoadWay.TheVariants.{Replace}
use Rattle.load_ops.proofs.TextLemmas.{loaded, refused, replaced_by}
use Rattle.load_ops.proofs.texts.replaced.Goals as goal

pub returns-in_ok-union-in-Ok-clause-ok : goal.returns-in_ok-union-in-Ok-clause-ok
returns-in_ok-union-in-Ok-clause-ok c =
    loaded Replace c.args.tree.now c.args.text.now c.in-Ok.marked.tree c.in-Ok.marked.replaced c.in_ok-union-in-Ok.field-0 c.in-Ok.ensures.reads
    c.in-Ok.ensures.few
    (replaced_by c.args.tree.now c.in-Ok.marked.tree c.in_ok-union-in-Ok.field-0 c.in_ok-left-in-Ok.left c.in-Ok.marked.replaced c.as_slice.result.now
    c.in_ok-left-in-Ok.ensures c.as_slice.ensures c.in_ok-union-in-Ok.ensures)
    c.allowed.result c.allowed.ensures.ok

pub returns-in_ok-union-in-Ok-clause-err : goal.returns-in_ok-union-in-Ok-clause-err
returns-in_ok-union-in-Ok-clause-err c =
    refused Replace c.args.tree.now c.args.text.now c.in-Ok.marked.tree c.in-Ok.marked.replaced c.in_ok-union-in-Ok.field-0 c.in-Ok.ensures.reads
    c.in-Ok.ensures.few
    (replaced_by c.args.tree.now c.in-Ok.marked.tree c.in_ok-union-in-Ok.field-0 c.in_ok-left-in-Ok.left c.in-Ok.marked.replaced c.as_slice.result.now
    c.in_ok-left-in-Ok.ensures c.as_slice.ensures c.in_ok-union-in-Ok.ensures)
    c.allowed.result c.allowed.ensures.err
