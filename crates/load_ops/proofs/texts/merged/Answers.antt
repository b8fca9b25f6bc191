use Rattle.commands.specs.declared.command.LoadWay.TheVariants.{Merge}
use Rattle.load_ops.proofs.TextLemmas.{loaded, refused}
use Rattle.load_ops.proofs.texts.merged.Goals as goal

pub returns-in_ok-union-in-Ok-clause-ok : goal.returns-in_ok-union-in-Ok-clause-ok
returns-in_ok-union-in-Ok-clause-ok c =
    loaded Merge c.args.tree.now c.args.text.now c.in-Ok.marked.tree c.in-Ok.marked.replaced c.in_ok-union-in-Ok.field-0 c.in-Ok.ensures.reads
    c.in-Ok.ensures.few c.in_ok-union-in-Ok.ensures c.allowed.result c.allowed.ensures.ok

pub returns-in_ok-union-in-Ok-clause-err : goal.returns-in_ok-union-in-Ok-clause-err
returns-in_ok-union-in-Ok-clause-err c =
    refused Merge c.args.tree.now c.args.text.now c.in-Ok.marked.tree c.in-Ok.marked.replaced c.in_ok-union-in-Ok.field-0 c.in-Ok.ensures.reads
    c.in-Ok.ensures.few c.in_ok-union-in-Ok.ensures c.allowed.result c.allowed.ensures.err
