use Rattle.commands.specs.declared.command.LoadWay.TheVariants.{Override}
use Rattle.load_ops.proofs.TextLemmas.{loaded, refused}
use Rattle.load_ops.proofs.texts.overridden.Goals as goal

pub returns-in-Ok-clause-ok : goal.returns-in-Ok-clause-ok
returns-in-Ok-clause-ok c =
    loaded Override c.args.tree.now c.args.text.now c.in-Ok.marked.tree c.in-Ok.marked.replaced c.of.result c.in-Ok.ensures.reads
    c.in-Ok.ensures.few c.of.ensures c.allowed.result c.allowed.ensures.ok

pub returns-in-Ok-clause-err : goal.returns-in-Ok-clause-err
returns-in-Ok-clause-err c =
    refused Override c.args.tree.now c.args.text.now c.in-Ok.marked.tree c.in-Ok.marked.replaced c.of.result c.in-Ok.ensures.reads
    c.in-Ok.ensures.few c.of.ensures c.allowed.result c.allowed.ensures.err
