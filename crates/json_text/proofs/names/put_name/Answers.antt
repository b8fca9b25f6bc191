use Rattle.json_text.proofs.NamesLemmas.{put_known, put_last}
use Rattle.json_text.proofs.names.put_name.Goals as goal

pub returns-then-ordered : goal.returns-then-ordered
returns-then-ordered c = λ seen t.
    put_known c.learn.result c.args.ordered c.if-ordered.true seen c.args.name.now c.args.names.now _ t c.learn.ensures.new c.learn.ensures.knows

pub returns-else-ordered : goal.returns-else-ordered
returns-else-ordered c = λ seen t.
    put_last c.put_last.result c.args.ordered c.if-ordered.false seen c.args.name.now c.args.names.now _ t c.put_last.ensures.placed c.put_last.ensures.last
