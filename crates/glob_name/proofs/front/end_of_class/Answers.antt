use Rattle.glob_name.proofs.TailLemmas.{tail_none}
use Rattle.glob_name.proofs.front.end_of_class.Goals as goal

pub returns-then-rest-tail : goal.returns-then-rest-tail
returns-then-rest-tail c = tail_none c.args.tail c.args.rest.now c.requires c.if-rest-tail.true
