use Rattle.group_expand.proofs.EndLemmas.{ok_map}
use Rattle.group_expand.proofs.UnalteredLemmas.{node_more}
use Rattle.group_expand.proofs.unaltered.push_unaltered.Goals as goal

pub returns-in-Ok-clause-ok : goal.returns-in-Ok-clause-ok
returns-in-Ok-clause-ok c =
    ok_map _ _
    (λ new made. node_more c.args.node.now c.args.made c.in-Ok.more new c.path.result.now c.value.result.now c.below.result.now c.path.ensures c.value.ensures c.below.ensures c.in-Ok.ensures.ok made)
    c.push_part.result c.push_part.ensures.ok
