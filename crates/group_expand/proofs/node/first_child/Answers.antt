use Rattle.std.proofs.Common.{sym, ◌∙◌}
use Rattle.group_expand.proofs.NodeLemmas.{first_is}
use Rattle.group_expand.proofs.node.first_child.Goals as goal

pub returns : goal.returns
returns c =
    first_is c.args.above.now c.args.part.now c.first_node.result c.requires.counted c.requires.ordered c.requires.inside
    (sym c.begins_live.ensures ∙ c.if-not-begins_live.false) c.first_node.ensures
