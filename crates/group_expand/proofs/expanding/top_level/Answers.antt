use Rattle.std.proofs.Common.{◌∙◌}
use Rattle.group_expand.proofs.EndLemmas.{ok_map}
use Rattle.group_expand.proofs.ExpandLemmas.{top_level_is}
use Rattle.group_expand.proofs.expanding.top_level.Goals as goal

pub returns : goal.returns
returns c =
    ok_map _ _
    (λ level made. top_level_is c.args.plan.now c.level_below.ensures.row c.deref.result.now level c.args.top.now c.requires (c.deref.ensures.value ∙ c.in_ok-own.ensures) made)
    c.level_below.result c.level_below.ensures.level
