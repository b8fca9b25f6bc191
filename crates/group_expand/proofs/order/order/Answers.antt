use Rattle.std.proofs.Common.{List, length, ◌==◌, ap, ◌∙◌}
use Rattle.group_expand.specs.Level.{Ranked}
use Rattle.group_expand.proofs.WalkLemmas.{no_order}
use Rattle.group_expand.proofs.order.order.Goals as goal

pub returns-then-is_empty-2 : goal.returns-then-is_empty-2
returns-then-is_empty-2 c =
    no_order _ _ _ c.args.level.now _ c.new.ensures c.if-is_empty.ensures (c.if-is_empty-2.ensures ∙ ap (λ (rs : List Ranked). length rs == 0) c.plain.ensures)
