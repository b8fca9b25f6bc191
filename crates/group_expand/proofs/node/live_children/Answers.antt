use Rattle.std.proofs.Common.{◌≡◌, ◌++◌, ◌∷◌, [], rules, sym, ◌∙◌, subst, List}
use Rattle.group_expand.specs.Node.{Node}
use Rattle.group_expand.proofs.RowLemmas.{next_shorter}
use Rattle.group_expand.proofs.NodeLemmas.{IsOnWay, way_on, way_past}
use Rattle.group_expand.proofs.node.live_children.Goals.{then-begins_live+in_ok-push, else-begins_live}
use Rattle.group_expand.proofs.node.live_children.Goals as goal

pub loop-left-smaller : goal.loop-left-smaller
loop-left-smaller c =
    next_shorter c.loop-left.left.now c.beside-left.result.now (search rules) c.loop-left.invariant.counted c.loop-left.invariant.ordered c.beside-left.ensures

pub loop-left-preserved : goal.loop-left-preserved
loop-left-preserved c =
    elim c.if-begins_live.branch [
      | then-begins_live+in_ok-push w ↦
          let pushed : c.if-begins_live.nodes.items ≡ c.loop-left.nodes.items ++ w.first_node.result ∷ [] = search rules
          in subst (λ (ns : List Node). IsOnWay c.args.above.now c.args.below.now c.beside-left.result.now ns) (sym pushed)
          (way_on c.args.above.now c.args.below.now c.loop-left.left.now c.beside-left.result.now c.loop-left.nodes.items w.first_node.result c.loop-left.invariant
          (search rules) (sym c.begins_live.ensures ∙ w.if-begins_live.true) w.first_node.ensures c.beside-left.ensures)
      | else-begins_live w ↦
          let same : c.if-begins_live.nodes.items ≡ c.loop-left.nodes.items = search rules
          in subst (λ (ns : List Node). IsOnWay c.args.above.now c.args.below.now c.beside-left.result.now ns) (sym same)
          (way_past c.args.above.now c.args.below.now c.loop-left.left.now c.beside-left.result.now c.loop-left.nodes.items c.loop-left.invariant
          (search rules) (sym c.begins_live.ensures ∙ w.if-begins_live.false) c.beside-left.ensures)
    ]
