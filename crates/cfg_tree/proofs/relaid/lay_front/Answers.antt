use Rattle.std.proofs.Common.{◌∙◌, ap, List}
use Rattle.std.specs.Ordering.{is_lt}
use Rattle.cfg_base.specs.Order.{path_cmp}
use Rattle.cfg_base.specs.declared.path.Step.{Step}
use Rattle.cfg_tree.proofs.RelaidLemmas.{front_end, front_other, front_found}
use Rattle.cfg_tree.proofs.relaid.lay_front.Goals as goal
use Rattle.cfg_tree.proofs.relaid.lay_front.Goals.{in-Some+then-not-is_before, in_default}

pub returns-clause-made : goal.returns-clause-made
returns-clause-made c =
    let all = front_found c.args.stays c.args.from.now c.args.to.now c.args.maker c.iter-left.result c.args.entries.now c.iter-left.ensures.ordered c.iter-left.ensures.all
    in elim c.match-next.branch [
      | in-Some+then-not-is_before w ↦
          front_other c.args.stays c.args.from.now c.args.to.now w.in-Some.entry.now _ _ _ _ w.in-Some.ensures
          (w.if-not-is_before.ensures ∙ ap (λ (p : List Step). is_lt (path_cmp p c.args.to.now)) w.path.ensures) c.loop-entry.invariant ∙ all
      | in_default w ↦ front_end c.args.stays c.args.from.now c.args.to.now _ _ _ w.in_default.ensures c.loop-entry.invariant ∙ all
    ]
