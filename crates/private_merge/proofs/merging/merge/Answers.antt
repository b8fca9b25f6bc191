use Rattle.cfg_tree.specs.Values.{with_values}
use Rattle.private_merge.proofs.MergedLemmas.{merged_unbounded, too_many}
use Rattle.private_merge.proofs.merging.merge.Goals as goal

pub with_values-requires : goal.with_values-requires
with_values-requires c =
    merged_unbounded c.args.base.now c.args.active.now c.args.mine.now (with_values c.args.active.now c.in-Ok.own.items) c.are_trees.ensures.base
    c.are_trees.ensures.active c.are_trees.ensures.mine c.in-Ok.ensures.ok.agree c.in-Ok.ensures.ok.made

pub returns-in-None-clause-err : goal.returns-in-None-clause-err
returns-in-None-clause-err c =
    too_many c.args.base.now c.args.active.now c.args.mine.now c.in_ok-with_values-in-Ok.field-0 c.in-Ok.own.items c.in-Ok.ensures.ok
    c.in_ok-with_values-in-Ok.ensures c.in-None.ensures
