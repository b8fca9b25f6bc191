use Rattle.std.proofs.Common.{◌∙◌, rules, of_calls}
use Rattle.std.proofs.lemmas.Fn.{always_returns_same}
use Rattle.cfg_tree.specs.Tree.{step_of}
use Rattle.group_expand.specs.Cut.{is_before}
use Rattle.group_expand.proofs.CutLemmas.{is_parted, parted}
use Rattle.group_expand.proofs.cut.cut_at.Goals as goal

pub returns-clause-before : goal.returns-clause-before
returns-clause-before c =
    let bound = step_of c.args.head.now c.args.name.now
    in c.split_at.ensures.front
    ∙ (parted (is_before c.args.above.now bound) c.args.part.now c.partition_point-count.result c.partition_point-count.ensures.bound
    (c.partition_point-count.ensures.partitioned (is_before c.args.above.now bound) (always_returns_same _ _ _ (λ a r f k. search (rules, of_calls)))
    (is_parted c.args.above.now bound c.args.part.now c.requires.ordered c.requires.inside))).0

pub returns-clause-from : goal.returns-clause-from
returns-clause-from c =
    let bound = step_of c.args.head.now c.args.name.now
    in c.split_at.ensures.back
    ∙ (parted (is_before c.args.above.now bound) c.args.part.now c.partition_point-count.result c.partition_point-count.ensures.bound
    (c.partition_point-count.ensures.partitioned (is_before c.args.above.now bound) (always_returns_same _ _ _ (λ a r f k. search (rules, of_calls)))
    (is_parted c.args.above.now bound c.args.part.now c.requires.ordered c.requires.inside))).1
