use Rattle.std.proofs.Common.{List, sym, subst}
use Rattle.cfg_base.specs.declared.path.Step.{Step}
use Rattle.cfg_tree.specs.Statements.{Statements}
use Rattle.cfg_tree.specs.Gather.{gathered_from_none, IsGatherFault}
use Rattle.cfg_tree.specs.declared.gather.GatherFault.{GatherFault}
use Rattle.load_ops.specs.Left.{IsLeft}
use Rattle.load_ops.proofs.LeftTreeLemmas.{left_statements, left_typed, gathered_left, never_past, copied_left, none_by}
use Rattle.load_ops.proofs.left.left_of.Goals as goal

pub returns-then-is_empty : goal.returns-then-is_empty
returns-then-is_empty c = copied_left c.args.tree.now c.args.paths.now c.copy.result (none_by c.args.paths.now c.is_empty.result c.is_empty.ensures c.if-is_empty.true) c.copy.ensures

pub gathered-requires-clause-statements : goal.gathered-requires-clause-statements
gathered-requires-clause-statements c =
    left_statements c.args.tree.now (gathered_from_none c.in_ok-items.items.items) c.in_ok-tags.tags c.in_ok-items.ensures.tree
    (gathered_left c.args.tree.now c.in_ok-tags.tags c.in_ok-items.items.items c.walks_gather_their_tree.ensures c.in_ok-items.ensures.left)

pub gathered-requires-clause-typed : goal.gathered-requires-clause-typed
gathered-requires-clause-typed c =
    left_typed c.args.tree.now (gathered_from_none c.in_ok-items.items.items) c.in_ok-tags.tags c.in_ok-items.ensures.tree
    (gathered_left c.args.tree.now c.in_ok-tags.tags c.in_ok-items.items.items c.walks_gather_their_tree.ensures c.in_ok-items.ensures.left)

pub returns-in-Ok : goal.returns-in-Ok
returns-in-Ok c =
    subst (λ (tags : List (List Step)). IsLeft c.args.tree.now tags c.in-Ok.left) c.in_ok-tags.ensures
    (subst (λ (n : Statements). IsLeft c.args.tree.now c.in_ok-tags.tags n) (sym c.in-Ok.ensures.ok)
    (gathered_left c.args.tree.now c.in_ok-tags.tags c.in_ok-items.items.items c.walks_gather_their_tree.ensures c.in_ok-items.ensures.left))

pub unreachable-requires : goal.unreachable-requires
unreachable-requires c =
    never_past c.args.tree.now c.in_ok-tags.tags c.in_ok-items.items.items c.in-Err-TooMany.field-0-0 c.in_ok-items.ensures.tree c.in_ok-items.ensures.left
    (subst (λ (fault : GatherFault). IsGatherFault c.in_ok-items.items.items fault) c.in-Err-TooMany.field-0-is c.in-Err-TooMany.ensures.err)
