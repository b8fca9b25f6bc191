use Rattle.std.proofs.Common.{List, sym, ap, subst, ◌∙◌, Result, Ok}
use Rattle.std.specs.FinMap as map
use Rattle.cfg_base.specs.declared.path.Step.{Step}
use Rattle.cfg_tree.specs.Statements.{Statements}
use Rattle.cfg_tree.specs.Change.{put_at}
use Rattle.edit_ops.specs.declared.fault.EditFault.{EditFault}
use Rattle.edit_ops.specs.Change.{insert_causes, inserted}
use Rattle.edit_ops.specs.Made.{IsPartMade, IsReordered}
use Rattle.edit_ops.proofs.MoveLemmas.{cause_refuses}
use Rattle.edit_ops.proofs.InsertLemmas.{moved_order, insert_is}
use Rattle.edit_ops.proofs.insert.insert.Goals as goal

pub returns-in-Err : goal.returns-in-Err
returns-in-Err c =
    cause_refuses c.args.tree.now (inserted c.args.tree.now c.args.before c.args.path.now c.args.anchor.now) (insert_causes c.args.tree.now c.args.path.now c.args.anchor.now)
    (λ _. ⊥) c.in-Err.fault c.in-Err.ensures.err

pub reorder-requires-clause-reordered : goal.reorder-requires-clause-reordered
reorder-requires-clause-reordered c =
    subst (λ (p : List Step). IsReordered c.args.tree.now p c.in-Some.old.now c.in_ok-value-in-Some.value) (sym c.in_ok-parent.ensures)
    (moved_order c.args.tree.now c.args.before c.args.path.now c.args.anchor.now c.in_default.ensures.tree c.requires c.in_default.ensures.ok
    c.in-Some.old.now c.in_ok-value-in-Some.value (ap (map.get c.args.tree.now) (sym c.in_ok-parent.ensures) ∙ sym c.in-Some.ensures.value) c.in_ok-value-in-Some.ensures)

pub returns : goal.returns
returns c =
    subst (λ (r : Result Statements EditFault). IsPartMade c.args.tree.now r (λ _. ⊥) c.reorder.result)
    (sym (insert_is c.args.tree.now c.args.before c.args.path.now c.args.anchor.now c.in_default.ensures.tree c.requires c.in_default.ensures.ok
    c.in-Some.old.now c.in_ok-value-in-Some.value (ap (map.get c.args.tree.now) (sym c.in_ok-parent.ensures) ∙ sym c.in-Some.ensures.value) c.in_ok-value-in-Some.ensures))
    (subst (λ (p : List Step). IsPartMade c.args.tree.now (Ok (put_at c.args.tree.now p c.in_ok-value-in-Some.value)) (λ _. ⊥) c.reorder.result)
    c.in_ok-parent.ensures c.reorder.ensures)
