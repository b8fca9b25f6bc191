use Rattle.std.proofs.Common.{sym, ap, subst, ◌∙◌, Err}
use Rattle.cfg_tree.specs.Statements.{Statements}
use Rattle.cfg_tree.specs.Moving.{IsNewName, IsCopyFault, copied}
use Rattle.edit_ops.specs.declared.fault.EditFault.{EditFault}
use Rattle.edit_ops.specs.Change.{move_causes, copied_to}
use Rattle.edit_ops.specs.Made.{IsPartMade}
use Rattle.edit_ops.proofs.MoveLemmas.{cause_refuses, new_name, copy_made, copy_refused, copy_crowded}
use Rattle.edit_ops.proofs.moves.copy.Goals as goal

pub returns-in-Err : goal.returns-in-Err
returns-in-Err c =
    cause_refuses c.args.tree.now (copied c.args.tree.now c.args.path.now c.args.other.now) (move_causes c.args.tree.now c.args.path.now c.args.other.now)
    (λ _. ⊥) c.in-Err.fault c.in-Err.ensures.err

pub guard-requires-clause-tree : goal.guard-requires-clause-tree
guard-requires-clause-tree c = c.in_default.ensures.tree

pub returns-in-Err-guard : goal.returns-in-Err-guard
returns-in-Err-guard c =
    copy_refused c.args.tree.now c.args.path.now c.args.other.now c.in_default.ensures.tree c.requires c.in_default.ensures.ok c.in-Err-guard.fault
    c.in-Err-guard.ensures.err

pub copy_statement-requires : goal.copy_statement-requires
copy_statement-requires c =
    subst (λ (m : Statements). IsNewName m c.args.path.now c.args.other.now) (sym c.in_ok-next.ensures)
    (new_name c.args.tree.now c.args.path.now c.args.other.now c.in_default.ensures.tree c.requires c.in_default.ensures.ok)

pub returns-in-Ok : goal.returns-in-Ok
returns-in-Ok c =
    copy_made c.args.tree.now c.args.path.now c.args.other.now c.in_default.ensures.tree c.requires c.in_default.ensures.ok c.copy_statement.new.self
    (c.in-Ok.ensures.ok ∙ ap (λ (m : Statements). copied m c.args.path.now c.args.other.now) c.in_ok-next.ensures) c.in_default-guard.ensures.ok

pub returns-in-Err-copy_statement : goal.returns-in-Err-copy_statement
returns-in-Err-copy_statement c =
    subst (λ (fault : EditFault). IsPartMade c.args.tree.now (copied_to c.args.tree.now c.args.path.now c.args.other.now) (λ _. ⊥) (Err fault)) (sym c.from.ensures)
    (copy_crowded c.args.tree.now c.args.path.now c.args.other.now c.in_default.ensures.tree c.requires c.in_default.ensures.ok c.in-Err-copy_statement.fault
    c.in_default-guard.ensures.ok
    (subst (λ (m : Statements). IsCopyFault m c.args.path.now c.args.other.now c.in-Err-copy_statement.fault) c.in_ok-next.ensures c.in-Err-copy_statement.ensures.err))
