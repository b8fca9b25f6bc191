use Rattle.std.proofs.Common.{List, sym, subst}
use Rattle.cfg_base.specs.declared.path.Step.{Step}
use Rattle.commands.specs.declared.command.Op.{Op}
use Rattle.edit_ops.specs.Change.{renamed_to, copied_to, inserted_at, changed}
use Rattle.edit_ops.specs.Block.{IsSpared}
use Rattle.edit_ops.specs.Made.{IsPartMade}
use Rattle.edit_ops.proofs.applying.made.Goals as goal

pub returns-in-Set : goal.returns-in-Set
returns-in-Set c =
    subst (λ (op : Op). IsPartMade c.args.tree.now (changed c.args.tree.now op c.args.subject.now) (IsSpared op c.args.subject.now.target.path) c.set.result)
    (sym c.in-Set.is) c.set.ensures

pub returns-in-Delete : goal.returns-in-Delete
returns-in-Delete c =
    subst (λ (op : Op). IsPartMade c.args.tree.now (changed c.args.tree.now op c.args.subject.now) (IsSpared op c.args.subject.now.target.path) c.delete.result)
    (sym c.in-Delete.is) c.delete.ensures

pub returns-in-Activate : goal.returns-in-Activate
returns-in-Activate c =
    subst (λ (op : Op). IsPartMade c.args.tree.now (changed c.args.tree.now op c.args.subject.now) (IsSpared op c.args.subject.now.target.path) c.mark_inactive.result)
    (sym c.in-Activate.is) c.mark_inactive.ensures

pub returns-in-Deactivate : goal.returns-in-Deactivate
returns-in-Deactivate c =
    subst (λ (op : Op). IsPartMade c.args.tree.now (changed c.args.tree.now op c.args.subject.now) (IsSpared op c.args.subject.now.target.path) c.mark_inactive-in-Deactivate.result)
    (sym c.in-Deactivate.is) c.mark_inactive-in-Deactivate.ensures

pub returns-in-Protect : goal.returns-in-Protect
returns-in-Protect c =
    subst (λ (op : Op). IsPartMade c.args.tree.now (changed c.args.tree.now op c.args.subject.now) (IsSpared op c.args.subject.now.target.path) c.mark_protected.result)
    (sym c.in-Protect.is) c.mark_protected.ensures

pub returns-in-Unprotect : goal.returns-in-Unprotect
returns-in-Unprotect c =
    subst (λ (op : Op). IsPartMade c.args.tree.now (changed c.args.tree.now op c.args.subject.now) (IsSpared op c.args.subject.now.target.path) c.mark_protected-in-Unprotect.result)
    (sym c.in-Unprotect.is) c.mark_protected-in-Unprotect.ensures

pub returns-in-Rename : goal.returns-in-Rename
returns-in-Rename c =
    subst (λ (op : Op). IsPartMade c.args.tree.now (changed c.args.tree.now op c.args.subject.now) (IsSpared op c.args.subject.now.target.path) c.rename.result)
    (sym c.in-Rename.is)
    (subst (λ (p : List Step). IsPartMade c.args.tree.now (renamed_to c.args.tree.now c.args.subject.now.target.path p) (λ _. ⊥) c.rename.result) c.other.ensures c.rename.ensures)

pub returns-in-Copy : goal.returns-in-Copy
returns-in-Copy c =
    subst (λ (op : Op). IsPartMade c.args.tree.now (changed c.args.tree.now op c.args.subject.now) (IsSpared op c.args.subject.now.target.path) c.copy.result)
    (sym c.in-Copy.is)
    (subst (λ (p : List Step). IsPartMade c.args.tree.now (copied_to c.args.tree.now c.args.subject.now.target.path p) (λ _. ⊥) c.copy.result) c.other-in-Copy.ensures c.copy.ensures)

pub returns-in-Insert : goal.returns-in-Insert
returns-in-Insert c =
    subst (λ (op : Op). IsPartMade c.args.tree.now (changed c.args.tree.now op c.args.subject.now) (IsSpared op c.args.subject.now.target.path) c.insert.result)
    (sym c.in-Insert.is)
    (subst (λ (p : List Step). IsPartMade c.args.tree.now (inserted_at c.args.tree.now c.in-Insert.before c.args.subject.now.target.path p) (λ _. ⊥) c.insert.result) c.other-in-Insert.ensures c.insert.ensures)
