use Rattle.std.proofs.Common.{sym, subst}
use Rattle.edit_ops.specs.declared.fault.EditFault.{EditFault}
use Rattle.edit_ops.specs.Made.{IsRoomFault}
use Rattle.edit_ops.proofs.SetLemmas.{put_fault}
use Rattle.edit_ops.proofs.set.put.Goals as goal

pub returns-in-Err-clause-err : goal.returns-in-Err-clause-err
returns-in-Err-clause-err c =
    subst (λ (f : EditFault). IsRoomFault c.args.tree.now c.args.path.now f) (sym c.from.ensures)
    (put_fault c.args.tree.now c.args.path.now c.args.value c.in-Err.fault c.requires.fits c.in-Err.ensures.err)
