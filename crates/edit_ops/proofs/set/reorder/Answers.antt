use Rattle.std.proofs.Common.{sym, ap, subst, ◌∙◌}
use Rattle.cfg_tree.specs.Statements.{Statements}
use Rattle.cfg_tree.specs.Change.{put_at, IsReady}
use Rattle.edit_ops.specs.Made.{IsRoomFault}
use Rattle.edit_ops.proofs.InsertLemmas.{fits_again, ready_again, order_same, order_made, order_refused, order_room, value_differs, value_same}
use Rattle.edit_ops.proofs.set.reorder.Goals as goal

pub returns-then-eq : goal.returns-then-eq
returns-then-eq c =
    order_same c.args.tree.now c.args.path.now c.args.old.now c.args.value c.requires.tree c.requires.reordered
    (value_same c.args.old.now c.args.value c.if-eq.ensures)

pub returns-in-Err : goal.returns-in-Err
returns-in-Err c =
    order_refused c.args.tree.now c.args.path.now c.args.old.now c.args.value c.requires.tree c.requires.reordered
    (value_differs c.args.old.now c.args.value c.if-eq.ensures) c.in-Err.fault c.in-Err.ensures.err

pub put-requires-clause-ready : goal.put-requires-clause-ready
put-requires-clause-ready c =
    subst (λ (m : Statements). IsReady m c.args.path.now c.args.value) (sym c.in_ok-next.ensures)
    (ready_again c.args.tree.now c.args.path.now c.args.old.now c.args.value c.requires.tree c.requires.reordered)

pub put-requires-clause-fits : goal.put-requires-clause-fits
put-requires-clause-fits c = fits_again c.args.tree.now c.args.path.now c.args.old.now c.args.value c.requires.tree c.requires.reordered

pub returns-in-Ok : goal.returns-in-Ok
returns-in-Ok c =
    order_made c.args.tree.now c.args.path.now c.args.old.now c.args.value c.requires.tree c.requires.reordered
    (value_differs c.args.old.now c.args.value c.if-eq.ensures) c.put.new.tree
    (c.in-Ok.ensures.ok ∙ ap (λ (m : Statements). put_at m c.args.path.now c.args.value) c.in_ok-next.ensures) c.in_default.ensures.ok

pub returns-in-Err-put : goal.returns-in-Err-put
returns-in-Err-put c =
    order_room c.args.tree.now c.args.path.now c.args.old.now c.args.value c.requires.tree c.requires.reordered c.in-Err-put.fault
    (subst (λ (m : Statements). IsRoomFault m c.args.path.now c.in-Err-put.fault) c.in_ok-next.ensures c.in-Err-put.ensures.err)
