use Rattle.std.proofs.Common.{◌-◌, length, sym, ap, subst, ◌∙◌, Some, Ok}
use Rattle.cfg_tree.specs.Statements.{Statements}
use Rattle.cfg_tree.specs.Tree.{IsTree}
use Rattle.cfg_tree.specs.Change.{put_at}
use Rattle.edit_ops.specs.Change.{with_levels}
use Rattle.edit_ops.specs.Made.{IsPartMade, IsLevelsFault, IsRoomFault, LevelsPut}
use Rattle.edit_ops.proofs.SetLemmas.{added, add_refused, add_crowded, add_room, new_is_ready}
use Rattle.edit_ops.proofs.set.add.Goals as goal

pub returns-in-Err : goal.returns-in-Err
returns-in-Err c = add_refused c.args.tree.now c.args.path.now c.args.value c.requires.new c.in-Err.fault c.in-Err.ensures.err

pub returns-in-Err-put_levels : goal.returns-in-Err-put_levels
returns-in-Err-put_levels c =
    add_crowded c.args.tree.now c.args.path.now c.args.value c.requires.new c.in_default.ensures.ok c.in-Err-put_levels.fault
    (subst (λ (x : Statements). IsLevelsFault x (length c.args.path.now - 1) c.args.path.now c.in-Err-put_levels.fault) c.in_ok-next.ensures
    c.in-Err-put_levels.ensures.err)

pub put-requires-clause-ready : goal.put-requires-clause-ready
put-requires-clause-ready c =
    new_is_ready c.args.tree.now c.args.path.now c.args.value c.requires.new c.put_levels.new.tree (subst IsTree c.next.view_is c.next.invariant)
    (subst (λ (x : Statements). LevelsPut x c.put_levels.new.tree (length c.args.path.now - 1) c.args.path.now) c.in_ok-next.ensures
    c.in_default-put_levels.ensures.ok)

pub returns-in-Ok : goal.returns-in-Ok
returns-in-Ok c =
    subst (λ (x : Statements). IsPartMade c.args.tree.now (Ok (put_at (with_levels c.args.tree.now (length c.args.path.now - 1) c.args.path.now) c.args.path.now c.args.value)) (λ _. ⊥) (Ok (Some x)))
    (sym (c.in-Ok.ensures.ok ∙ ap (λ (x : Statements). put_at x c.args.path.now c.args.value)
    (c.in_default-put_levels.ensures.ok.is ∙ ap (λ (x : Statements). with_levels x (length c.args.path.now - 1) c.args.path.now) c.in_ok-next.ensures)))
    (added c.args.tree.now c.args.path.now c.args.value c.requires.new c.in_default.ensures.ok)

pub returns-in-Err-put : goal.returns-in-Err-put
returns-in-Err-put c =
    add_room c.args.tree.now c.args.path.now c.args.value c.requires.new c.in_default.ensures.ok c.in-Err-put.fault
    (subst (λ (x : Statements). IsRoomFault x c.args.path.now c.in-Err-put.fault)
    (c.in_default-put_levels.ensures.ok.is ∙ ap (λ (x : Statements). with_levels x (length c.args.path.now - 1) c.args.path.now) c.in_ok-next.ensures)
    c.in-Err-put.ensures.err)
