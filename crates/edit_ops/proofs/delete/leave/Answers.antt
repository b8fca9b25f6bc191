use Rattle.std.proofs.Common.{sym, ap, subst, ◌∙◌, Ok}
use Rattle.cfg_base.specs.declared.value.Value.{Value}
use Rattle.cfg_tree.specs.Statements.{Statements}
use Rattle.cfg_tree.specs.Change.{put_at}
use Rattle.edit_ops.specs.Made.{IsPartMade}
use Rattle.edit_ops.proofs.DeleteLemmas.{left_is, same_fields}
use Rattle.edit_ops.proofs.delete.leave.Goals as goal

pub returns : goal.returns
returns c =
    subst (λ (x : Statements). IsPartMade c.args.tree.now (Ok x) (λ _. ⊥) c.replace.result)
    (sym (left_is c.args.tree.now c.args.path.now c.args.value.now c.args.left
    c.if-is_empty.ensures
    ∙ ap (λ (v : Value). put_at c.args.tree.now c.args.path.now (record v { words = c.args.left })) (sym (same_fields c.in_ok-value.value c.args.value.now c.in_ok-value.ensures.cases))))
    c.replace.ensures
