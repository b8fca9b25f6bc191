use Rattle.std.proofs.Common.{sym, ap, subst, ◌∙◌, Ok}
use Rattle.cfg_base.specs.declared.value.Value.{Value}
use Rattle.cfg_tree.specs.Statements.{Statements}
use Rattle.cfg_tree.specs.Change.{put_at}
use Rattle.edit_ops.specs.Value.{value_set}
use Rattle.edit_ops.specs.Made.{IsPartMade, IsOther, IsNewStatement}
use Rattle.edit_ops.proofs.NearLemmas.{set_there}
use Rattle.edit_ops.proofs.AddLemmas.{adds_none}
use Rattle.edit_ops.proofs.FitLemmas.{other_set, new_set}
use Rattle.edit_ops.proofs.set.set.Goals as goal

pub replace-requires-clause-other : goal.replace-requires-clause-other
replace-requires-clause-other c =
    subst (λ (v : Value). IsOther c.args.tree.now c.args.target.now.path v) (sym c.in_ok-value-in-Some.ensures)
    (other_set c.args.tree.now c.in-Some.old.now c.args.target.now c.in-Some.ensures.tree (sym c.in-Some.ensures.value) c.requires.target c.requires.enough)

pub add-requires-clause-new : goal.add-requires-clause-new
add-requires-clause-new c =
    subst (λ (v : Value). IsNewStatement c.args.tree.now c.args.target.now.path v)
    (sym (c.in_ok-value-in-None.ensures ∙ ap (λ (v : Value). value_set c.args.target.now.path v c.args.target.now.words) c.no_value.ensures))
    (new_set c.args.tree.now c.args.target.now (sym c.in-None.ensures.value) c.requires.target c.requires.enough)

pub returns-then-adds_none : goal.returns-then-adds_none
returns-then-adds_none c =
    adds_none c.args.tree.now c.args.target.now.path c.in-Some.old.now c.in_ok-value-in-Some.value c.args.target.now.words c.requires.target.steps
    c.in-Some.ensures.tree (sym c.in-Some.ensures.value) c.in_ok-value-in-Some.ensures (sym c.if-adds_none.ensures)

pub returns-else-adds_none : goal.returns-else-adds_none
returns-else-adds_none c =
    subst (λ (x : Statements). IsPartMade c.args.tree.now (Ok x) (λ _. ⊥) c.replace.result)
    (sym (set_there c.args.tree.now c.args.target.now.path c.in-Some.old.now c.args.target.now.words c.requires.target.steps c.in-Some.ensures.tree (sym c.in-Some.ensures.value)
    ∙ ap (put_at c.args.tree.now c.args.target.now.path) (sym c.in_ok-value-in-Some.ensures)))
    c.replace.ensures
