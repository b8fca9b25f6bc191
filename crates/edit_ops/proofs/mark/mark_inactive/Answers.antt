use Rattle.std.proofs.Common.{sym, ap, subst, ◌∙◌, Option, Some}
use Rattle.std.specs.FinMap as map
use Rattle.cfg_base.specs.declared.value.Value.{Value}
use Rattle.cfg_tree.specs.Statements.{Statements}
use Rattle.cfg_tree.specs.Change.{put_at}
use Rattle.edit_ops.specs.Change.{if_there}
use Rattle.edit_ops.specs.Made.{IsPartMade}
use Rattle.edit_ops.proofs.FitLemmas.{other_mark}
use Rattle.edit_ops.proofs.DeleteLemmas.{mark_is, same_fields}
use Rattle.edit_ops.proofs.mark.mark_inactive.Goals as goal

pub replace-requires-clause-other : goal.replace-requires-clause-other
replace-requires-clause-other c =
    let same = same_fields c.in_ok-value-in-Some.value c.in-Some.value.now c.in_ok-value-in-Some.ensures.cases
    in other_mark c.args.tree.now c.args.path.now c.in-Some.value.now (record c.in_ok-value-in-Some.value { inactive = c.args.mark })
    c.in-Some.ensures.tree (sym c.in-Some.ensures.value) (ap (λ (v : Value). v.order) same) (ap (λ (v : Value). v.words) same)

pub returns-in_ok-value-in-Some : goal.returns-in_ok-value-in-Some
returns-in_ok-value-in-Some c =
    subst (λ (x : Option Statements). IsPartMade c.args.tree.now (if_there c.args.path.now x) (λ _. ⊥) c.replace.result)
    (sym (mark_is c.args.tree.now c.args.path.now (map.get c.args.tree.now c.args.path.now) c.in-Some.value.now (λ (v : Value). record v { inactive = c.args.mark }) c.in-Some.ensures.value
    ∙ ap (λ (v : Value). Some (put_at c.args.tree.now c.args.path.now (record v { inactive = c.args.mark })))
    (sym (same_fields c.in_ok-value-in-Some.value c.in-Some.value.now c.in_ok-value-in-Some.ensures.cases))))
    c.replace.ensures
