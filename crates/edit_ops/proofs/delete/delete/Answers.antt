use Rattle.std.proofs.Common.{◌≡◌, ◌==◌, ℕ, List, false, length, sym, ap, subst, ◌∙◌, Option, Some}
use Rattle.std.specs.List.{list_all}
use Rattle.std.specs.FinMap as map
use Rattle.cfg_tree.specs.Statements.{Statements}
use Rattle.cfg_tree.specs.Tree.{lists}
use Rattle.edit_ops.specs.Value.{words_without}
use Rattle.edit_ops.specs.Change.{left_at, if_there}
use Rattle.edit_ops.specs.Made.{IsPartMade, IsPart}
use Rattle.edit_ops.proofs.FitLemmas.{part}
use Rattle.edit_ops.proofs.DeleteLemmas.{deleted_is}
use Rattle.edit_ops.proofs.delete.delete.Goals as goal

pub leave-requires-clause-part : goal.leave-requires-clause-part
leave-requires-clause-part c =
    subst (λ (ws : List (List ℕ)). IsPart c.args.tree.now c.args.target.now.path c.in-Some.value.now ws)
    (sym (c.in_ok-left.ensures ∙ ap (words_without c.in-Some.value.now.words) c.as_slice-gone.ensures))
    (part c.args.tree.now c.args.target.now.path c.in-Some.value.now c.args.target.now.words c.in-Some.ensures.tree (sym c.in-Some.ensures.value))

pub returns : goal.returns
returns c =
    subst (λ (x : Option Statements). IsPartMade c.args.tree.now (if_there c.args.target.now.path x) (λ _. ⊥) c.leave.result)
    (sym (deleted_is c.args.tree.now c.args.target.now.path (map.get c.args.tree.now c.args.target.now.path) c.in-Some.value.now c.args.target.now.words
    c.in-Some.ensures.value
    (subst (λ (ws : List (List ℕ)). false ≡ (length ws == 0)) c.as_slice-gone.ensures c.if-is_empty.ensures)
    (sym (sym c.if-not-all.false ∙ c.in_ok-all.ensures
    ∙ ap (list_all (lists c.in-Some.value.now.words)) c.as_slice-gone.ensures))
    ∙ ap (λ (ws : List (List ℕ)). Some (left_at c.args.tree.now c.args.target.now.path c.in-Some.value.now ws))
    (sym (c.in_ok-left.ensures ∙ ap (words_without c.in-Some.value.now.words) c.as_slice-gone.ensures))))
    c.leave.ensures
