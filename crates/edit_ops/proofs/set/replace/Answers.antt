use Rattle.std.proofs.Common.{refl, sym, ap, subst, ◌∙◌, Some, Ok}
use Rattle.cfg_tree.specs.Statements.{Statements}
use Rattle.cfg_tree.specs.Change.{put_at}
use Rattle.edit_ops.specs.Made.{IsPartMade, IsItself, IsOther}
use Rattle.edit_ops.proofs.SetLemmas.{unchanged, replaced, replace_refused, not_so}
use Rattle.edit_ops.proofs.set.replace.Goals as goal

pub returns-then-has : goal.returns-then-has
returns-then-has c =
    unchanged c.args.tree.now c.args.path.now c.args.value c.args.spared c.requires.tree c.requires.other (c.if-has.ensures.0 refl)

pub returns-in-Err : goal.returns-in-Err
returns-in-Err c =
    replace_refused c.args.tree.now c.args.path.now c.args.value c.args.spared c.requires.tree c.requires.other (not_so c.if-has.ensures.1)
    c.in-Err.fault c.in-Err.ensures.err

pub replace-requires : goal.replace-requires
replace-requires c = subst (λ (x : Statements). IsOther x c.args.path.now c.args.value) (sym c.in_ok-next.ensures) c.requires.other

pub returns : goal.returns
returns c =
    subst (λ (x : Statements). IsPartMade c.args.tree.now (Ok (put_at c.args.tree.now c.args.path.now c.args.value)) (IsItself c.args.spared c.args.path.now) (Ok (Some x)))
    (sym (c.in_ok-replace.ensures.ok ∙ ap (λ (x : Statements). put_at x c.args.path.now c.args.value) c.in_ok-next.ensures))
    (replaced c.args.tree.now c.args.path.now c.args.value c.args.spared c.requires.tree c.requires.other (not_so c.if-has.ensures.1) c.in_default.ensures.ok)
