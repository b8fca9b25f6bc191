use Rattle.std.proofs.Common.{ap, ◌∙◌}
use Rattle.cfg_tree.specs.Statements.{Statements}
use Rattle.cfg_tree.specs.Change.{removed}
use Rattle.edit_ops.proofs.DeleteLemmas.{taken, take_refused, take_refused_below}
use Rattle.edit_ops.proofs.delete.take.Goals as goal

pub returns-in-Err : goal.returns-in-Err
returns-in-Err c = take_refused c.args.tree.now c.args.path.now c.requires.steps c.requires.there c.in-Err.fault c.in-Err.ensures.err

pub returns-in-Err-guard_below : goal.returns-in-Err-guard_below
returns-in-Err-guard_below c =
    take_refused_below c.args.tree.now c.args.path.now c.requires.steps c.requires.there c.in-Err-guard_below.fault c.in_default.ensures.ok c.in-Err-guard_below.ensures.err

pub returns : goal.returns
returns c =
    taken c.args.tree.now c.args.path.now c.requires.steps c.requires.there c.remove.new.self
    (c.in_ok-remove.ensures.ok ∙ ap (λ (x : Statements). removed x c.args.path.now) c.in_ok-next.ensures)
    c.in_default.ensures.ok c.in_default-guard_below.ensures.ok
