use Rattle.std.proofs.Common.{sym, ap, subst, ◌∙◌}
use Rattle.cfg_tree.specs.Statements.{Statements}
use Rattle.cfg_tree.specs.Moving.{IsNewName, renamed}
use Rattle.edit_ops.specs.Change.{move_causes}
use Rattle.edit_ops.proofs.MoveLemmas.{cause_refuses, new_name, rename_made, rename_refused, rename_refused_below}
use Rattle.edit_ops.proofs.moves.rename.Goals as goal

pub returns-in-Err : goal.returns-in-Err
returns-in-Err c =
    cause_refuses c.args.tree.now (renamed c.args.tree.now c.args.path.now c.args.other.now) (move_causes c.args.tree.now c.args.path.now c.args.other.now)
    (λ _. ⊥) c.in-Err.fault c.in-Err.ensures.err

pub guard-requires-clause-tree : goal.guard-requires-clause-tree
guard-requires-clause-tree c = c.in_default.ensures.tree

pub returns-in-Err-guard : goal.returns-in-Err-guard
returns-in-Err-guard c =
    rename_refused c.args.tree.now c.args.path.now c.args.other.now c.in_default.ensures.tree c.requires c.in_default.ensures.ok c.in-Err-guard.fault
    c.in-Err-guard.ensures.err

pub returns-in-Err-guard_below : goal.returns-in-Err-guard_below
returns-in-Err-guard_below c =
    rename_refused_below c.args.tree.now c.args.path.now c.args.other.now c.in_default.ensures.tree c.requires c.in_default.ensures.ok c.in-Err-guard_below.fault
    c.in_default-guard.ensures.ok c.in-Err-guard_below.ensures.err

pub rename_statement-requires : goal.rename_statement-requires
rename_statement-requires c =
    subst (λ (m : Statements). IsNewName m c.args.path.now c.args.other.now) (sym c.in_ok-next.ensures)
    (new_name c.args.tree.now c.args.path.now c.args.other.now c.in_default.ensures.tree c.requires c.in_default.ensures.ok)

pub returns : goal.returns
returns c =
    rename_made c.args.tree.now c.args.path.now c.args.other.now c.in_default.ensures.tree c.requires c.in_default.ensures.ok c.rename_statement.new.self
    (c.in_ok-rename_statement.ensures.ok ∙ ap (λ (m : Statements). renamed m c.args.path.now c.args.other.now) c.in_ok-next.ensures)
    c.in_default-guard.ensures.ok c.in_default-guard_below.ensures.ok
