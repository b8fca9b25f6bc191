use Rattle.std.proofs.Common.{List, sym, subst}
use Rattle.cfg_base.specs.declared.path.Step.{Step}
use Rattle.cfg_tree.specs.Typed.{IsLevelPath}
use Rattle.cfg_tree.proofs.FollowLemmas.{parent_is_level}
use Rattle.edit_ops.proofs.AskedLemmas.{memory_fault, memory_only, names_alone}
use Rattle.edit_ops.proofs.asked.second.Goals as goal

pub returns-in_err-parent-clause-err : goal.returns-in_err-parent-clause-err
returns-in_err-parent-clause-err c = memory_only _ c.from_residual.result (memory_fault _ _ _ _) c.from_residual.ensures

pub resolve-requires : goal.resolve-requires
resolve-requires c =
    subst (λ (p : List Step). IsLevelPath p) (sym c.in_ok-parent.ensures) (parent_is_level c.args.path.now c.requires.steps c.requires.typed)

pub returns-then-is_empty-clause-names : goal.returns-then-is_empty-clause-names
returns-then-is_empty-clause-names c =
    names_alone _ c.args.path.now c.args.words.now _ c.in_ok-found.found c.in_ok-parent.ensures c.as_slice.ensures c.if-is_empty.ensures c.in_ok-found.ensures.says
