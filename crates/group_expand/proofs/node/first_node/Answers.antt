use Rattle.std.proofs.Common.{◌≡◌, List, sym, subst, ◌∙◌}
use Rattle.cfg_base.specs.declared.path.Step.{Step}
use Rattle.group_expand.specs.Row.{StatementView, path_in}
use Rattle.group_expand.specs.Node.{IsPart}
use Rattle.group_expand.proofs.NodeLemmas.{part_of_first, first_path}
use Rattle.group_expand.proofs.node.first_node.Goals as goal

pub invariant_of-result : goal.invariant_of-result
invariant_of-result c =
    let path : c.path.result.now ≡ path_in c.args.part.now
    = c.path.ensures ∙ first_path c.args.part.now c.index-part-0.result c.requires.some c.index-part-0.is
    in subst (λ (p : List Step). IsPart p c.inside.result.now) (sym path)
    (subst (λ (xs : List StatementView). IsPart (path_in c.args.part.now) xs) (sym c.inside.ensures)
    (part_of_first c.args.part.now c.requires.some c.requires.long c.requires.counted c.requires.ordered))
