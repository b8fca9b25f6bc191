use Rattle.std.proofs.Common.{◌≡◌, List, [], sym, subst, rules}
use Rattle.std.specs.Map.{keys_of}
use Rattle.std.specs.List.Sorted.{IsStrictlySortedBy}
use Rattle.cfg_base.specs.Order.{path_cmp}
use Rattle.cfg_base.specs.declared.path.Step.{Step}
use Rattle.cfg_base.specs.declared.path.TheConstants.{MAX_STEPS}
use Rattle.cfg_tree.specs.declared.full.Given.{Given}
use Rattle.group_expand.specs.Placed.{given_below}
use Rattle.group_expand.proofs.EndLemmas.{sorted_below}
use Rattle.group_expand.proofs.expanding.expanded.Goals as goal

pub finish-requires : goal.finish-requires
finish-requires c =
    let made : c.in-Ok.made ≡ given_below c.args.row.now MAX_STEPS [] = search rules
    in subst (λ (es : List (List Step × Given)). IsStrictlySortedBy path_cmp (keys_of es)) (sym made) (sorted_below c.args.row.now c.requires)
