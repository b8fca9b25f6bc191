use Rattle.std.proofs.Common.{◌≡◌, List, Some, ap, sym, subst}
use Rattle.std.specs.FinMap as map
use Rattle.std.specs.List.{AllByRecursion}
use Rattle.cfg_base.specs.declared.value.Value.{Value}
use Rattle.cfg_entries.specs.EntryMap.{Pair}
use Rattle.printing_order.proofs.EntriesLemmas.{found_all}
use Rattle.commit_check.specs.Groups.{names_no_group}
use Rattle.commit_check.specs.First.{first_of}
use Rattle.commit_check.proofs.groups.first_unknown.Goals as goal

pub loop-path-init : goal.loop-path-init
loop-path-init c =
    let all = c.walk-left.ensures
    in (
      ap (λ (es : List (Pair Value)). first_of (λ e. names_no_group c.args.tree.now e.0) es) all,
      subst (AllByRecursion (λ (e : Pair Value). map.get c.args.tree.now e.0 ≡ Some e.1)) (sym all) (found_all c.args.tree.now),
    )

pub names_no_group_at-requires : goal.names_no_group_at-requires
names_no_group_at-requires c =
    (subst (AllByRecursion (λ (e : Pair Value). map.get c.args.tree.now e.0 ≡ Some e.1)) c.in-Some.ensures c.loop-path.invariant.1).0
