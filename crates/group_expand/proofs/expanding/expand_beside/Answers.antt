use Rattle.std.proofs.Common.{◌≡◌, ◌<◌, ℕ, List, [], sym, ap, subst, ◌∙◌}
use Rattle.std.specs.FinMap as map
use Rattle.cfg_base.specs.Order.{path_cmp}
use Rattle.cfg_tree.specs.Full.{Expansion}
use Rattle.cfg_tree.specs.declared.limit.TheConstants.{MAX_EXPANDED}
use Rattle.cfg_base.specs.declared.path.TheConstants.{MAX_STEPS}
use Rattle.group_expand.specs.Expansion.{IsExpansion}
use Rattle.group_expand.specs.Row.{StatementView}
use Rattle.group_expand.specs.Placed.{map_of, given_below, IsRow}
use Rattle.group_expand.proofs.EndLemmas.{ok_map, expansion_is, size_is}
use Rattle.group_expand.proofs.expanding.expand_beside.Goals as goal

pub returns-clause-ok : goal.returns-clause-ok
returns-clause-ok c =
    let same : map_of c.deref.result.now ≡ c.args.tree.now = ap map_of c.deref.ensures.value ∙ c.in_ok-row.ensures.map
    in let row : IsRow c.deref.result.now = subst (λ (xs : List StatementView). IsRow xs) (sym c.deref.ensures.value) c.in_ok-row.ensures.row
    in ok_map _ _ (λ full made. subst (λ (f : Expansion). IsExpansion c.args.tree.now f) (sym made) (expansion_is c.args.tree.now c.deref.result.now same row))
    c.expanded.result c.expanded.ensures.ok

pub returns-clause-wide : goal.returns-clause-wide
returns-clause-wide c = λ h.
    let same : map_of c.deref.result.now ≡ c.args.tree.now = ap map_of c.deref.ensures.value ∙ c.in_ok-row.ensures.map
    in let row : IsRow c.deref.result.now = subst (λ (xs : List StatementView). IsRow xs) (sym c.deref.ensures.value) c.in_ok-row.ensures.row
    in (
      map.from_entries {R = path_cmp} (given_below c.deref.result.now MAX_STEPS []),
      expansion_is c.args.tree.now c.deref.result.now same row,
      subst (λ (n : ℕ). MAX_EXPANDED < n) (sym (size_is c.deref.result.now row)) (c.expanded.ensures.wide h),
    )
