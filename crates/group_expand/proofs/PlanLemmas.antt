-- The row of a configuration: what is met at its top, and its groups.
use Rattle.std.proofs.Common.{◌≡◌, ◌<◌, Bool, true, false, cond, List, [], ◌∷◌, ◌++◌, length, filter, map, refl, sym, ap, ◌∙◌, Some, None, is_some}
use Rattle.std.specs.Prelude.{◌&&◌, find}
use Rattle.std.specs.FinMap as finite
use Rattle.std.specs.List.{AllByRecursion}
use Rattle.std.specs.Ordering.{eq_by_cmp}
use Rattle.cfg_base.specs.Order.{step_cmp}
use Rattle.cfg_base.specs.declared.path.Step.{Step}
use Rattle.cfg_tree.specs.Statements.{last_of}
use Rattle.cfg_tree.specs.Children.{is_inside, step_if}
use Rattle.cfg_tree.proofs.OnceLemmas.{steps_once}
use Rattle.group_expand.specs.Live.{Look, is_active, is_live}
use Rattle.group_expand.specs.Sources.{groups_step, same_step}
use Rattle.group_expand.specs.Row.{StatementView}
use Rattle.group_expand.specs.Node.{AreInside, children_of, live_children}
use Rattle.group_expand.specs.Runs.{own_nodes}
use Rattle.group_expand.specs.Placed.{map_of, node_at, kids_at, look_of, kids_of, IsRow}
use Rattle.group_expand.proofs.NodeLemmas.{lt_is}
use Rattle.group_expand.proofs.PlacedLemmas.{live_more, all_pass, row_there, children_at}
use Rattle.group_expand.proofs.GivenLemmas.{find_first, first_of, exact_at}

pub once_at : (row : List StatementView) (q : List Step) (s : Step) → filter (eq_by_cmp step_cmp s) (kids_of row q) ≡ step_if (is_some (look_of row (q ++ s ∷ []))) s
once_at row q s = steps_once (map_of row) q s

pub below_at : (row : List StatementView) → IsRow row → (q : List Step) → is_live (look_of row) q ≡ true → children_of (node_at (look_of row) row q) ≡ kids_at (look_of row) (kids_of row) row q
below_at row h q live = children_at row q h.ordered live

long_inside : (q : List Step) → 0 < length q → is_inside [] q ≡ true
long_inside q l = lt_is 0 (length q) l

pub top_inside : (row : List StatementView) → IsRow row → AreInside [] row
top_inside row h = each row (row_there row h.ordered)
  where
    each : (xs : List StatementView) → AllByRecursion (λ x. finite.get (map_of row) x.path ≡ Some x.value) xs → AreInside [] xs
    each [] k = tt
    each (x ∷ xs) k = (long_inside x.path (h.tree.statements.parents x.path (ap is_some k.0)).steps, each xs k.1)

pub top_at : (row : List StatementView) → IsRow row → live_children [] row ≡ kids_at (look_of row) (kids_of row) row []
top_at row h =
    ap (live_children []) (sym (all_pass (λ x. is_inside [] x.path) row (top_inside row h)))
    ∙ children_at row [] h.ordered refl

pub dead_kids : (look : Look) (q : List Step) → is_live look q ≡ false → (ss : List Step) → filter (λ s. is_live look (q ++ s ∷ [])) ss ≡ []
dead_kids look q dead [] = refl
dead_kids look q dead (s ∷ ss) =
    ap (λ (b : Bool). cond b (s ∷ filter (λ t. is_live look (q ++ t ∷ [])) ss) (filter (λ t. is_live look (q ++ t ∷ [])) ss))
    (live_more look q s ∙ ap (λ (b : Bool). b && is_active (look (q ++ s ∷ []))) dead)
    ∙ dead_kids look q dead ss

-- the configuration's own live statements right below a path, live or not
pub own_at : (row : List StatementView) → IsRow row → (q : List Step)
    → own_nodes (cond (is_live (look_of row) q) (Some (node_at (look_of row) row q)) None) ≡ cond (is_live (look_of row) q) (kids_at (look_of row) (kids_of row) row q) []
own_at row h q = by_live (is_live (look_of row) q) refl
  where
    by_live : (b : Bool) → is_live (look_of row) q ≡ b → own_nodes (cond b (Some (node_at (look_of row) row q)) None) ≡ cond b (kids_at (look_of row) (kids_of row) row q) []
    by_live true e = below_at row h q e
    by_live false e = refl

pub groups_at : (row : List StatementView) → IsRow row
    → own_nodes (find (λ n. same_step groups_step (last_of n.path)) (kids_at (look_of row) (kids_of row) row [])) ≡ kids_at (look_of row) (kids_of row) row (groups_step ∷ [])
groups_at row h =
    ap own_nodes (find_first (λ n. same_step groups_step (last_of n.path)) (kids_at (look_of row) (kids_of row) row [])
    ∙ ap first_of (exact_at (look_of row) (kids_of row) row (once_at row) (below_at row h) [] groups_step))
    ∙ by_live (is_live (look_of row) (groups_step ∷ [])) refl
  where
    by_live : (b : Bool) → is_live (look_of row) (groups_step ∷ []) ≡ b
        → own_nodes (first_of (map (node_at (look_of row) row) (cond b ((groups_step ∷ []) ∷ []) []))) ≡ kids_at (look_of row) (kids_of row) row (groups_step ∷ [])
    by_live true e = below_at row h (groups_step ∷ []) e
    by_live false e = ap (λ (ss : List Step). map (λ s. node_at (look_of row) row ((groups_step ∷ []) ++ s ∷ [])) ss) (sym (dead_kids (look_of row) (groups_step ∷ []) e (kids_of row (groups_step ∷ []))))
