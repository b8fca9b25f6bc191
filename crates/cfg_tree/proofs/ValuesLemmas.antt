-- Maps with other values at some paths, and whether two maps have the same values.
use Rattle.std.proofs.Common.{◌≡◌, ◌≢◌, Bool, true, false, cond, List, [], ◌∷◌, ◌++◌, refl, ap, ◌∙◌, Option, Some, None}
use Rattle.std.specs.FinMap as map
use Rattle.std.specs.Ordering.{eq_by_cmp}
use Rattle.std.proofs.lemmas.Bool.Decides.{not_from_Decides}
use Rattle.cfg_base.specs.Order.{path_cmp, paths_total}
use Rattle.cfg_base.specs.declared.path.Step.{Step}
use Rattle.cfg_base.specs.declared.value.Value.{Value}
use Rattle.cfg_base.specs.contracts.value.ValuePartialEq.TheImpl as value_order
use Rattle.cfg_entries.specs.EntryMap.{EntryMap}
use Rattle.cfg_tree.specs.Statements.{Statements}
use Rattle.cfg_tree.specs.Shown.{shown}
use Rattle.cfg_tree.specs.Values.{Stand, with_value, with_values}
use Rattle.cfg_tree.proofs.MapLemmas.{same_path, same_statements}
use Rattle.cfg_tree.proofs.SameLemmas.{same_value}
use Rattle.cfg_tree.proofs.PathLemmas.{get_here, get_other}

pub values_of : (entries made : EntryMap (List Step) Value) (m : Statements) (stands : List Stand) → shown entries ≡ m
    → shown made ≡ with_values (shown entries) stands → shown made ≡ with_values m stands
values_of entries made m stands e f = f ∙ ap (λ (n : Statements). with_values n stands) e

-- one path more at the end
pub with_values-push : (m : Statements) (stands : List Stand) (path : List Step) (value : Option Value)
    → with_values m (stands ++ (path, value) ∷ []) ≡ with_value (with_values m stands) path value
with_values-push m [] path value = refl
with_values-push m (s ∷ stands) path value = with_values-push (with_value m s.0 s.1) stands path value

-- what a look-up finds at the path, and elsewhere
pub value_here : (m : Statements) (path : List Step) (value : Option Value) → map.get (with_value m path value) path ≡ value
value_here m path None =
    map.get-remove paths_total m path path
    ∙ ap (λ (b : Bool). cond b None (map.get m path)) ((same_path path path).1 refl)
value_here m path (Some v) = get_here m path v

pub value_other : (m : Statements) (path q : List Step) (value : Option Value) → q ≢ path → map.get (with_value m path value) q ≡ map.get m q
value_other m path q None h =
    map.get-remove paths_total m path q ∙ ap (λ (b : Bool). cond b None (map.get m q)) (apart _ refl)
  where
    apart : (b : Bool) → eq_by_cmp path_cmp q path ≡ b → b ≡ false
    apart true e = absurd (h ((same_path q path).0 e))
    apart false e = refl
value_other m path q (Some v) h = get_other m path q v h

-- whether two values of a path are one
pub value_or_not : (a b : Option Value) (P : Type 0) → (a ≡ b → P) → (a ≢ b → P) → P
value_or_not None None P f g = f refl
value_or_not None (Some w) P f g = g (λ e. cc)
value_or_not (Some v) None P f g = g (λ e. cc)
value_or_not (Some v) (Some w) P f g = by_test _ refl
  where
    same_some : Some v ≡ Some w → v ≡ w
    same_some e = cc

    by_test : (b : Bool) → (value_order.ghosts).eq v w ≡ b → P
    by_test true e = f (ap Some ((same_value v w).0 e))
    by_test false e = g (λ same. not_from_Decides _ (same_value v w) e (same_some same))

-- maps that don't differ are one
pub never_differ : (m n : Statements) → ¬ (m ≢ n) → m ≡ n
never_differ m n h = same_statements m n (λ q.
    value_or_not (map.get m q) (map.get n q) (map.get m q ≡ map.get n q)
    (λ e. e)
    (λ differs. absurd (h (λ same. differs (ap (λ (x : Statements). map.get x q) same)))))
