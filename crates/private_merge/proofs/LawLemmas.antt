-- One answer of a merge, and the merges in which one side changed nothing.
use Rattle.std.proofs.Common.{◌≡◌, ◌≢◌, ◌⊎◌, inl, inr, ◌<◌, ◌≤◌, true, List, length, refl, sym, ap, subst, ◌∙◌, Option, Some, None, is_some, Ordering, Less, Equal, Greater, arith}
use Rattle.std.specs.FinMap as map
use Rattle.std.specs.Ordering.{ordering_reverse}
use Rattle.cfg_base.specs.Order.{path_cmp, paths_total}
use Rattle.cfg_base.specs.declared.path.Step.{Step}
use Rattle.cfg_base.specs.declared.value.Value.{Value}
use Rattle.cfg_entries.proofs.OrderLemmas.{path_same}
use Rattle.cfg_tree.specs.declared.limit.TheConstants.{MAX_STATEMENTS}
use Rattle.cfg_tree.specs.Statements.{Statements, size_of, parent_of}
use Rattle.cfg_tree.specs.Tree.{IsTree}
use Rattle.cfg_tree.proofs.MapLemmas.{same_statements}
use Rattle.private_merge.specs.declared.fault.MergeFault.{MergeFault}
use Rattle.private_merge.specs.declared.fault.MergeFault.TheVariants.{Conflict, TooMany, NoMemory}
use Rattle.private_merge.specs.Merge.{IsMergedValue, IsMergeOf, Conflicts, IsMerge, IsMergeFault}
use Rattle.cfg_tree.proofs.ValuesLemmas.{value_or_not}
use Rattle.private_merge.proofs.ValueLemmas.{merged_once, one_of_both}

made_once : (base active mine one other : Statements) → IsMergeOf base active mine one → IsMergeOf base active mine other → one ≡ other
made_once base active mine one other a b =
    same_statements one other (λ q. merged_once (map.get base q) (map.get active q) (map.get mine q) (map.get one q) (map.get other q) (a q) (b q))

pub merge_once : (base active mine one other : Statements) → IsMerge base active mine one → IsMerge base active mine other → one ≡ other
merge_once base active mine one other a b = made_once base active mine one other a.made b.made

-- two paths of which neither is after the other are one
neither_behind : (p q : List Step) → path_cmp p q ≢ Greater → path_cmp q p ≢ Greater → p ≡ q
neither_behind p q a b = by_order (path_cmp p q) refl
  where
    by_order : (o : Ordering) → path_cmp p q ≡ o → p ≡ q
    by_order Less e = absurd (b (paths_total.antisymm q p ∙ ap ordering_reverse e))
    by_order Equal e = path_same p q e
    by_order Greater e = absurd (a e)

pub fault_once : (base active mine : Statements) (one other : MergeFault) → IsMergeFault base active mine one → IsMergeFault base active mine other
    → one ≢ NoMemory → other ≢ NoMemory → one ≡ other
fault_once base active mine (Conflict p) (Conflict q) a b m n =
    ap Conflict (neither_behind p q (a.least q b.conflicts) (b.least p a.conflicts))
fault_once base active mine (Conflict p) TooMany a b m n = absurd (b.agree p a.conflicts)
fault_once base active mine TooMany (Conflict q) a b m n = absurd (a.agree q b.conflicts)
fault_once base active mine TooMany TooMany a b m n = refl
fault_once base active mine NoMemory other a b m n = absurd (m refl)
fault_once base active mine (Conflict p) NoMemory a b m n = absurd (n refl)
fault_once base active mine TooMany NoMemory a b m n = absurd (n refl)

pub merged_apart : (base active mine merged : Statements) (fault : MergeFault) → IsMerge base active mine merged → IsMergeFault base active mine fault
    → fault ≡ NoMemory
merged_apart base active mine merged (Conflict p) a b = absurd (a.agree p b.conflicts)
merged_apart base active mine merged TooMany a b = absurd (no_room a.few (subst (λ (m : Statements). MAX_STATEMENTS < size_of m) (sym same) b.many))
  where
    same : merged ≡ b.merged
    same = made_once base active mine merged b.merged a.made b.made

    no_room : size_of merged ≤ MAX_STATEMENTS → MAX_STATEMENTS < size_of merged → ⊥
    no_room few many = omega (arith, few, many)
merged_apart base active mine merged NoMemory a b = refl

-- a statement of a configuration doesn't lack its parent
has_parent : (m : Statements) → IsTree m → (q : List Step) (v : Value) → map.get m q ≡ Some v → 1 < length q → map.get m (parent_of q) ≡ None → ⊥
has_parent m tree q v e long none = clash _ none ((tree.statements.parents q (ap is_some e)).parent long)
  where
    clash : (o : Option Value) → o ≡ None → is_some o ≡ true → ⊥
    clash None f h = cc
    clash (Some w) f h = cc

-- what is merged is what a map has, whichever side it comes from
module _ (base active mine merged : Statements) (tree : IsTree merged)
    (is : (q : List Step) (o : Option Value) → IsMergedValue (map.get base q) (map.get active q) (map.get mine q) o → o ≡ map.get merged q) where
  pub taken : ((q : List Step) → (map.get mine q ≢ map.get base q) → (map.get active q ≢ map.get base q) → (map.get mine q ≢ map.get active q) → ⊥)
      → IsMergeOf base active mine merged → IsMerge base active mine merged
  taken once made = record { agree = agree; made = made; few = tree.few }
    where
      agree : (q : List Step) → ¬ (Conflicts base active mine q)
      agree q (inl twice) = once q twice.by_me twice.by_others twice.apart
      agree q (inr loses) =
          has_parent merged tree q loses.value (sym (is q (Some loses.value) loses.there)) loses.inner (sym (is (parent_of q) None loses.gone))

pub nothing_own : (base active : Statements) → IsTree active → IsMerge base active base active
nothing_own base active tree = taken base active base active tree only (λ q f g h. f refl) (λ q. inr (refl, refl))
  where
    only : (q : List Step) (o : Option Value) → IsMergedValue (map.get base q) (map.get active q) (map.get base q) o → o ≡ map.get active q
    only q o (inl x) = absurd (x.0 refl)
    only q o (inr x) = x.1

pub nothing_else : (base mine : Statements) → IsTree mine → IsMerge base base mine mine
nothing_else base mine tree =
    taken base base mine mine tree only (λ q f g h. g refl)
    (λ q. value_or_not (map.get mine q) (map.get base q) _ (λ e. inr (e, e)) (λ differs. inl (differs, refl)))
  where
    only : (q : List Step) (o : Option Value) → IsMergedValue (map.get base q) (map.get base q) (map.get mine q) o → o ≡ map.get mine q
    only q o (inl x) = x.1
    only q o (inr x) = x.1 ∙ sym x.0

pub both_alike : (base both : Statements) → IsTree both → IsMerge base both both both
both_alike base both tree =
    taken base both both both tree only (λ q f g h. h refl)
    (λ q. value_or_not (map.get both q) (map.get base q) _ (λ e. inr (e, refl)) (λ differs. inl (differs, refl)))
  where
    only : (q : List Step) (o : Option Value) → IsMergedValue (map.get base q) (map.get both q) (map.get both q) o → o ≡ map.get both q
    only q o (inl x) = x.1
    only q o (inr x) = x.1

pub from_a_side : (base active mine merged : Statements) (path : List Step) → IsMerge base active mine merged
    → (map.get merged path ≡ map.get mine path) ⊎ (map.get merged path ≡ map.get active path)
from_a_side base active mine merged path is =
    one_of_both (map.get base path) (map.get active path) (map.get mine path) (map.get merged path) (is.made path)
