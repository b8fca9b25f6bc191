-- Whether there is room, and that a tree stays one.
use Rattle.std.proofs.Common.{◌≡◌, ℕ, zero, suc, ◌+◌, ◌-◌, ◌<◌, nat_le, Bool, true, not, ◌&&◌, List, length, refl, sym, ap, subst, ◌∙◌, Option, Some, None, is_some, is_none, arith, take}
use Rattle.std.specs.FinMap as map
use Rattle.cfg_entries.specs.EntryMap.{EntryMap, IsOrdered, is_at}
use Rattle.std.specs.Map.{lookup}
use Rattle.cfg_base.specs.Order.{path_cmp}
use Rattle.cfg_base.specs.declared.path.Step.{Step}
use Rattle.cfg_base.specs.declared.value.Value.{Value}
use Rattle.cfg_tree.specs.declared.limit.TheConstants.{MAX_STATEMENTS}
use Rattle.cfg_tree.specs.Statements.{Statements, size_of, parent_of}
use Rattle.cfg_tree.specs.Shown.{shown}
use Rattle.cfg_tree.specs.Typed.{IsTypedPath}
use Rattle.cfg_tree.specs.Tree.{IsTree}
use Rattle.cfg_tree.specs.Change.{put_at, is_ordered, removed, IsReady, IsAlmostFit}
use Rattle.cfg_tree.specs.Change as change
use Rattle.cfg_tree.proofs.MapLemmas.{get_is, len_is}
use Rattle.cfg_tree.proofs.PutLemmas.{Puts, put_statements, put_typed}
use Rattle.cfg_tree.proofs.RemoveLemmas.{remove_keeps}
use Rattle.cfg_tree.proofs.StepLemmas.{puts, put_few, removes, size-removed}

none_some : (o : Option Value) → not (is_some o) ≡ is_none o
none_some None = refl
none_some (Some v) = refl

pub new_is : (m : EntryMap (List Step) Value) (path : List Step) (b : Bool) → b ≡ is_some (lookup (is_at (path_cmp path)) m.entries)
    → not b ≡ is_none (map.get (shown m) path)
new_is m path b e =
    ap not e ∙ none_some (lookup (is_at (path_cmp path)) m.entries) ∙ ap (λ (o : Option Value). is_none o) (sym (get_is m path))

pub full_is : (m : EntryMap (List Step) Value) (n : ℕ) → n ≡ length m.entries → IsOrdered path_cmp m
    → nat_le MAX_STATEMENTS n ≡ nat_le MAX_STATEMENTS (size_of (shown m))
full_is m n e sorted = ap (λ (k : ℕ). nat_le MAX_STATEMENTS k) (e ∙ sym (len_is m.entries sorted))

pub is_absent : (o : Option Value) → true ≡ is_none o → o ≡ None
is_absent None e = refl
is_absent (Some v) e = cc

typed_parent : (m : Statements) (path : List Step) (value : Value) → IsTree m → IsReady m path value → (n : ℕ) → length path ≡ n → IsTypedPath (parent_of path)
typed_parent m path value tree ready zero e = let some = ready.parent.steps in absurd (omega (arith, some, e))
typed_parent m path value tree ready (suc zero) e =
    subst (λ (k : ℕ). IsTypedPath (take (k - 1) path)) (sym e) tt
typed_parent m path value tree ready (suc (suc n)) e = tree.typed.paths (parent_of path) (ready.parent.parent (omega (arith, e)))

-- what is ready to be put fits but for its kinds
pub almost : (m : Statements) (path : List Step) (value : Value) → IsTree m → IsReady m path value → IsAlmostFit path value
almost m path value tree ready = record {
  steps = ready.parent.steps;
  parent = typed_parent m path value tree ready _ refl;
  words = ready.words;
  bare = ready.bare;
}

pub put_tree : (m n : Statements) (path : List Step) (value : Value) → IsTree m → IsReady m path value → change.FitsProfile path value
    → (map.get m path ≡ None → size_of m < MAX_STATEMENTS) → n ≡ put_at m path value → IsTree n
put_tree m n path value tree ready fits room e =
    subst (λ (x : Statements). IsTree x) (sym e) record {
      statements = put_statements m (put_at m path value) path value _ tree.statements tree.typed ready fits left refl;
      typed = put_typed m (put_at m path value) path value _ tree.statements tree.typed ready fits left refl;
      few = put_few m path value tree.few room;
    }
  where
    left : Puts m (put_at m path value) path value (is_none (map.get m path) && is_ordered path)
    left = puts m path value ready.parent.steps

pub removed_tree : (m n : Statements) (path : List Step) (count : ℕ) → IsTree m → n ≡ removed m path → count + size_of n ≡ size_of m → IsTree n
removed_tree m n path count tree e counted =
    let same_size = ap (λ (x : Statements). size_of x) e ∙ size-removed m path
    in let few = tree.few
    in subst (λ (x : Statements). IsTree x) (sym e)
    (remove_keeps m (removed m path) path tree (removes m path (omega (arith, same_size, few, counted))))
