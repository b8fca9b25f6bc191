-- What holds of the statements of a tree is kept by each change.
use Rattle.std.proofs.Common.{◌≡◌, ℕ, ◌≤◌, List, [], length, sym, subst, ◌∙◌, Some, rules, Fits, w32, lit≤}
use Rattle.std.specs.Prelude.{IsSome}
use Rattle.std.specs.FinMap as map
use Rattle.cfg_entries.specs.EntryMap.{EntryMap, IsOrdered}
use Rattle.cfg_base.specs.Order.{path_cmp}
use Rattle.cfg_base.specs.declared.path.Step.{Step}
use Rattle.cfg_base.specs.declared.value.Value.{Value}
use Rattle.cfg_tree.specs.declared.limit.TheConstants.{MAX_STATEMENTS}
use Rattle.cfg_tree.specs.Shown.{shown}
use Rattle.cfg_tree.specs.Tree.{IsTree}
use Rattle.cfg_tree.proofs.MapLemmas.{len_is}

nothing_there : (q : List Step) → IsSome (map.get (map.empty {X = Value} {R = path_cmp}) q) → ⊥
nothing_there q h = let e = map.get-empty {X = Value} path_cmp q in let k = subst IsSome e h in cc

nothing_at : (q : List Step) (v : Value) → map.get (map.empty {X = Value} {R = path_cmp}) q ≡ Some v → ⊥
nothing_at q v h = let e = map.get-empty {X = Value} path_cmp q in cc

pub nothing_is : IsTree (map.empty {X = Value} {R = path_cmp})
nothing_is = record {
  statements = record {
    top = map.get-empty {X = Value} path_cmp [];
    parents = λ path h. absurd (nothing_there path h);
    orders = λ path value h. absurd (nothing_at path value h);
  };
  typed = record {
    paths = λ path h. absurd (nothing_there path h);
    words = λ path value here h _. absurd (nothing_at path value h);
  };
  few = subst (λ (n : ℕ). n ≤ MAX_STATEMENTS) (sym (map.len-empty path_cmp Value)) (lit≤ tt);
}

pub nothing_is_tree : (es : List (List Step × Value)) → es ≡ [] → IsTree (map.from_entries {R = path_cmp} es)
nothing_is_tree es e = subst (λ (xs : List (List Step × Value)). IsTree (map.from_entries {R = path_cmp} xs)) (sym e) nothing_is

small : (n : ℕ) → n ≤ 16384 → Fits w32 n
small n h = search rules

pub count_fits : (m : EntryMap (List Step) Value) (n : ℕ) → n ≡ length m.entries → IsOrdered path_cmp m → IsTree (shown m) → Fits w32 n
count_fits m n e sorted tree =
    small _ (subst (λ (k : ℕ). k ≤ MAX_STATEMENTS) (len_is m.entries sorted ∙ sym e) tree.few)
