-- What the code makes of a row is the expansion of its configuration.
use Rattle.std.proofs.Common.{◌≡◌, List, [], length, sym, ap, subst, ◌∙◌, Result, Ok, Err, IfOk}
use Rattle.std.specs.FinMap as finite
use Rattle.std.specs.List.Sorted.{IsStrictlySortedBy}
use Rattle.std.specs.Map.{keys_of}
use Rattle.cfg_base.specs.Order.{path_cmp, paths_total}
use Rattle.cfg_base.specs.declared.value.Value.{Value}
use Rattle.cfg_entries.specs.EntryMap.{Pair}
use Rattle.cfg_tree.specs.Statements.{Statements}
use Rattle.cfg_tree.specs.Tree.{IsTree}
use Rattle.cfg_tree.proofs.MapLemmas.{same_statements}
use Rattle.cfg_tree.proofs.FullLemmas.{len_from}
use Rattle.cfg_base.specs.declared.path.TheConstants.{MAX_STEPS}
use Rattle.group_expand.specs.Expansion.{IsExpansion}
use Rattle.group_expand.specs.Row.{StatementView, Counted, Ordered, pairs_of}
use Rattle.group_expand.specs.Placed.{map_of, given_below, IsRow}
use Rattle.group_expand.proofs.TreeLemmas.{tree_full, tree_sorted}

pub map_is : (m : Statements) (row : List StatementView) → pairs_of row ≡ finite.entries m → map_of row ≡ m
map_is m row e =
    ap (λ (es : List (Pair Value)). finite.from_entries {R = path_cmp} es) e
    ∙ same_statements (finite.from_entries (finite.entries m)) m (λ q. finite.get-from_entries paths_total (finite.entries m) q ∙ sym (finite.get-entries m q))

pub row_is : (m : Statements) (row : List StatementView) → pairs_of row ≡ finite.entries m → IsTree m → Counted row → Ordered row → IsRow row
row_is m row e tree c o = record { tree = subst (λ (n : Statements). IsTree n) (sym (map_is m row e)) tree; counted = c; ordered = o }

pub sorted_below : (row : List StatementView) → IsRow row → IsStrictlySortedBy path_cmp (keys_of (given_below row MAX_STEPS []))
sorted_below row h = tree_sorted (map_of row) h.tree

pub expansion_is : (m : Statements) (row : List StatementView) → map_of row ≡ m → IsRow row → IsExpansion m (finite.from_entries {R = path_cmp} (given_below row MAX_STEPS []))
expansion_is m row e h = subst (λ (n : Statements). IsExpansion n (finite.from_entries {R = path_cmp} (given_below row MAX_STEPS []))) e (tree_full (map_of row) h.tree)

pub size_is : (row : List StatementView) → IsRow row → finite.len (finite.from_entries {R = path_cmp} (given_below row MAX_STEPS [])) ≡ length (given_below row MAX_STEPS [])
size_is row h = len_from (given_below row MAX_STEPS []) (sorted_below row h)

pub ok_map : {T E : Type 0} (P Q : T → Type 0) → ((x : T) → P x → Q x) → (r : Result T E) → IfOk r P → IfOk r Q
ok_map P Q go (Ok x) h = go x h
ok_map P Q go (Err e) h = h
