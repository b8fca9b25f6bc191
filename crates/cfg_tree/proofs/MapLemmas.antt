-- Maps from paths: what a look-up in the entries gives, and that maps which answer alike are one.
use Rattle.std.proofs.Common.{◌≡◌, cond, List, [], ◌∷◌, length, refl, sym, ap, ◌∙◌, Some, arith}
use Rattle.std.specs.FinMap as map
use Rattle.std.specs.FinMap.Entries.{by_order, put, find}
use Rattle.std.specs.Map.{lookup, keys_of}
use Rattle.cfg_entries.specs.EntryMap.{EntryMap, is_at}
use Rattle.std.specs.List.{AllByRecursion}
use Rattle.std.specs.List.Sorted.{IsStrictlySortedBy}
use Rattle.std.specs.declared.cmp.Ordering.{Ordering}
use Rattle.std.specs.declared.cmp.Ordering.TheVariants.{Less}
use Rattle.std.specs.Ordering.{eq_by_cmp, is_eq}
use Rattle.std.specs.Bool.{Decides}
use Rattle.std.proofs.lemmas.Map.Keys.{sorted_head, sorted_tail}
use Rattle.cfg_base.specs.Order.{step_cmp, path_cmp, paths_total, steps_total}
use Rattle.cfg_base.specs.declared.path.Step.{Step}
pub use Rattle.cfg_base.proofs.OrderLemmas.{word_same, is_equal, ties_decide}
use Rattle.cfg_base.specs.declared.value.Value.{Value}
pub use Rattle.cfg_entries.proofs.OrderLemmas.{step_same, path_same}
use Rattle.cfg_tree.specs.Statements.{Statements}
use Rattle.cfg_tree.specs.Shown.{shown}

pub same_path : (p q : List Step) → Decides (eq_by_cmp path_cmp p q) (p ≡ q)
same_path = ties_decide paths_total path_same

pub same_step : (s t : Step) → Decides (eq_by_cmp step_cmp s t) (s ≡ t)
same_step = ties_decide steps_total step_same

-- the first entry at a key, stated in two ways
find_lookup : (es : List (List Step × Value)) (q : List Step) → find path_cmp q es ≡ lookup (is_at (path_cmp q)) es
find_lookup [] q = refl
find_lookup (e ∷ es) q = ap (cond (is_eq (path_cmp q e.0)) (Some e.1)) (find_lookup es q)

-- what a look-up in the entries gives
pub get_is : (m : EntryMap (List Step) Value) (q : List Step) → map.get (shown m) q ≡ lookup (is_at (path_cmp q)) m.entries
get_is m q = map.get-from_entries paths_total m.entries q ∙ find_lookup m.entries q

put_first : (k : List Step) (v : Value) (es : List (List Step × Value)) → AllByRecursion (λ y. path_cmp k y ≡ Less) (keys_of es) → put path_cmp k v es ≡ (k, v) ∷ es
put_first k v [] h = refl
put_first k v (e ∷ es) h = ap (λ (o : Ordering). by_order o ((k, v) ∷ e ∷ es) ((e.0, v) ∷ es) (e ∷ put path_cmp k v es)) h.0

no_length : (es : List (List Step × Value)) → length es ≡ 0 → es ≡ []
no_length [] e = refl
no_length (x ∷ es) e = absurd (omega arith)

-- entries in order are those of their map
pub entries_is : (es : List (List Step × Value)) → IsStrictlySortedBy path_cmp (keys_of es) → map.entries (map.from_entries {R = path_cmp} es) ≡ es
entries_is [] h = no_length _ (sym (map.len-entries (map.empty {X = Value} {R = path_cmp})) ∙ map.len-empty path_cmp Value)
entries_is (e ∷ es) h =
    map.entries-insert paths_total (map.from_entries es) e.0 e.1
    ∙ ap (put path_cmp e.0 e.1) (entries_is es (sorted_tail path_cmp e.0 (keys_of es) h))
    ∙ put_first e.0 e.1 es (sorted_head path_cmp e.0 (keys_of es) h)

pub len_is : (es : List (List Step × Value)) → IsStrictlySortedBy path_cmp (keys_of es) → map.len (map.from_entries {R = path_cmp} es) ≡ length es
len_is es h = map.len-entries (map.from_entries es) ∙ ap length (entries_is es h)

-- maps that answer alike are one
pub same_statements : (m n : Statements) → ((q : List Step) → map.get m q ≡ map.get n q) → m ≡ n
same_statements m n = map.same_map paths_total path_same m n
