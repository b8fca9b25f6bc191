-- Taking the paths that were found away, one by one.
use Rattle.std.proofs.Common.{◌≡◌, ℕ, ◌+◌, Bool, true, false, cond, not, ◌&&◌, ◌||◌, List, [], ◌∷◌, length, filter, refl, sym, ap, ◌∙◌, Option, Some, None, is_some, arith}
use Rattle.std.specs.List.{list_any, AllByRecursion}
use Rattle.std.specs.List.Sorted.{IsStrictlySortedBy}
use Rattle.std.specs.FinMap as map
use Rattle.std.specs.FinMap.Entries.{where_key, find-where_key}
use Rattle.cfg_entries.specs.EntryMap.{EntryMap, IsOrdered}
use Rattle.std.specs.Map.{keys_of}
use Rattle.std.specs.Ordering.{eq_by_cmp}
use Rattle.std.specs.declared.cmp.Ordering.TheVariants.{Less}
use Rattle.std.proofs.lemmas.Map.Keys.{sorted_head, sorted_tail}
use Rattle.std.proofs.lemmas.Map.Entries.{length-keys_of}
use Rattle.std.proofs.lemmas.List.Filters.{length-filter_both}
use Rattle.cfg_base.specs.Order.{path_cmp, paths_total}
use Rattle.cfg_base.specs.declared.path.Step.{Step}
use Rattle.cfg_base.specs.declared.value.Value.{Value}
use Rattle.cfg_tree.specs.Statements.{Statements, size_of, is_below}
use Rattle.cfg_tree.specs.Shown.{shown, without_all}
use Rattle.cfg_tree.specs.Change.{cleared, removed}
use Rattle.cfg_tree.proofs.MapLemmas.{same_path, path_same, same_statements, entries_is, len_is}
use Rattle.cfg_tree.proofs.BelowLemmas.{keys_filter}
use Rattle.cfg_tree.proofs.StepLemmas.{get-cleared, size-removed}

either : {X : Type 0} (a b : Bool) (x : X) (y : X) → cond b x (cond a x y) ≡ cond (a || b) x y
either true true x y = refl
either true false x y = refl
either false b x y = refl

pub get-without_all : {X : Type 0} (m : map.FinMap path_cmp X) (ks : List (List Step)) (q : List Step)
    → map.get (without_all m ks) q ≡ cond (list_any (eq_by_cmp path_cmp q) ks) None (map.get m q)
get-without_all m [] q = refl
get-without_all m (k ∷ ks) q =
    get-without_all (map.remove m k) ks q
    ∙ ap (λ o. cond (list_any (eq_by_cmp path_cmp q) ks) None o) (map.get-remove paths_total m k q)
    ∙ either (eq_by_cmp path_cmp q k) _ None (map.get m q)

pub any-filter : (b : List Step → Bool) (ks : List (List Step)) (q : List Step)
    → list_any (eq_by_cmp path_cmp q) (filter b ks) ≡ (b q && list_any (eq_by_cmp path_cmp q) ks)
any-filter b [] q = nothing (b q)
  where
    nothing : (c : Bool) → false ≡ (c && false)
    nothing true = refl
    nothing false = refl
any-filter b (k ∷ ks) q = by_tests _ _ refl refl (any-filter b ks q)
  where
    by_tests : (c e : Bool) → b k ≡ c → eq_by_cmp path_cmp q k ≡ e
        → list_any (eq_by_cmp path_cmp q) (filter b ks) ≡ (b q && list_any (eq_by_cmp path_cmp q) ks)
        → list_any (eq_by_cmp path_cmp q) (cond c (k ∷ filter b ks) (filter b ks)) ≡ (b q && (e || list_any (eq_by_cmp path_cmp q) ks))
    by_tests true true f g go =
        ap (λ (x : Bool). x || list_any (eq_by_cmp path_cmp q) (filter b ks)) g
        ∙ sym (ap (λ (x : Bool). x && true) (ap b ((same_path q k).0 g) ∙ f))
    by_tests true false f g go = ap (λ (x : Bool). x || list_any (eq_by_cmp path_cmp q) (filter b ks)) g ∙ go
    by_tests false true f g go =
        let out = ap b ((same_path q k).0 g) ∙ f
        in go ∙ ap (λ (x : Bool). x && list_any (eq_by_cmp path_cmp q) ks) out ∙ sym (ap (λ (x : Bool). x && true) out)
    by_tests false false f g go = go

taken_or_not : (b : Bool) (o : Option Value) → cond (b && is_some o) None o ≡ cond (not b) o None
taken_or_not true None = refl
taken_or_not true (Some v) = refl
taken_or_not false o = refl

known_keys : (m : EntryMap (List Step) Value) (q : List Step) → IsOrdered path_cmp m
    → list_any (eq_by_cmp path_cmp q) (keys_of m.entries) ≡ is_some (map.get (shown m) q)
known_keys m q sorted =
    ap (λ (es : List (List Step × Value)). list_any (eq_by_cmp path_cmp q) (keys_of es)) (sym (entries_is m.entries sorted))
    ∙ sym (map.contains_key-keys (shown m) q)

-- the paths that were found are all that are to go
pub all_taken : (m : EntryMap (List Step) Value) (path : List Step) (ks : List (List Step)) → IsOrdered path_cmp m
    → ks ≡ filter (is_below path) (keys_of m.entries) → without_all (shown m) ks ≡ cleared (shown m) path
all_taken m path ks sorted e = same_statements _ _ (λ q.
    get-without_all (shown m) ks q
    ∙ ap (λ (b : Bool). cond b None (map.get (shown m) q))
    (ap (λ (xs : List (List Step)). list_any (eq_by_cmp path_cmp q) xs) e
    ∙ any-filter (is_below path) (keys_of m.entries) q
    ∙ ap (λ (b : Bool). is_below path q && b) (known_keys m q sorted))
    ∙ taken_or_not (is_below path q) (map.get (shown m) q)
    ∙ sym (get-cleared (shown m) path q))

all_below : (k : List Step) (p : List Step → Bool) (es : List (List Step × Value)) → AllByRecursion (λ y. path_cmp k y ≡ Less) (keys_of es)
    → AllByRecursion (λ y. path_cmp k y ≡ Less) (keys_of (where_key path_cmp p es))
all_below k p [] h = h
all_below k p (e ∷ es) h = by_test (p e.0) (all_below k p es h.1)
  where
    by_test : (c : Bool) → AllByRecursion (λ y. path_cmp k y ≡ Less) (keys_of (where_key path_cmp p es))
        → AllByRecursion (λ y. path_cmp k y ≡ Less) (keys_of (cond c (e ∷ where_key path_cmp p es) (where_key path_cmp p es)))
    by_test true go = (h.0, go)
    by_test false go = go

sorted_where : (p : List Step → Bool) (es : List (List Step × Value)) → IsStrictlySortedBy path_cmp (keys_of es)
    → IsStrictlySortedBy path_cmp (keys_of (where_key path_cmp p es))
unfolding IsStrictlySortedBy
sorted_where p [] h = h
sorted_where p (e ∷ es) h = by_test (p e.0) (sorted_where p es (sorted_tail path_cmp e.0 (keys_of es) h))
  where
    by_test : (c : Bool) → IsStrictlySortedBy path_cmp (keys_of (where_key path_cmp p es))
        → IsStrictlySortedBy path_cmp (keys_of (cond c (e ∷ where_key path_cmp p es) (where_key path_cmp p es)))
    by_test true go = (all_below e.0 p es (sorted_head path_cmp e.0 (keys_of es) h), go)
    by_test false go = go

cleared_is : (m : EntryMap (List Step) Value) (path : List Step)
    → cleared (shown m) path ≡ map.from_entries {R = path_cmp} (where_key path_cmp (λ q. not (is_below path q)) m.entries)
cleared_is m path = same_statements _ _ (λ q.
    get-cleared (shown m) path q
    ∙ ap (λ (o : Option Value). cond (not (is_below path q)) o None) (map.get-from_entries paths_total m.entries q)
    ∙ sym (find-where_key path_cmp (λ x. not (is_below path x)) q (λ x tie. ap (λ (y : List Step). not (is_below path y)) (sym (path_same q x tie))) m.entries)
    ∙ sym (map.get-from_entries paths_total (where_key path_cmp (λ x. not (is_below path x)) m.entries) q))

-- what goes and what stays are all
pub cleared_size : (m : EntryMap (List Step) Value) (path : List Step) (ks : List (List Step)) → IsOrdered path_cmp m
    → ks ≡ filter (is_below path) (keys_of m.entries) → length ks + size_of (cleared (shown m) path) ≡ size_of (shown m)
cleared_size m path ks sorted e =
    let stay = ap (λ (n : Statements). size_of n) (cleared_is m path)
    ∙ len_is (where_key path_cmp (λ q. not (is_below path q)) m.entries) (sorted_where (λ q. not (is_below path q)) m.entries sorted)
    in let go = ap (λ (xs : List (List Step)). length xs) (e ∙ sym (keys_filter (is_below path) m.entries))
    ∙ length-keys_of (filter (λ (x : List Step × Value). is_below path x.0) m.entries)
    in let both_are = length-filter_both (λ (x : List Step × Value). is_below path x.0) (λ (x : List Step × Value). not (is_below path x.0)) (λ _. refl) m.entries
    in let whole = len_is m.entries sorted
    in omega (arith, stay, go, both_are, whole)

-- what is counted and what stays are all
pub counted : (m : EntryMap (List Step) Value) (path : List Step) (ks : List (List Step)) (count : ℕ) (after : Statements)
    → IsOrdered path_cmp m → ks ≡ filter (is_below path) (keys_of m.entries) → count ≡ length ks → after ≡ removed (shown m) path
    → count + size_of after ≡ size_of (shown m)
counted m path ks count after sorted e is_count is_after =
    let whole = cleared_size m path ks sorted e
    in let same_size = ap (λ (n : Statements). size_of n) is_after ∙ size-removed (shown m) path
    in omega (arith, whole, same_size, is_count)
