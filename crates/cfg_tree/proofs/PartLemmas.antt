-- A statement and all below it, put at the same places below another path: what look-ups give, and how many statements there are.
use Rattle.std.proofs.Common.{◌≡◌, ◌≢◌, ℕ, ◌+◌, Bool, true, false, T, cond, ◌&&◌, List, [], ◌∷◌, ◌++◌, length, drop, filter, refl, append-nil, append_assoc, sym, ap, ◌∙◌, Option, Some, None, is_some, suc, arith}
use Rattle.std.specs.List.{AllByRecursion}
use Rattle.std.specs.FinMap as map
use Rattle.std.specs.FinMap.Entries.{find, find-where_key, is_sorted, is_sorted-where_key}
use Rattle.std.specs.Map.{keys_of}
use Rattle.std.specs.Ordering.{eq_by_cmp, is_le}
use Rattle.std.specs.List.Sorted.{IsStrictlySortedBy}
use Rattle.std.proofs.lemmas.List.{drop_at}
use Rattle.std.proofs.lemmas.Map.Entries.{length-keys_of}
use Rattle.std.proofs.lemmas.Map.Keys.{sorted_head, sorted_tail}
use Rattle.cfg_base.specs.Order.{path_cmp, paths_total}
use Rattle.cfg_base.specs.declared.path.Step.{Step}
use Rattle.cfg_base.specs.declared.value.Value.{Value}
use Rattle.cfg_entries.specs.EntryMap.{EntryMap, IsOrdered, Pair}
use Rattle.cfg_tree.specs.Statements.{Statements, size_of, is_below}
use Rattle.cfg_tree.specs.Shown.{shown}
use Rattle.cfg_tree.specs.Change.{cleared}
use Rattle.cfg_tree.specs.Moving.{part_of, placed, with_part}
use Rattle.cfg_tree.proofs.MapLemmas.{same_path, path_same, entries_is}
use Rattle.cfg_tree.proofs.BelowLemmas.{front_of, below_self, below_le, none_later, keys_filter}
use Rattle.cfg_tree.proofs.ClearLemmas.{cleared_size}
use Rattle.cfg_tree.proofs.OnceLemmas.{same_test, below_apart, below_rest}
use Rattle.cfg_tree.proofs.PathLemmas.{get_other}
use Rattle.cfg_schema.proofs.TestLemmas.{both, both_true}

-- what begins with a path is below it
pub below_more_steps : (p rest : List Step) → is_below p (p ++ rest) ≡ true
below_more_steps [] rest = refl
below_more_steps (x ∷ p) rest = both_true _ _ (both _ _ (below_self (x ∷ p))).0 (below_more_steps p rest)

-- the steps after the first ones
pub placed_at : (from to rest : List Step) → placed from to (from ++ rest) ≡ to ++ rest
placed_at from to rest = ap (λ (r : List Step). to ++ r) (drop_at from rest (length from) refl)

-- a place is the same one back
pub placed_back : (from to k : List Step) → is_below from k ≡ true → placed to from (placed from to k) ≡ k
placed_back from to k h =
    let r = below_rest from k h
    in ap (λ (p : List Step). placed to from (placed from to p)) r.1
    ∙ ap (λ (p : List Step). placed to from p) (placed_at from to r.0)
    ∙ placed_at to from r.0
    ∙ sym r.1

-- which path is put at a place
pub placed_is : (from to q k : List Step) → is_below from k ≡ true
    → eq_by_cmp path_cmp q (placed from to k) ≡ (is_below to q && eq_by_cmp path_cmp (placed to from q) k)
placed_is from to q k h =
    same_test _ _
    (λ e.
    let same = (same_path q (placed from to k)).0 e
    in both_true _ _
    (ap (is_below to) same ∙ below_more_steps to (drop (length from) k))
    ((same_path (placed to from q) k).1 (ap (λ (p : List Step). placed to from p) same ∙ placed_back from to k h)))
    (λ e.
    let parts = both (is_below to q) _ e
    in let same = (same_path (placed to from q) k).0 parts.1
    in (same_path q (placed from to k)).1 (sym (placed_back to from q parts.0) ∙ ap (λ (p : List Step). placed from to p) same))

-- all of these are below a path
abbrev pub AreBelow : List Step → List (Pair Value) → Type 0
AreBelow path es = AllByRecursion (λ e. is_below path e.0 ≡ true) es

pub filter_below : (path : List Step) (es : List (Pair Value)) → AreBelow path (filter (λ e. is_below path e.0) es)
filter_below path [] = tt
filter_below path (e ∷ es) = by_test _ refl (filter_below path es)
  where
    by_test : (b : Bool) → is_below path e.0 ≡ b → AreBelow path (filter (λ x. is_below path x.0) es)
        → AreBelow path (cond b (e ∷ filter (λ x. is_below path x.0) es) (filter (λ x. is_below path x.0) es))
    by_test true h go = (h, go)
    by_test false h go = go

front : (a b : Bool) → T (a && b) → T a
front true b p = tt
front false b p = p

back : (a b : Bool) → T (a && b) → T b
back true b p = p
back false b p = absurd p

-- a key that differs from all of these is found among none of them
find_none : (q : List Step) (es : List (Pair Value)) → AllByRecursion (λ y. eq_by_cmp path_cmp q y ≡ false) (keys_of es) → find path_cmp q es ≡ None
find_none q [] h = refl
find_none q (e ∷ es) h = ap (λ (b : Bool). cond b (Some e.1) (find path_cmp q es)) h.0 ∙ find_none q es h.1

-- what is found, or what there was
abbrev pub or_else : Option Value → Option Value → Option Value
or_else None o = o
or_else (Some v) o = Some v

-- what a look-up gives after the part was put
get-with : (from to : List Step) (es : List (Pair Value)) (m : Statements) (q : List Step) → T (is_sorted path_cmp es) → AreBelow from es
    → map.get (with_part from to m es) q ≡ cond (is_below to q) (or_else (find path_cmp (placed to from q) es) (map.get m q)) (map.get m q)
get-with from to [] m q sorted below = alike (is_below to q)
  where
    alike : (b : Bool) → map.get m q ≡ cond b (map.get m q) (map.get m q)
    alike true = refl
    alike false = refl
get-with from to (e ∷ es) m q sorted below =
    get-with from to es (map.insert m (placed from to e.0) e.1) q (back _ _ sorted) below.1
    ∙ ap (λ (o : Option Value). cond (is_below to q) (or_else (find path_cmp (placed to from q) es) o) o)
    (map.get-insert paths_total m (placed from to e.0) e.1 q
    ∙ ap (λ (b : Bool). cond b (Some e.1) (map.get m q)) (placed_is from to q e.0 below.0))
    ∙ by_tests (is_below to q) _ refl
  where
    by_tests : (b t : Bool) → eq_by_cmp path_cmp (placed to from q) e.0 ≡ t
        → cond b (or_else (find path_cmp (placed to from q) es) (cond (b && t) (Some e.1) (map.get m q))) (cond (b && t) (Some e.1) (map.get m q))
        ≡ cond b (or_else (cond t (Some e.1) (find path_cmp (placed to from q) es)) (map.get m q)) (map.get m q)
    by_tests true true h =
        ap (λ (o : Option Value). or_else o (Some e.1))
        (ap (λ (k : List Step). find path_cmp k es) ((same_path (placed to from q) e.0).0 h)
        ∙ find_none e.0 es (below_apart e.0 es (front _ _ sorted)))
    by_tests true false h = refl
    by_tests false t h = refl

part_sorted : (m : Statements) (from : List Step) → T (is_sorted path_cmp (part_of m from))
part_sorted m from = is_sorted-where_key path_cmp (is_below from) (map.entries m) (map.entries_sorted m)

-- what is found in a part is what is there
pub find_part : (m : Statements) (from k : List Step) → is_below from k ≡ true → find path_cmp k (part_of m from) ≡ map.get m k
find_part m from k h =
    find-where_key path_cmp (is_below from) k (λ x tie. ap (is_below from) (sym (path_same k x tie))) (map.entries m)
    ∙ ap (λ (b : Bool). cond b (find path_cmp k (map.entries m)) None) h
    ∙ sym (map.get-entries m k)

-- a part of one map put into another
pub get-with_part : (from to : List Step) (m n : Statements) (q : List Step)
    → map.get (with_part from to n (part_of m from)) q ≡ cond (is_below to q) (or_else (map.get m (placed to from q)) (map.get n q)) (map.get n q)
get-with_part from to m n q =
    get-with from to (part_of m from) n q (part_sorted m from) (filter_below from (map.entries m))
    ∙ ap (λ (o : Option Value). cond (is_below to q) (or_else o (map.get n q)) (map.get n q))
    (find_part m from (placed to from q) (below_more_steps from (drop (length to) q)))

-- how many there are, where none of them was there
AreNone : (from to : List Step) → Statements → List (Pair Value) → Type 0
AreNone from to m es = AllByRecursion (λ e. map.get m (placed from to e.0) ≡ None) es

not_placed : (from to : List Step) (m : Statements) (e : Pair Value) (es : List (Pair Value)) → is_below from e.0 ≡ true → AreBelow from es
    → AllByRecursion (λ y. eq_by_cmp path_cmp e.0 y ≡ false) (keys_of es) → AreNone from to m es → AreNone from to (map.insert m (placed from to e.0) e.1) es
unfolding AreNone
not_placed from to m e [] h below apart none = tt
not_placed from to m e (f ∷ es) h below apart none = (
  get_other m (placed from to e.0) (placed from to f.0) e.1 other ∙ none.0,
  not_placed from to m e es h below.1 apart.1 none.1,
)
  where
    other : placed from to f.0 ≢ placed from to e.0
    other same =
        let equal = (same_path e.0 f.0).1 (sym (placed_back from to e.0 h) ∙ ap (placed to from) (sym same) ∙ placed_back from to f.0 below.0)
        in let differs = apart.0
        in cc

size-with : (from to : List Step) (es : List (Pair Value)) (m : Statements) → T (is_sorted path_cmp es) → AreBelow from es → AreNone from to m es
    → size_of (with_part from to m es) ≡ size_of m + length es
unfolding AreNone
size-with from to [] m sorted below none = none_more (size_of m)
  where
    none_more : (n : ℕ) → n ≡ n + 0
    none_more n = omega arith
size-with from to (e ∷ es) m sorted below none =
    size-with from to es (map.insert m (placed from to e.0) e.1) (back _ _ sorted) below.1
    (not_placed from to m e es below.0 below.1 (below_apart e.0 es (front _ _ sorted)) none.1)
    ∙ ap (λ (n : ℕ). n + length es)
    (map.len-insert paths_total m (placed from to e.0) e.1 ∙ ap (λ (o : Option Value). cond (is_some o) (size_of m) (size_of m + 1)) none.0)
    ∙ one_more (size_of m) (length es)
  where
    one_more : (a b : ℕ) → (a + 1) + b ≡ a + suc b
    one_more a b = omega arith

all_none : (from to : List Step) (m : Statements) → ((rest : List Step) → map.get m (to ++ rest) ≡ None) → (es : List (Pair Value)) → AreNone from to m es
unfolding AreNone
all_none from to m h [] = tt
all_none from to m h (e ∷ es) = (h (drop (length from) e.0), all_none from to m h es)

-- a part put where nothing was adds as many statements as it has
pub size-with_part : (from to : List Step) (m n : Statements) → ((rest : List Step) → map.get n (to ++ rest) ≡ None)
    → size_of (with_part from to n (part_of m from)) ≡ size_of n + length (part_of m from)
size-with_part from to m n none =
    size-with from to (part_of m from) n (part_sorted m from) (filter_below from (map.entries m)) (all_none from to n none (part_of m from))

-- a part of the entries is the map's
pub part_is : (m : EntryMap (List Step) Value) (path : List Step) → IsOrdered path_cmp m
    → filter (λ (e : Pair Value). is_below path e.0) m.entries ≡ part_of (shown m) path
part_is m path sorted = ap (λ (es : List (Pair Value)). filter (λ (e : Pair Value). is_below path e.0) es) (sym (entries_is m.entries sorted))

-- what goes and what stays are all
pub part_size : (m : EntryMap (List Step) Value) (path : List Step) → IsOrdered path_cmp m
    → length (part_of (shown m) path) + size_of (cleared (shown m) path) ≡ size_of (shown m)
part_size m path sorted =
    let keys = filter (is_below path) (keys_of m.entries)
    in let as_many : length keys ≡ length (part_of (shown m) path) =
    ap (λ (xs : List (List Step)). length xs) (sym (keys_filter (is_below path) m.entries))
    ∙ length-keys_of (filter (λ (x : Pair Value). is_below path x.0) m.entries)
    ∙ ap (λ (es : List (Pair Value)). length es) (part_is m path sorted)
    in ap (λ (n : ℕ). n + size_of (cleared (shown m) path)) (sym as_many) ∙ cleared_size m path keys sorted refl

abbrev is_from : List Step → List Step → Bool
is_from path k = is_le (path_cmp path k)

no_entries : (es : List (Pair Value)) → keys_of es ≡ [] → es ≡ []
no_entries [] h = refl
no_entries (e ∷ es) h = cc

front_entries : (path : List Step) (es : List (Pair Value)) → IsStrictlySortedBy path_cmp (keys_of es)
    → front_of (λ e. is_below path e.0) (filter (λ e. is_from path e.0) es) ≡ filter (λ e. is_below path e.0) es
front_entries path [] sorted = refl
front_entries path (e ∷ es) sorted = by_tests _ _ refl refl (front_entries path es (sorted_tail path_cmp e.0 (keys_of es) sorted))
  where
    none_left : is_from path e.0 ≡ true → is_below path e.0 ≡ false → filter (λ x. is_below path x.0) es ≡ []
    none_left h k =
        no_entries (filter (λ x. is_below path x.0) es)
        (keys_filter (is_below path) es ∙ none_later path e.0 (keys_of es) h k (sorted_head path_cmp e.0 (keys_of es) sorted))

    by_tests : (t b : Bool) → is_from path e.0 ≡ t → is_below path e.0 ≡ b
        → front_of (λ x. is_below path x.0) (filter (λ x. is_from path x.0) es) ≡ filter (λ x. is_below path x.0) es
        → front_of (λ x. is_below path x.0) (cond t (e ∷ filter (λ x. is_from path x.0) es) (filter (λ x. is_from path x.0) es))
        ≡ cond b (e ∷ filter (λ x. is_below path x.0) es) (filter (λ x. is_below path x.0) es)
    by_tests true true h k go =
        ap (λ (c : Bool). cond c (e ∷ front_of (λ (x : Pair Value). is_below path x.0) (filter (λ x. is_from path x.0) es)) []) k
        ∙ ap (λ (xs : List (Pair Value)). e ∷ xs) go
    by_tests true false h k go =
        ap (λ (c : Bool). cond c (e ∷ front_of (λ (x : Pair Value). is_below path x.0) (filter (λ x. is_from path x.0) es)) []) k
        ∙ sym (none_left h k)
    by_tests false true h k go = let d = below_le path e.0 k in cc
    by_tests false false h k go = go

-- the entries that are found from a path on, up to the first that isn't below it, are all that are below it
pub part_found : (m : EntryMap (List Step) Value) (path : List Step) (start : List (Pair Value)) → IsOrdered path_cmp m
    → start ≡ filter (λ e. is_from path e.0) m.entries → front_of (λ e. is_below path e.0) start ≡ part_of (shown m) path
part_found m path start sorted e =
    ap (λ (xs : List (Pair Value)). front_of (λ (x : Pair Value). is_below path x.0) xs) e
    ∙ front_entries path m.entries sorted
    ∙ part_is m path sorted

-- what is found so far is all, where nothing is left or the next one isn't below
pub part_end : (path : List Step) (so_far all left : List (Pair Value)) → left ≡ [] → so_far ++ front_of (λ e. is_below path e.0) left ≡ all → so_far ≡ all
part_end path so_far all left none e =
    sym (append-nil so_far) ∙ ap (λ (xs : List (Pair Value)). so_far ++ front_of (λ (x : Pair Value). is_below path x.0) xs) (sym none) ∙ e

pub part_other : (path : List Step) (entry : Pair Value) (so_far all left rest : List (Pair Value)) → left ≡ entry ∷ rest → false ≡ is_below path entry.0
    → so_far ++ front_of (λ e. is_below path e.0) left ≡ all → so_far ≡ all
part_other path entry so_far all left rest next f e =
    sym (append-nil so_far)
    ∙ ap (λ (c : Bool). so_far ++ cond c (entry ∷ front_of (λ (x : Pair Value). is_below path x.0) rest) []) f
    ∙ ap (λ (xs : List (Pair Value)). so_far ++ front_of (λ (x : Pair Value). is_below path x.0) xs) (sym next)
    ∙ e

-- one more is found
pub part_more : (path : List Step) (entry new_entry : Pair Value) (so_far new all left rest : List (Pair Value)) → left ≡ entry ∷ rest
    → is_below path entry.0 ≡ true → new ≡ so_far ++ new_entry ∷ [] → new_entry ≡ entry
    → so_far ++ front_of (λ e. is_below path e.0) left ≡ all → new ++ front_of (λ e. is_below path e.0) rest ≡ all
part_more path entry new_entry so_far new all left rest next below pushed same e =
    ap (λ (xs : List (Pair Value)). xs ++ front_of (λ (x : Pair Value). is_below path x.0) rest) pushed
    ∙ append_assoc so_far (new_entry ∷ []) (front_of (λ (x : Pair Value). is_below path x.0) rest)
    ∙ ap (λ (x : Pair Value). so_far ++ x ∷ front_of (λ (y : Pair Value). is_below path y.0) rest) same
    ∙ ap (λ (c : Bool). so_far ++ cond c (entry ∷ front_of (λ (x : Pair Value). is_below path x.0) rest) []) (sym below)
    ∙ ap (λ (xs : List (Pair Value)). so_far ++ front_of (λ (x : Pair Value). is_below path x.0) xs) (sym next)
    ∙ e

-- a copy of the parts of an entry is the entry
pub same_entry : (entry : Pair Value) (path copy : List Step) (value clone : Value) → path ≡ entry.0 → value ≡ entry.1 → copy ≡ path
    → (clone.inactive ≡ value.inactive) × ((clone.protected ≡ value.protected) × ((clone.order ≡ value.order) × (clone.words ≡ value.words)))
    → (copy, clone) ≡ entry
same_entry entry path copy value clone is_path is_value copied (i, (p, (o, ws))) =
    let same : clone ≡ value = λ k. record { inactive = i k; protected = p k; order = o k; words = ws k }
    in λ k. ((copied ∙ is_path) k, (same ∙ is_value) k)
