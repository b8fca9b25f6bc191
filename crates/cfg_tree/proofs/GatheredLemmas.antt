-- Entries put in turn: what a look-up gives, and that a stable sort changes nothing of it.
use Rattle.std.proofs.Common.{◌≡◌, true, false, Bool, T, not, ◌&&◌, cond, List, [], ◌∷◌, filter, refl, sym, ap, subst, ◌∙◌, None, Some, Option, Less, Equal, Greater, Ordering, is_lt, is_le, is_eq, if◌then◌else◌, ℕ, zero, suc, ◌<◌, length, get_or, arith}
use Rattle.std.specs.FinMap as map
use Rattle.std.specs.FinMap.{put}
use Rattle.std.specs.FinMap.Entries.{find, find-put, is_sorted, below_all}
use Rattle.std.specs.Ordering.{eq_by_cmp, ordering_reverse}
use Rattle.std.specs.List.Sorted.{IsStableBy, ties}
use Rattle.std.specs.List.{AllByRecursion}
use Rattle.std.specs.BTreeMap.{is_at}
use Rattle.std.specs.Map.{lookup}
use Rattle.cfg_base.specs.Order.{path_cmp, paths_total}
use Rattle.cfg_base.specs.declared.path.Step.{Step}
use Rattle.cfg_base.specs.declared.value.Value.{Value}
use Rattle.cfg_entries.specs.EntryMap.{Pair}
use Rattle.cfg_tree.specs.Gather.{joined_at, gathered, grown, with_one, told, told_by, Climbs}
use Rattle.cfg_entries.proofs.OrderLemmas.{path_same}

pub tied : (o : Ordering) → is_eq o ≡ true → o ≡ Equal
tied Less h = cc
tied Equal h = refl
tied Greater h = cc

-- a look-up in the map with entries put in turn
pub get_gathered : (es : List (Pair Value)) (m : map.FinMap path_cmp Value) (q : List Step) → map.get (gathered m es) q ≡ told q (map.get m q) es
get_gathered [] m q = refl
get_gathered (e ∷ es) m q =
    get_gathered es (map.insert m e.0 (joined_at e.0 (map.get m e.0) e.1)) q
    ∙ ap (λ (o : Option Value). told q o es) (map.get-insert paths_total m e.0 (joined_at e.0 (map.get m e.0) e.1) q ∙ by_tie (eq_by_cmp path_cmp q e.0) refl)
  where
    by_tie : (b : Bool) → eq_by_cmp path_cmp q e.0 ≡ b
        → cond b (Some (joined_at e.0 (map.get m e.0) e.1)) (map.get m q) ≡ (if b then Some (joined_at e.0 (map.get m q) e.1) else map.get m q)
    by_tie true h = ap (λ (k : List Step). Some (joined_at e.0 (map.get m k) e.1)) (sym (path_same q e.0 (tied _ h)))
    by_tie false h = refl

-- only the entries at a path determine what is there
told_filter : (q : List Step) (p : Pair Value → Bool) → ((e : Pair Value) → p e ≡ eq_by_cmp path_cmp q e.0) → (es : List (Pair Value)) (o : Option Value) → told q o (filter p es) ≡ told q o es
told_filter q p is [] o = refl
told_filter q p is (e ∷ es) o = by_tie (p e) refl (told_filter q p is es)
  where
    by_tie : (b : Bool) → p e ≡ b → ((x : Option Value) → told q x (filter p es) ≡ told q x es)
        → told q o (cond b (e ∷ filter p es) (filter p es)) ≡ told q (told_by q o e) es
    by_tie true h go = go (told_by q o e)
    by_tie false h go =
        go o
        ∙ ap (λ (x : Option Value). told q x es) (ap (λ (b : Bool). if b then Some (joined_at e.0 o e.1) else o) (sym (sym (is e) ∙ h)))

ties_eq : (o : Ordering) → (not (is_lt o) && not (is_lt (ordering_reverse o))) ≡ is_eq o
ties_eq Less = refl
ties_eq Equal = refl
ties_eq Greater = refl

ties_paths : (x e : Pair Value) → ties (λ (a b : Pair Value). is_lt (path_cmp a.0 b.0)) x e ≡ eq_by_cmp path_cmp x.0 e.0
ties_paths x e =
    ap (λ (o : Ordering). not (is_lt (path_cmp x.0 e.0)) && not (is_lt o)) (paths_total.antisymm e.0 x.0)
    ∙ ties_eq (path_cmp x.0 e.0)

no_value : Value
no_value = record { inactive = false; protected = false; order = []; words = [] }

-- a stable sort changes nothing of what is put in turn
pub sorted_gathered : (m : map.FinMap path_cmp Value) (xs ys : List (Pair Value)) → IsStableBy (λ (a b : Pair Value). is_lt (path_cmp a.0 b.0)) xs ys → gathered m ys ≡ gathered m xs
sorted_gathered m xs ys stable = map.same_map paths_total path_same (gathered m ys) (gathered m xs) (λ q.
    get_gathered ys m q
    ∙ sym (told_filter q (ties (λ (a b : Pair Value). is_lt (path_cmp a.0 b.0)) (q, no_value)) (λ e. ties_paths (q, no_value) e) ys (map.get m q))
    ∙ ap (λ (es : List (Pair Value)). told q (map.get m q) es) (stable (q, no_value))
    ∙ told_filter q (ties (λ (a b : Pair Value). is_lt (path_cmp a.0 b.0)) (q, no_value)) (λ e. ties_paths (q, no_value) e) xs (map.get m q)
    ∙ sym (get_gathered xs m q))

find_lookup : (es : List (Pair Value)) (q : List Step) → find path_cmp q es ≡ lookup (is_at (path_cmp q)) es
find_lookup [] q = refl
find_lookup (e ∷ es) q = ap (cond (is_eq (path_cmp q e.0)) (Some e.1)) (find_lookup es q)

-- a put among entries is one in their map
put_shown : (k : List Step) (v : Value) (es : List (Pair Value)) → map.from_entries {R = path_cmp} (put path_cmp k v es) ≡ map.insert (map.from_entries es) k v
put_shown k v es = map.same_map paths_total path_same (map.from_entries (put path_cmp k v es)) (map.insert (map.from_entries es) k v) (λ q.
    map.get-from_entries paths_total (put path_cmp k v es) q
    ∙ find-put path_cmp paths_total q k v es
    ∙ ap (λ (o : Option Value). cond (eq_by_cmp path_cmp q k) (Some v) o) (sym (map.get-from_entries paths_total es q))
    ∙ sym (map.get-insert paths_total (map.from_entries es) k v q))

one_shown : (e : Pair Value) (es : List (Pair Value))
    → map.from_entries {R = path_cmp} (with_one e es) ≡ map.insert (map.from_entries es) e.0 (joined_at e.0 (map.get {R = path_cmp} (map.from_entries es) e.0) e.1)
one_shown e es =
    put_shown e.0 (joined_at e.0 (lookup (is_at (path_cmp e.0)) es) e.1) es
    ∙ ap (λ (o : Option Value). map.insert (map.from_entries es) e.0 (joined_at e.0 o e.1))
    (sym (map.get-from_entries paths_total es e.0 ∙ find_lookup es e.0))

-- what grows entry by entry is the map with these put in turn
pub grown_shown : (items es : List (Pair Value)) → map.from_entries {R = path_cmp} (grown es items) ≡ gathered (map.from_entries es) items
grown_shown [] es = refl
grown_shown (e ∷ items) es =
    grown_shown items (with_one e es) ∙ ap (λ (m : map.FinMap path_cmp Value). gathered m items) (one_shown e es)

pub gathered_sorted : (xs ys made : List (Pair Value)) → IsStableBy (λ (a b : Pair Value). is_lt (path_cmp a.0 b.0)) xs ys → made ≡ grown [] ys
    → map.from_entries {R = path_cmp} made ≡ gathered map.empty xs
gathered_sorted xs ys made stable e =
    ap (λ (es : List (Pair Value)). map.from_entries es) e ∙ grown_shown ys [] ∙ sorted_gathered map.empty xs ys stable

le_back : (o : Ordering) → is_lt (ordering_reverse o) ≡ false → is_le o ≡ true
le_back Less h = refl
le_back Equal h = refl
le_back Greater h = cc

not_behind : (p q : List Step) → is_lt (path_cmp q p) ≡ false → is_le (path_cmp p q) ≡ true
not_behind p q h = le_back (path_cmp p q) (sym (ap is_lt (paths_total.antisymm q p)) ∙ h)

all_read : (P : Pair Value → Type 0) (xs : List (Pair Value)) → ((i : ℕ) (d : Pair Value) → i < length xs → P (get_or xs i d)) → AllByRecursion P xs
all_read P [] h = tt
all_read P (x ∷ xs) h = (h zero x (omega arith), all_read P xs (λ i d l. h (suc i) d (omega (arith, l))))

pub climbs : (es : List (Pair Value)) → ((i j : ℕ) (d : Pair Value) → i < j → j < length es → is_lt (path_cmp (get_or es j d).0 (get_or es i d).0) ≡ false) → Climbs es
climbs [] h = tt
climbs (e ∷ es) h = (
  all_read (λ r. is_le (path_cmp e.0 r.0) ≡ true) es (λ i d l. not_behind e.0 (get_or es i d).0 (h zero (suc i) d (omega arith) (omega (arith, l)))),
  climbs es (λ i j d l m. h (suc i) (suc j) d (omega (arith, l)) (omega (arith, m))),
)

pub front : (a b : Bool) → T (a && b) → T a
front true b h = tt
front false b h = h

pub back : (a b : Bool) → T (a && b) → T b
back true b h = h
back false b h = absurd h

not_tied : (o : Ordering) → T (is_lt o) → is_eq o ≡ false
not_tied Less h = refl
not_tied Equal h = absurd h
not_tied Greater h = refl

-- nothing after a path is joined to what is there
pub told_behind : (k : List Step) (v : Value) (es : List (Pair Value)) → T (below_all path_cmp k es) → told k (Some v) es ≡ Some v
told_behind k v [] h = refl
told_behind k v (e ∷ es) h =
    ap (λ (b : Bool). told k (if b then Some (joined_at e.0 (Some v) e.1) else Some v) es) (not_tied (path_cmp k e.0) (front _ _ h))
    ∙ told_behind k v es (back _ _ h)

-- entries in order determine what is found among them
told_found : (q : List Step) (es : List (Pair Value)) → T (is_sorted path_cmp es) → told q None es ≡ find path_cmp q es
told_found q [] h = refl
told_found q (e ∷ es) h = by_tie (eq_by_cmp path_cmp q e.0) refl (told_found q es (back _ _ h))
  where
    by_tie : (b : Bool) → eq_by_cmp path_cmp q e.0 ≡ b → told q None es ≡ find path_cmp q es
        → told q (if b then Some (joined_at e.0 None e.1) else None) es ≡ cond b (Some e.1) (find path_cmp q es)
    by_tie true t go =
        told_behind q e.1 es (subst (λ (k : List Step). T (below_all path_cmp k es)) (sym (path_same q e.0 (tied _ t))) (front _ _ h))
    by_tie false t go = go

-- the entries of a map, put in turn, make it again
pub gathered_again : (m : map.FinMap path_cmp Value) → gathered map.empty (map.entries m) ≡ m
gathered_again m = map.same_map paths_total path_same (gathered map.empty (map.entries m)) m (λ q.
    get_gathered (map.entries m) map.empty q
    ∙ ap (λ (o : Option Value). told q o (map.entries m)) (map.get-empty path_cmp q)
    ∙ told_found q (map.entries m) (map.entries_sorted m)
    ∙ sym (map.get-entries m q))
