-- Entries in the order of paths, up to the path that comes next and after it.
use Rattle.std.proofs.Common.{◌≡◌, ◌≢◌, ◌⊎◌, inl, inr, ◌<◌, ◌≤◌, Bool, T, true, false, cond, ◌&&◌, List, [], ◌∷◌, length, refl, sym, ap, subst, ◌∙◌, Option, Some, None, Ordering, Less, Equal, Greater, is_lt, is_le, is_eq, arith}
use Rattle.std.specs.Ordering.{eq_by_cmp, ordering_reverse}
use Rattle.std.specs.FinMap.Entries.{find, is_sorted, below_all}
use Rattle.cfg_base.specs.Order.{path_cmp, paths_total}
use Rattle.cfg_base.specs.declared.path.Step.{Step}
use Rattle.cfg_base.specs.declared.value.Value.{Value}
use Rattle.cfg_entries.specs.EntryMap.{Pair}
use Rattle.cfg_entries.proofs.OrderLemmas.{path_same, itself}
use Rattle.cfg_tree.proofs.MapLemmas.{same_path}
use Rattle.private_merge.specs.Walking.{path_ahead, value_ahead, rest_behind, first_of}

first : (a b : Bool) → T (a && b) → T a
first true b h = tt
first false b h = h

second : (a b : Bool) → T (a && b) → T b
second true b h = h
second false b h = absurd h

is_less : (o : Ordering) → T (is_lt o) → o ≡ Less
is_less Less h = refl
is_less Equal h = absurd h
is_less Greater h = absurd h

less_by : (o : Ordering) → is_le o ≡ true → is_eq o ≡ false → o ≡ Less
less_by Less h k = refl
less_by Equal h k = cc
less_by Greater h k = cc

le_of_less : (o : Ordering) → o ≡ Less → is_le o ≡ true
le_of_less o e = ap is_le e

clash : (b : Bool) → b ≡ true → b ≡ false → ⊥
clash b t f = cc

-- from one that isn't after another to one after that
le_less : (p q r : List Step) → is_le (path_cmp p q) ≡ true → path_cmp q r ≡ Less → path_cmp p r ≡ Less
le_less p q r h less = by_order (path_cmp p q) refl h
  where
    by_order : (o : Ordering) → path_cmp p q ≡ o → is_le o ≡ true → path_cmp p r ≡ Less
    by_order Less e k = paths_total.trans p q r e less
    by_order Equal e k = subst (λ (x : List Step). path_cmp x r ≡ Less) (sym (path_same p q e)) less
    by_order Greater e k = cc

le_le : (p q r : List Step) → is_le (path_cmp p q) ≡ true → is_le (path_cmp q r) ≡ true → is_le (path_cmp p r) ≡ true
le_le p q r h k = by_order (path_cmp q r) refl k
  where
    by_order : (o : Ordering) → path_cmp q r ≡ o → is_le o ≡ true → is_le (path_cmp p r) ≡ true
    by_order Less e l = le_of_less _ (le_less p q r h e)
    by_order Equal e l = subst (λ (x : List Step). is_le (path_cmp p x) ≡ true) (path_same q r e) h
    by_order Greater e l = cc

not_less : (p q : List Step) → is_lt (path_cmp q p) ≡ false → is_le (path_cmp p q) ≡ true
not_less p q h = ap is_le (paths_total.antisymm p q) ∙ turned (path_cmp q p) h
  where
    turned : (o : Ordering) → is_lt o ≡ false → is_le (ordering_reverse o) ≡ true
    turned Less e = cc
    turned Equal e = refl
    turned Greater e = refl

find_none : (q : List Step) (es : List (Pair Value)) → T (below_all path_cmp q es) → find path_cmp q es ≡ None
find_none q [] h = refl
find_none q (e ∷ es) h =
    ap (λ (o : Ordering). cond (is_eq o) (Some e.1) (find path_cmp q es)) (is_less _ (first _ _ h)) ∙ find_none q es (second _ _ h)

below_more : (p q : List Step) (es : List (Pair Value)) → path_cmp p q ≡ Less → T (below_all path_cmp q es) → T (below_all path_cmp p es)
below_more p q [] e h = tt
below_more p q (d ∷ es) e h = both (sym (ap is_lt (paths_total.trans p q d.0 e (is_less _ (first _ _ h))))) (below_more p q es e (second _ _ h))
  where
    both : true ≡ is_lt (path_cmp p d.0) → T (below_all path_cmp p es) → T (is_lt (path_cmp p d.0) && below_all path_cmp p es)
    both f rest = subst (λ (b : Bool). T (b && below_all path_cmp p es)) f rest

found_behind : (k q : List Step) (v : Value) (es : List (Pair Value)) → T (below_all path_cmp k es) → find path_cmp q es ≡ Some v → path_cmp k q ≡ Less
found_behind k q v [] h e = cc
found_behind k q v (d ∷ es) h e = by_tie (eq_by_cmp path_cmp q d.0) refl e (λ f. found_behind k q v es (second _ _ h) f)
  where
    by_tie : (b : Bool) → eq_by_cmp path_cmp q d.0 ≡ b → cond b (Some d.1) (find path_cmp q es) ≡ Some v
        → (find path_cmp q es ≡ Some v → path_cmp k q ≡ Less) → path_cmp k q ≡ Less
    by_tie true t f go = ap (λ (x : List Step). path_cmp k x) ((same_path q d.0).0 t) ∙ is_less _ (first _ _ h)
    by_tie false t f go = go f

-- a path isn't after another one, where there is one
abbrev pub IsUpToPath : List Step → Option (List Step) → Type 0
IsUpToPath p None = Unit {0}
IsUpToPath p (Some q) = is_le (path_cmp p q) ≡ true

-- nor after what comes next
abbrev pub IsUpTo : List Step → List (Pair Value) → Type 0
IsUpTo p es = IsUpToPath p (path_ahead es)

less_there : (p : List Step) (e : Pair Value) (es : List (Pair Value)) → T (is_sorted path_cmp (e ∷ es)) → IsUpTo p (e ∷ es)
    → eq_by_cmp path_cmp p e.0 ≡ false → T (below_all path_cmp p es)
less_there p e es h up t = below_more p e.0 es (less_by _ up t) (first _ _ h)

-- what is found at such a path is what comes next there
pub find_ahead : (p : List Step) (es : List (Pair Value)) → T (is_sorted path_cmp es) → IsUpTo p es → value_ahead p es ≡ find path_cmp p es
find_ahead p [] h up = refl
find_ahead p (e ∷ es) h up = by_tie (eq_by_cmp path_cmp p e.0) refl
  where
    by_tie : (b : Bool) → eq_by_cmp path_cmp p e.0 ≡ b → cond b (Some e.1) None ≡ cond b (Some e.1) (find path_cmp p es)
    by_tie true t = refl
    by_tie false t = sym (find_none p es (less_there p e es h up t))

-- after it nothing is found there
pub none_behind : (p : List Step) (es : List (Pair Value)) → T (is_sorted path_cmp es) → IsUpTo p es → find path_cmp p (rest_behind p es) ≡ None
none_behind p [] h up = refl
none_behind p (e ∷ es) h up = by_tie (eq_by_cmp path_cmp p e.0) refl
  where
    by_tie : (b : Bool) → eq_by_cmp path_cmp p e.0 ≡ b → find path_cmp p (cond b es (e ∷ es)) ≡ None
    by_tie true t = find_none p es (subst (λ (k : List Step). T (below_all path_cmp k es)) (sym ((same_path p e.0).0 t)) (first _ _ h))
    by_tie false t =
        ap (λ (b : Bool). cond b (Some e.1) (find path_cmp p es)) t ∙ find_none p es (less_there p e es h up t)

-- and elsewhere what was
pub others_behind : (p q : List Step) (es : List (Pair Value)) → q ≢ p → find path_cmp q (rest_behind p es) ≡ find path_cmp q es
others_behind p q [] differs = refl
others_behind p q (e ∷ es) differs = by_tie (eq_by_cmp path_cmp p e.0) refl
  where
    other : (b : Bool) → eq_by_cmp path_cmp q e.0 ≡ b → p ≡ e.0 → b ≡ false
    other true t same = absurd (differs ((same_path q e.0).0 t ∙ sym same))
    other false t same = refl

    by_tie : (b : Bool) → eq_by_cmp path_cmp p e.0 ≡ b → find path_cmp q (cond b es (e ∷ es)) ≡ find path_cmp q (e ∷ es)
    by_tie true t = sym (ap (λ (b : Bool). cond b (Some e.1) (find path_cmp q es)) (other _ refl ((same_path p e.0).0 t)))
    by_tie false t = refl

pub sorted_behind : (p : List Step) (es : List (Pair Value)) → T (is_sorted path_cmp es) → T (is_sorted path_cmp (rest_behind p es))
sorted_behind p [] h = h
sorted_behind p (e ∷ es) h = by_tie (eq_by_cmp path_cmp p e.0)
  where
    by_tie : (b : Bool) → T (is_sorted path_cmp (cond b es (e ∷ es)))
    by_tie true = second _ _ h
    by_tie false = h

-- what is found isn't before it
pub not_before : (p q : List Step) (v : Value) (es : List (Pair Value)) → T (is_sorted path_cmp es) → IsUpTo p es → find path_cmp q es ≡ Some v
    → path_cmp p q ≢ Greater
not_before p q v [] h up e = cc
not_before p q v (d ∷ es) h up e = by_tie (eq_by_cmp path_cmp q d.0) refl e
  where
    never : (o : Ordering) → is_le o ≡ true → o ≢ Greater
    never Less k f = cc
    never Equal k f = cc
    never Greater k f = cc

    by_tie : (b : Bool) → eq_by_cmp path_cmp q d.0 ≡ b → cond b (Some d.1) (find path_cmp q es) ≡ Some v → path_cmp p q ≢ Greater
    by_tie true t f = never _ (ap (λ (k : List Step). is_le (path_cmp p k)) ((same_path q d.0).0 t) ∙ up)
    by_tie false t f = never _ (le_of_less _ (le_less p d.0 q up (found_behind d.0 q v es (first _ _ h) f)))

-- a path that comes first of two
pub first_up : (p : List Step) (a b : Option (List Step)) → IsUpToPath p (first_of a b) → IsUpToPath p a × IsUpToPath p b
first_up p None b h = (tt, h)
first_up p (Some x) None h = (h, tt)
first_up p (Some x) (Some y) h = by_test (is_lt (path_cmp y x)) refl h
  where
    by_test : (b : Bool) → is_lt (path_cmp y x) ≡ b → IsUpToPath p (cond b (Some y) (Some x)) → (is_le (path_cmp p x) ≡ true) × (is_le (path_cmp p y) ≡ true)
    by_test true t k = (le_le p y x k (le_of_less _ (is_less _ (subst T (sym t) tt))), k)
    by_test false t k = (k, le_le p x y k (not_less x y t))

pub up_to_itself : (p : List Step) (o : Option (List Step)) → o ≡ Some p → IsUpToPath p o
up_to_itself p o e = subst (λ (x : Option (List Step)). IsUpToPath p x) (sym e) (ap is_le (itself p))

pub first_is : (p : List Step) (a b : Option (List Step)) → first_of a b ≡ Some p → (a ≡ Some p) ⊎ (b ≡ Some p)
first_is p None b h = inr h
first_is p (Some x) None h = inl h
first_is p (Some x) (Some y) h = by_test (is_lt (path_cmp y x)) h
  where
    by_test : (b : Bool) → cond b (Some y) (Some x) ≡ Some p → (Some x ≡ Some p) ⊎ (Some y ≡ Some p)
    by_test true k = inr k
    by_test false k = inl k

pub first_none : (a b : Option (List Step)) → first_of a b ≡ None → (a ≡ None) × (b ≡ None)
first_none None b h = (refl, h)
first_none (Some x) None h = cc
first_none (Some x) (Some y) h = by_test (is_lt (path_cmp y x)) h
  where
    by_test : (b : Bool) → cond b (Some y) (Some x) ≡ None → (Some x ≡ None) × (Some y ≡ None)
    by_test true k = cc
    by_test false k = cc

pub nothing_ahead : (es : List (Pair Value)) → path_ahead es ≡ None → es ≡ []
nothing_ahead [] h = refl
nothing_ahead (e ∷ es) h = cc

-- what comes next is found
pub found_ahead : (p : List Step) (es : List (Pair Value)) → path_ahead es ≡ Some p → find path_cmp p es ≡ None → ⊥
found_ahead p [] h e = cc
found_ahead p (d ∷ es) h e =
    never (ap (λ (b : Bool). cond b (Some d.1) (find path_cmp p es)) (sym ((same_path p d.0).1 (sym (same_some h)))) ∙ e)
  where
    same_some : Some d.0 ≡ Some p → d.0 ≡ p
    same_some f = cc

    never : Some d.1 ≡ None → ⊥
    never f = cc

-- what is after a path is no longer
pub behind_length : (p : List Step) (es : List (Pair Value)) → length (rest_behind p es) ≤ length es
behind_length p [] = omega arith
behind_length p (e ∷ es) = by_tie (eq_by_cmp path_cmp p e.0)
  where
    by_tie : (b : Bool) → length (cond b es (e ∷ es)) ≤ length (e ∷ es)
    by_tie true = omega arith
    by_tie false = omega arith

-- and shorter where it comes next
pub behind_shorter : (p : List Step) (es : List (Pair Value)) → path_ahead es ≡ Some p → length (rest_behind p es) < length es
behind_shorter p [] h = cc
behind_shorter p (e ∷ es) h = by_tie (eq_by_cmp path_cmp p e.0) ((same_path p e.0).1 (sym (same_some h)))
  where
    same_some : Some e.0 ≡ Some p → e.0 ≡ p
    same_some f = cc

    by_tie : (b : Bool) → b ≡ true → length (cond b es (e ∷ es)) < length (e ∷ es)
    by_tie true t = omega arith
    by_tie false t = cc
