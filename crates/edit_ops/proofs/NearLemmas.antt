-- What a put and a removal change of the statements: nothing but on the way to a path, and below it.
use Rattle.std.proofs.Common.{◌≡◌, ◌≢◌, ℕ, zero, suc, ◌+◌, ◌-◌, ◌≤◌, ◌<◌, Bool, true, false, cond, ◌&&◌, List, [], ◌∷◌, length, take, refl, sym, ap, subst, ◌∙◌, Option, Some, None, is_some, is_none, arith, if◌then◌else◌}
use Rattle.std.specs.Prelude.{IsSome}
use Rattle.std.specs.FinMap as map
use Rattle.std.proofs.lemmas.List.{take_all, length-take-le}
use Rattle.cfg_base.specs.Order.{paths_total}
use Rattle.cfg_base.specs.declared.path.Step.{Step}
use Rattle.cfg_base.specs.declared.value.Value.{Value}
use Rattle.cfg_tree.specs.Statements.{Statements, size_of, parent_of, last_of, is_below}
use Rattle.cfg_tree.specs.Tree.{IsTree}
use Rattle.cfg_tree.specs.Change.{is_ordered, put_last, with_order, put_at}
use Rattle.cfg_tree.proofs.MapLemmas.{same_statements}
use Rattle.cfg_tree.proofs.BelowLemmas.{below_self}
use Rattle.cfg_tree.proofs.PathLemmas.{same_or_not, get_here, get_other, order_other}
use Rattle.cfg_tree.proofs.StepLemmas.{size-order, differs_from_parent}
use Rattle.cfg_tree.proofs.TypedLemmas.{not_both}
use Rattle.edit_ops.specs.Value.{no_value, value_or_none, value_set}
use Rattle.edit_ops.specs.Change.{with_level, with_levels, set_of}
use Rattle.edit_ops.proofs.WayLemmas.{take_below, below_trans, on_way_or_not}

-- two maps are the same but for paths on the way to a path
abbrev pub IsNear : Statements → Statements → List Step → Type 0
IsNear m n path = (q : List Step) → is_below q path ≡ false → map.get n q ≡ map.get m q

off_way : (q path : List Step) → is_below q path ≡ false → q ≢ path
off_way q path h e = not_both _ (ap (λ (p : List Step). is_below p path) e ∙ below_self path) h

off_parent : (q path : List Step) → is_below q path ≡ false → q ≢ parent_of path
off_parent q path h e = not_both _ (ap (λ (p : List Step). is_below p path) e ∙ take_below (length path - 1) path) h

pub put_by_other : (m : Statements) (path q : List Step) (value : Value) (f : List (List ℕ) → List (List ℕ)) (b : Bool) → q ≢ path → q ≢ parent_of path
    → map.get (if b then with_order (map.insert m path value) (parent_of path) f else map.insert m path value) q ≡ map.get m q
put_by_other m path q value f true d e = order_other _ (parent_of path) q f e ∙ get_other m path q value d
put_by_other m path q value f false d e = get_other m path q value d

-- a put changes nothing but on the way
pub put_near : (m : Statements) (path : List Step) (value : Value) → IsNear m (put_at m path value) path
put_near m path value q h =
    put_by_other m path q value (put_last (last_of path).name) (is_none (map.get m path) && is_ordered path) (off_way q path h) (off_parent q path h)

put_by_here : (m : Statements) (path : List Step) (value : Value) (f : List (List ℕ) → List (List ℕ)) (b : Bool) → 0 < length path
    → map.get (if b then with_order (map.insert m path value) (parent_of path) f else map.insert m path value) path ≡ Some value
put_by_here m path value f true long = order_other _ (parent_of path) path f (differs_from_parent path long) ∙ get_here m path value
put_by_here m path value f false long = get_here m path value

pub put_here : (m : Statements) (path : List Step) (value : Value) → 0 < length path → map.get (put_at m path value) path ≡ Some value
put_here m path value long =
    put_by_here m path value (put_last (last_of path).name) (is_none (map.get m path) && is_ordered path) long

-- a path that is there is a put of its value alone
pub put_there : (m : Statements) (path : List Step) (old value : Value) → map.get m path ≡ Some old → put_at m path value ≡ map.insert m path value
put_there m path old value e =
    ap (λ (o : Option Value). if is_none o && is_ordered path
    then with_order (map.insert m path value) (parent_of path) (put_last (last_of path).name)
    else map.insert m path value) e

-- a put of what is there changes nothing
pub put_same : (m : Statements) (path : List Step) (value : Value) → map.get m path ≡ Some value → put_at m path value ≡ m
put_same m path value e =
    put_there m path value value e
    ∙ same_statements (map.insert m path value) m
    (λ q. same_or_not q path (map.get (map.insert m path value) q ≡ map.get m q)
    (λ same. ap (map.get (map.insert m path value)) same ∙ get_here m path value ∙ sym e ∙ ap (map.get m) (sym same))
    (λ differs. get_other m path q value differs))

size_by : (m : Statements) (path : List Step) (f : List (List ℕ) → List (List ℕ)) (b : Bool)
    → size_of (if b then with_order m (parent_of path) f else m) ≡ size_of m
size_by m path f true = size-order m (parent_of path) f
size_by m path f false = refl

-- a put adds a statement where there was none
pub size-put : (m : Statements) (path : List Step) (value : Value)
    → size_of (put_at m path value) ≡ cond (is_some (map.get m path)) (size_of m) (size_of m + 1)
size-put m path value =
    size_by (map.insert m path value) path (put_last (last_of path).name) (is_none (map.get m path) && is_ordered path)
    ∙ map.len-insert paths_total m path value

pub size_new : (m : Statements) (path : List Step) (value : Value) → map.get m path ≡ None → size_of (put_at m path value) ≡ size_of m + 1
size_new m path value e = size-put m path value ∙ ap (λ (o : Option Value). cond (is_some o) (size_of m) (size_of m + 1)) e

grows_by : (b : Bool) (n : ℕ) → n ≤ cond b n (n + 1)
grows_by true n = omega arith
grows_by false n = omega arith

pub put_grows : (m : Statements) (path : List Step) (value : Value) → size_of m ≤ size_of (put_at m path value)
put_grows m path value = subst (λ (k : ℕ). size_of m ≤ k) (sym (size-put m path value)) (grows_by (is_some (map.get m path)) (size_of m))

level_by_near : (m : Statements) (level path q : List Step) (b : Bool) → is_below level path ≡ true → is_below q path ≡ false
    → map.get (if b then m else put_at m level no_value) q ≡ map.get m q
level_by_near m level path q true on h = refl
level_by_near m level path q false on h =
    put_near m level no_value q
    (on_way_or_not q level (is_below q level ≡ false) (λ e. absurd (not_both _ (below_trans q level path e on) h)) (λ e. e))

-- one level more
pub levels-more : (m : Statements) (k : ℕ) (path : List Step) → with_levels m (k + 1) path ≡ with_level (with_levels m k path) (take (k + 1) path)
levels-more m k path = ap (λ (i : ℕ). with_levels m i path) (one_more k) ∙ ap (λ (i : ℕ). with_level (with_levels m k path) (take i path)) (sym (one_more k))
  where
    one_more : (n : ℕ) → n + 1 ≡ suc n
    one_more n = omega arith

-- levels change nothing but on the way
pub levels_near : (m : Statements) (n : ℕ) (path : List Step) → IsNear m (with_levels m n path) path
levels_near m zero path q h = refl
levels_near m (suc n) path q h =
    level_by_near (with_levels m n path) (take (suc n) path) path q (is_some (map.get (with_levels m n path) (take (suc n) path))) (take_below (suc n) path) h
    ∙ levels_near m n path q h

level_grows : (m : Statements) (level : List Step) (b : Bool) → size_of m ≤ size_of (if b then m else put_at m level no_value)
level_grows m level true = omega arith
level_grows m level false = put_grows m level no_value

pub levels_grow : (m : Statements) (n k : ℕ) (path : List Step) → size_of (with_levels m n path) ≤ size_of (with_levels m (n + k) path)
levels_grow m n zero path =
    subst (λ (i : ℕ). size_of (with_levels m n path) ≤ size_of (with_levels m i path)) (same_sum n) (omega arith)
  where
    same_sum : (k : ℕ) → k ≡ k + 0
    same_sum k = omega arith
levels_grow m n (suc k) path =
    let before = levels_grow m n k path
    in let one = level_grows (with_levels m (n + k) path) (take (suc (n + k)) path) (is_some (map.get (with_levels m (n + k) path) (take (suc (n + k)) path)))
    in subst (λ (i : ℕ). size_of (with_levels m n path) ≤ size_of (with_levels m i path)) (next_sum n k) (le_through _ _ _ before one)
  where
    next_sum : (a b : ℕ) → suc (a + b) ≡ a + suc b
    next_sum a b = omega arith

    le_through : (a b c : ℕ) → a ≤ b → b ≤ c → a ≤ c
    le_through a b c e f = omega (arith, e, f)

-- so does a set
pub set_near : (m : Statements) (path : List Step) (words : List (List ℕ)) → IsNear m (set_of m path words) path
set_near m path words q h =
    put_near (with_levels m (length path - 1) path) path (value_set path (value_or_none (map.get m path)) words) q h
    ∙ levels_near m (length path - 1) path q h

pub take_take : (k : ℕ) (path : List Step) → k < length path → parent_of (take (suc k) path) ≡ take k path
take_take k path h =
    ap (λ (i : ℕ). take i (take (suc k) path)) (one_less (length-take-le (suc k) path (omega (arith, h))))
    ∙ shorter k path
  where
    one_less : {n : ℕ} → n ≡ suc k → n - 1 ≡ k
    one_less e = omega (arith, e)

    shorter : (k : ℕ) (path : List Step) → take k (take (suc k) path) ≡ take k path
    shorter zero path = refl
    shorter (suc k) [] = refl
    shorter (suc k) (x ∷ path) = ap (λ (ss : List Step). x ∷ ss) (shorter k path)

pub front_parent : (k : ℕ) (path : List Step) → k < length path → parent_of (take (k + 1) path) ≡ take k path
front_parent k path h = ap (λ (i : ℕ). parent_of (take i path)) (one_more k) ∙ take_take k path h
  where
    one_more : (n : ℕ) → n + 1 ≡ suc n
    one_more n = omega arith

-- where a path is there, so is each level above it
pub way_there : (m : Statements) (path : List Step) (j k : ℕ) → IsTree m → k + j ≡ length path → 0 < k → IsSome (map.get m path)
    → IsSome (map.get m (take k path))
way_there m path zero k tree e some there =
    subst (λ (p : List Step). IsSome (map.get m p)) (sym (take_all k path (omega (arith, e)))) there
way_there m path (suc j) k tree e some there =
    let next = way_there m path j (suc k) tree (omega (arith, e)) (omega arith) there
    in let parent = tree.statements.parents (take (suc k) path) next
    in subst (λ (p : List Step). IsSome (map.get m p)) (take_take k path (omega (arith, e)))
    (parent.parent (subst (λ (i : ℕ). 1 < i) (sym (length-take-le (suc k) path (omega (arith, e)))) (omega (arith, some))))

level_there : (m : Statements) (level : List Step) → IsSome (map.get m level) → with_level m level ≡ m
level_there m level h = ap (λ (b : Bool). if b then m else put_at m level no_value) h

-- and then none of them is put
pub levels_there : (m : Statements) (n : ℕ) (path : List Step) → IsTree m → n < length path → IsSome (map.get m path) → with_levels m n path ≡ m
levels_there m zero path tree h there = refl
levels_there m (suc n) path tree h there =
    ap (λ (x : Statements). with_level x (take (suc n) path)) (levels_there m n path tree (omega (arith, h)) there)
    ∙ level_there m (take (suc n) path) (way_there m path (length path - suc n) (suc n) tree (omega (arith, h)) (omega arith) there)

-- a set of what is there is a put
pub set_there : (m : Statements) (path : List Step) (old : Value) (words : List (List ℕ)) → 0 < length path → IsTree m → map.get m path ≡ Some old
    → set_of m path words ≡ put_at m path (value_set path old words)
set_there m path old words long tree e =
    ap (λ (x : Statements). put_at x path (value_set path (value_or_none (map.get m path)) words))
    (levels_there m (length path - 1) path tree (omega (arith, long)) (ap is_some e))
    ∙ ap (λ (o : Option Value). put_at m path (value_set path (value_or_none o) words)) e
