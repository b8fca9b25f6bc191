-- What a put, a removal and a change of an order leave, stated by look-ups.
use Rattle.std.proofs.Common.{◌≡◌, ◌≢◌, ℕ, ◌+◌, ◌<◌, ◌≤◌, Bool, true, false, cond, not, ◌&&◌, List, [], ◌∷◌, length, refl, sym, ap, subst, ◌∙◌, Option, Some, None, is_some, is_none, option_map, arith, if◌then◌else◌}
use Rattle.std.specs.FinMap as map
use Rattle.cfg_base.specs.Order.{paths_total}
use Rattle.cfg_base.specs.declared.path.Step.{Step}
use Rattle.cfg_base.specs.declared.value.Value.{Value}
use Rattle.cfg_tree.specs.declared.limit.TheConstants.{MAX_STATEMENTS}
use Rattle.cfg_tree.specs.declared.reorder.Change.{Change}
use Rattle.cfg_tree.specs.declared.reorder.Change.TheVariants.{Last, Without}
use Rattle.cfg_tree.specs.declared.reorder.Reorder.{Reorder}
use Rattle.cfg_tree.specs.Statements.{Statements, size_of, parent_of, last_of, is_below}
use Rattle.cfg_tree.specs.Change.{with_order, with_order_of, is_ordered, put_last, without, listed, put_at, cleared, removed}
use Rattle.cfg_tree.specs.Renaming.{changed_names, IsReorderBy, IsListedAs, reordered_by}
use Rattle.cfg_tree.proofs.MapLemmas.{path_same}
use Rattle.cfg_tree.proofs.PathLemmas.{split, child_differs, get_here, get_other, renamed, order_at, order_other}
use Rattle.cfg_tree.proofs.BelowLemmas.{parent_apart}
use Rattle.cfg_tree.proofs.OrderLemmas.{top_is_unordered}
use Rattle.cfg_tree.proofs.PutLemmas.{Puts}
use Rattle.cfg_tree.proofs.RemoveLemmas.{Removes}

-- a change of an order takes no statement away and adds none
pub size-order : (m : Statements) (a : List Step) (f : List (List ℕ) → List (List ℕ)) → size_of (with_order m a f) ≡ size_of m
size-order m a f = by_value _ refl
  where
    by_value : (o : Option Value) → map.get m a ≡ o → size_of (with_order_of m a f o) ≡ size_of m
    by_value None e = refl
    by_value (Some v) e =
        map.len-insert paths_total m a (renamed f v) ∙ ap (λ (x : Option Value). cond (is_some x) (map.len m) (map.len m + 1)) e

pub differs_from_parent : (path : List Step) → 0 < length path → path ≢ parent_of path
differs_from_parent path long e = child_differs (parent_of path) (last_of path) (sym (split path long) ∙ e)

unchanged : (o : Option Value) → o ≡ option_map (renamed (λ names. names)) o
unchanged None = refl
unchanged (Some v) = refl

put_by : (m : Statements) (path : List Step) (value : Value) → 0 < length path
    → (b : Bool) → Puts m (if b then with_order (map.insert m path value) (parent_of path) (put_last (last_of path).name) else map.insert m path value) path value b
put_by m path value long true = record {
  here = order_other _ (parent_of path) path _ (differs_from_parent path long) ∙ get_here m path value;
  others = λ q d e. order_other _ (parent_of path) q _ e ∙ get_other m path q value d;
  parent =
      order_at _ (parent_of path) _
      ∙ ap (option_map (renamed (put_last (last_of path).name))) (get_other m path (parent_of path) value (λ e. differs_from_parent path long (sym e)));
}
put_by m path value long false = record {
  here = get_here m path value;
  others = λ q d e. get_other m path q value d;
  parent = get_other m path (parent_of path) value (λ e. differs_from_parent path long (sym e)) ∙ unchanged (map.get m (parent_of path));
}

-- what a put leaves
pub puts : (m : Statements) (path : List Step) (value : Value) → 0 < length path
    → Puts m (put_at m path value) path value (is_none (map.get m path) && is_ordered path)
puts m path value long = put_by m path value long (is_none (map.get m path) && is_ordered path)

-- a put of a new path adds a statement, and any other none
pub size-put : (m : Statements) (path : List Step) (value : Value) → size_of (put_at m path value) ≡ cond (is_some (map.get m path)) (size_of m) (size_of m + 1)
size-put m path value = by_order (is_none (map.get m path) && is_ordered path) ∙ map.len-insert paths_total m path value
  where
    by_order : (b : Bool)
        → size_of (if b then with_order (map.insert m path value) (parent_of path) (put_last (last_of path).name) else map.insert m path value)
        ≡ size_of (map.insert m path value)
    by_order true = size-order (map.insert m path value) (parent_of path) _
    by_order false = refl

pub put_few : (m : Statements) (path : List Step) (value : Value) → size_of m ≤ MAX_STATEMENTS → (map.get m path ≡ None → size_of m < MAX_STATEMENTS)
    → size_of (put_at m path value) ≤ MAX_STATEMENTS
put_few m path value few room = subst (λ (k : ℕ). k ≤ MAX_STATEMENTS) (sym (size-put m path value)) (by_value _ refl)
  where
    by_value : (o : Option Value) → map.get m path ≡ o → cond (is_some o) (map.len m) (map.len m + 1) ≤ MAX_STATEMENTS
    by_value None e = let below = room e in omega (arith, below)
    by_value (Some w) e = few

-- a change of the parent's order that was made of the map before is one of the map after
reorder_some : (n : Statements) (parent : List Step) (f : List (List ℕ) → List (List ℕ)) (v : Value) (names : List (List ℕ))
    → map.get n parent ≡ Some v → names ≡ f v.order → with_order n parent (λ _. names) ≡ with_order n parent f
reorder_some n parent f v names e is_names =
    ap (with_order_of n parent (λ _. names)) e
    ∙ ap (λ (ns : List (List ℕ)). map.insert n parent (record v { order = ns })) is_names
    ∙ sym (ap (with_order_of n parent f) e)

pub reorder_done : (m n : Statements) (path : List Step) (change : Change) (r : Option Reorder) (b : Bool)
    → IsReorderBy b m path change r → map.get n (parent_of path) ≡ map.get m (parent_of path)
    → reordered_by r n ≡ (if b then with_order n (parent_of path) (changed_names change (last_of path).name) else n)
reorder_done m n path change r false e same_parent = ap (λ (x : Option Reorder). reordered_by x n) e
reorder_done m n path change None true e same_parent =
    sym (ap (with_order_of n (parent_of path) (changed_names change (last_of path).name)) (same_parent ∙ e))
reorder_done m n path change (Some r) true e same_parent =
    ap (λ (x : List Step). with_order n x (λ _. r.order)) e.parent_is
    ∙ reorder_some n (parent_of path) (changed_names change (last_of path).name) e.value r.order (same_parent ∙ e.found) e.order_is

-- a put as the code makes it
pub stored : (m n : Statements) (path : List Step) (value : Value) (new : Bool) (r : Option Reorder) → 0 < length path
    → new ≡ is_none (map.get m path) → IsListedAs new m path r → n ≡ map.insert m path value → reordered_by r n ≡ put_at m path value
stored m n path value new r long is_new listing e =
    ap (reordered_by r) e ∙ by_new new listing ∙ ap (λ (b : Bool). listed b (map.insert m path value) path) is_new
  where
    parent_same : map.get (map.insert m path value) (parent_of path) ≡ map.get m (parent_of path)
    parent_same = get_other m path (parent_of path) value (λ e. differs_from_parent path long (sym e))

    by_new : (b : Bool) → IsListedAs b m path r → reordered_by r (map.insert m path value) ≡ listed b (map.insert m path value) path
    by_new true l = reorder_done m _ path Last r _ l parent_same
    by_new false l = ap (λ (x : Option Reorder). reordered_by x (map.insert m path value)) l

-- what the statements without a path and those below it answer
pub get-cleared : (m : Statements) (path q : List Step) → map.get (cleared m path) q ≡ cond (not (is_below path q)) (map.get m q) None
get-cleared m path q =
    map.get-retain_keys m (λ other. not (is_below path other)) q
    (λ x tie. ap (λ (p : List Step). not (is_below path p)) (sym (path_same q x tie)))

pub cleared_below : (m : Statements) (path q : List Step) → is_below path q ≡ true → map.get (cleared m path) q ≡ None
cleared_below m path q e = get-cleared m path q ∙ ap (λ (b : Bool). cond (not b) (map.get m q) None) e

pub cleared_other : (m : Statements) (path q : List Step) → is_below path q ≡ false → map.get (cleared m path) q ≡ map.get m q
cleared_other m path q e = get-cleared m path q ∙ ap (λ (b : Bool). cond (not b) (map.get m q) None) e

pub parent_out : (path : List Step) → 0 < length path → is_below path (parent_of path) ≡ false
parent_out path long =
    ap (λ (p : List Step). is_below p (parent_of path)) (split path long) ∙ parent_apart (parent_of path) (last_of path)

pub below_out : (path q : List Step) → is_below path q ≡ true → is_below path (parent_of path) ≡ false → q ≢ parent_of path
below_out path q e f is_parent = let d = ap (λ (x : List Step). is_below path x) (sym is_parent) ∙ e in cc

remove_by : (m : Statements) (path : List Step) → (b : Bool) → is_ordered path ≡ b → (b ≡ true → 0 < length path)
    → size_of (cleared m path) ≤ MAX_STATEMENTS
    → Removes m (if b then with_order (cleared m path) (parent_of path) (without (last_of path).name) else cleared m path) path
remove_by m path true e long few = record {
  below = λ q h. order_other _ (parent_of path) q _ (below_out path q h (parent_out path (long refl))) ∙ cleared_below m path q h;
  others = λ q h d. order_other _ (parent_of path) q _ (d e) ∙ cleared_other m path q h;
  parent = λ h _. order_at _ (parent_of path) _ ∙ ap (option_map (renamed (without (last_of path).name))) (cleared_other m path (parent_of path) h);
  size = subst (λ (k : ℕ). k ≤ MAX_STATEMENTS) (sym (size-order _ (parent_of path) _)) few;
}
remove_by m path false e long few = record {
  below = λ q h. cleared_below m path q h;
  others = λ q h d. cleared_other m path q h;
  parent = λ h t. absurd (clash t e);
  size = few;
}
  where
    clash : is_ordered path ≡ true → is_ordered path ≡ false → ⊥
    clash t u = cc

pub long_if : (path : List Step) → is_ordered path ≡ true → 0 < length path
long_if [] h = let d = top_is_unordered [] refl in cc
long_if (x ∷ path) h = omega arith

-- what a removal leaves
pub removes : (m : Statements) (path : List Step) → size_of (cleared m path) ≤ MAX_STATEMENTS → Removes m (removed m path) path
removes m path few = remove_by m path _ refl (long_if path) few

-- a removal as the code makes it
pub unstored : (m n : Statements) (path : List Step) (r : Option Reorder) → IsReorderBy (is_ordered path) m path Without r
    → n ≡ cleared m path → reordered_by r n ≡ removed m path
unstored m n path r l e = ap (reordered_by r) e ∙ by_order _ refl l
  where
    by_order : (b : Bool) → is_ordered path ≡ b → IsReorderBy b m path Without r
        → reordered_by r (cleared m path) ≡ (if b then with_order (cleared m path) (parent_of path) (without (last_of path).name) else cleared m path)
    by_order true f l = reorder_done m _ path Without r true l (cleared_other m path (parent_of path) (parent_out path (long_if path f)))
    by_order false f l = ap (λ (x : Option Reorder). reordered_by x (cleared m path)) l

pub size-removed : (m : Statements) (path : List Step) → size_of (removed m path) ≡ size_of (cleared m path)
size-removed m path = by_order (is_ordered path)
  where
    by_order : (b : Bool) → size_of (if b then with_order (cleared m path) (parent_of path) (without (last_of path).name) else cleared m path) ≡ size_of (cleared m path)
    by_order true = size-order (cleared m path) (parent_of path) _
    by_order false = refl
