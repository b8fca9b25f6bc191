-- What puts and sets leave at each path.
use Rattle.std.proofs.Common.{◌≡◌, ℕ, zero, suc, ◌+◌, ◌-◌, ◌<◌, ◌≤◌, Bool, true, false, ◌||◌, ◌&&◌, List, [], ◌∷◌, ◌++◌, length, take, refl, sym, ap, subst, ◌∙◌, Option, Some, None, is_none, option_map, if◌then◌else◌, arith}
use Rattle.std.specs.Prelude.{IsSome}
use Rattle.std.specs.FinMap as map
use Rattle.std.specs.Ordering.{eq_by_cmp}
use Rattle.cfg_base.specs.Order.{path_cmp, step_cmp}
use Rattle.cfg_base.specs.declared.path.Step.{Step}
use Rattle.cfg_base.specs.declared.value.Value.{Value}
use Rattle.cfg_tree.specs.Statements.{Statements, size_of, parent_of, last_of, is_below}
use Rattle.cfg_tree.specs.Change.{is_ordered, put_last, put_at}
use Rattle.cfg_tree.proofs.MapLemmas.{same_step, same_statements}
use Rattle.cfg_tree.proofs.PathLemmas.{same_or_not, renamed}
use Rattle.cfg_tree.proofs.StepLemmas.{puts}
use Rattle.cfg_tree.proofs.StatedLemmas.{put_there}
use Rattle.cfg_schema.proofs.TestLemmas.{both}
use Rattle.edit_ops.specs.Value.{no_value, value_or_none, value_set}
use Rattle.edit_ops.specs.Change.{with_level, with_levels, set_of}
use Rattle.edit_ops.proofs.NearLemmas.{levels_grow, put_grows}

-- a value with these words alone
abbrev pub plain : List (List ℕ) → Value
plain words = record { inactive = false; protected = false; order = []; words = words }

-- no statement is protected
abbrev pub Unprotected : Statements → Type 0
Unprotected m = (q : List Step) (v : Value) → map.get m q ≡ Some v → v.protected ≡ false

same_value : (v w : Value) → Some v ≡ Some w → v ≡ w
same_value v w e = cc

renamed_open : (f : List (List ℕ) → List (List ℕ)) (o : Option Value) (v : Value) → ((w : Value) → o ≡ Some w → w.protected ≡ false) → option_map (renamed f) o ≡ Some v → v.protected ≡ false
renamed_open f None v h e = absurd cc
renamed_open f (Some w) v h e = ap (λ (u : Value). u.protected) (sym (same_value (renamed f w) v e)) ∙ h w refl

-- a put of a value without the mark protects nothing
pub put_open : (m : Statements) (p : List Step) (w : Value) → 0 < length p → w.protected ≡ false → Unprotected m → Unprotected (put_at m p w)
put_open m p w long mark open_before q v found =
    let put = puts m p w long in
    same_or_not q p (v.protected ≡ false)
    (λ same. ap (λ (u : Value). u.protected) (same_value v w (sym found ∙ ap (map.get (put_at m p w)) same ∙ put.here)) ∙ mark)
    (λ apart. same_or_not q (parent_of p) (v.protected ≡ false)
    (λ above.
    renamed_open (if is_none (map.get m p) && is_ordered p then put_last (last_of p).name else (λ names. names)) (map.get m (parent_of p)) v (open_before (parent_of p))
    (sym put.parent ∙ ap (map.get (put_at m p w)) (sym above) ∙ found))
    (λ other. open_before q v (sym (put.others q apart other) ∙ found)))

-- what is there stays there
pub put_stays : (m : Statements) (p q : List Step) (w : Value) → IsSome (map.get m q) → IsSome (map.get (put_at m p w) q)
put_stays m p q w there = put_there m p q w ∙ ap (λ (b : Bool). b || eq_by_cmp path_cmp q p) there

-- a put over a new one leaves what the second one puts
put_twice_at : (m : Statements) (p q : List Step) (v w : Value) → 0 < length p → map.get m p ≡ None → map.get (put_at (put_at m p v) p w) q ≡ map.get (put_at m p w) q
put_twice_at m p q v w long new =
    let one = puts m p v long in
    let two = puts (put_at m p v) p w long in
    let other = puts m p w long in
    let is_there : is_none (map.get (put_at m p v) p) ≡ false = ap is_none one.here in
    same_or_not q p (map.get (put_at (put_at m p v) p w) q ≡ map.get (put_at m p w) q)
    (λ same. ap (map.get (put_at (put_at m p v) p w)) same ∙ two.here ∙ sym other.here ∙ ap (map.get (put_at m p w)) (sym same))
    (λ apart. same_or_not q (parent_of p) (map.get (put_at (put_at m p v) p w) q ≡ map.get (put_at m p w) q)
    (λ above.
    ap (map.get (put_at (put_at m p v) p w)) above
    ∙ two.parent
    ∙ ap (λ (b : Bool). option_map (renamed (if b && is_ordered p then put_last (last_of p).name else (λ names. names))) (map.get (put_at m p v) (parent_of p))) is_there
    ∙ same_names (map.get (put_at m p v) (parent_of p))
    ∙ one.parent
    ∙ sym other.parent
    ∙ ap (map.get (put_at m p w)) (sym above))
    (λ elsewhere. two.others q apart elsewhere ∙ one.others q apart elsewhere ∙ sym (other.others q apart elsewhere)))
  where
    same_names : (o : Option Value) → option_map (renamed (λ names. names)) o ≡ o
    same_names None = refl
    same_names (Some u) = refl

pub put_twice : (m : Statements) (p : List Step) (v w : Value) → 0 < length p → map.get m p ≡ None → put_at (put_at m p v) p w ≡ put_at m p w
put_twice m p v w long new = same_statements (put_at (put_at m p v) p w) (put_at m p w) (λ q. put_twice_at m p q v w long new)

-- the levels above a path that are there
pub levels_all : (m : Statements) (n : ℕ) (p : List Step) → ((k : ℕ) → 0 < k → k ≤ n → IsSome (map.get m (take k p))) → with_levels m n p ≡ m
levels_all m zero p there = refl
levels_all m (suc n) p there =
    ap (λ (x : Statements). with_level x (take (suc n) p)) (levels_all m n p (λ k some within. there k some (omega arith)))
    ∙ ap (λ (b : Bool). if b then m else put_at m (take (suc n) p) no_value) (there (suc n) (omega arith) (omega arith))

-- all levels above a path are there
abbrev pub IsReached : Statements → List Step → Type 0
IsReached m p = (k : ℕ) → 0 < k → k < length p → IsSome (map.get m (take k p))

pub set_is : (m : Statements) (p : List Step) (words : List (List ℕ)) → 0 < length p → IsReached m p → set_of m p words ≡ put_at m p (value_set p (value_or_none (map.get m p)) words)
set_is m p words long reached =
    ap (λ (x : Statements). put_at x p (value_set p (value_or_none (map.get m p)) words)) (levels_all m (length p - 1) p (λ k some within. reached k some (omega arith)))

-- a set makes nothing fewer
pub set_grows : (m : Statements) (p : List Step) (words : List (List ℕ)) → size_of m ≤ size_of (set_of m p words)
set_grows m p words =
    let levels = levels_grow m 0 (length p - 1) p in
    let same : 0 + (length p - 1) ≡ length p - 1 = omega arith in
    let more : size_of m ≤ size_of (with_levels m (length p - 1) p) = subst (λ (n : ℕ). size_of m ≤ size_of (with_levels m n p)) same levels in
    omega (arith, more, put_grows (with_levels m (length p - 1) p) p (value_set p (value_or_none (map.get m p)) words))

-- below one child nothing else stands
pub not_below : (p a b : List Step) (s t : Step) → is_below (p ++ t ∷ a) (p ++ s ∷ b) ≡ true → t ≡ s
not_below [] a b s t e = (same_step t s).0 (both (eq_by_cmp step_cmp t s) _ e).0
not_below (x ∷ p) a b s t e = not_below p a b s t (both (eq_by_cmp step_cmp x x) _ e).1
