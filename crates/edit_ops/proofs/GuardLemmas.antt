-- The search for a protected statement below a path, one statement after the other.
use Rattle.std.proofs.Common.{◌≡◌, ◌≢◌, ℕ, ◌≤◌, ◌<◌, Bool, true, false, cond, ◌||◌, List, [], ◌∷◌, length, take, filter, refl, sym, ap, subst, ◌∙◌, Some, is_some, arith}
use Rattle.std.specs.Prelude.{IsSome}
use Rattle.std.specs.List.{list_any}
use Rattle.std.specs.FinMap as map
use Rattle.std.specs.BTreeMap.Comparable.{le_lt_trans}
use Rattle.std.specs.declared.cmp.Ordering.{Ordering}
use Rattle.std.specs.declared.cmp.Ordering.TheVariants.{Less, Equal, Greater}
use Rattle.std.specs.Ordering.{eq_by_cmp, is_eq, is_lt, is_le, ordering_reverse}
use Rattle.cfg_base.specs.Order.{path_cmp, paths_total}
use Rattle.cfg_base.specs.declared.path.Step.{Step}
use Rattle.cfg_base.specs.declared.value.Value.{Value}
use Rattle.cfg_tree.specs.Statements.{Statements, is_below}
use Rattle.cfg_tree.specs.Tree.{IsTree}
use Rattle.cfg_tree.specs.After.{IsNext}
use Rattle.cfg_tree.proofs.MapLemmas.{path_same, same_path}
use Rattle.cfg_tree.proofs.TypedLemmas.{not_both}
use Rattle.cfg_tree.proofs.BelowLemmas.{below_self, below_le, below_between}
use Rattle.edit_ops.specs.Block.{IsProtected}
use Rattle.edit_ops.specs.Made.{IsOpen, IsOpenBelow, IsFirstBelow}

-- a path is after another one
abbrev pub is_after : List Step → List Step → Bool
is_after before k = is_lt (path_cmp before k)

-- how many statements stand after a path
abbrev pub count_after : Statements → List Step → ℕ
count_after m before = length (filter (is_after before) (map.keys m))

less_is : (o : Ordering) → is_lt o ≡ true → o ≡ Less
less_is Less e = refl
less_is Equal e = cc
less_is Greater e = cc

less_le : (o : Ordering) → o ≡ Less → is_le o ≡ true
less_le Less e = refl
less_le Equal e = cc
less_le Greater e = cc

before_trans : (a b c : List Step) → path_cmp a b ≡ Less → path_cmp b c ≡ Less → path_cmp a c ≡ Less
before_trans a b c e f = le_lt_trans paths_total a b c (less_le _ e) f

after_both : (p k x : List Step) → path_cmp p k ≡ Less → is_after k x ≡ true → is_after p x ≡ true
after_both p k x e f = ap is_lt (before_trans p k x e (less_is _ f))

fewer_by : (a b : Bool) (x : List Step) (xs ys : List (List Step)) → (b ≡ true → a ≡ true) → length ys ≤ length xs
    → length (cond b (x ∷ ys) ys) ≤ length (cond a (x ∷ xs) xs)
fewer_by true true x xs ys h e = omega (arith, e)
fewer_by true false x xs ys h e = omega (arith, e)
fewer_by false true x xs ys h e = let k = h refl in cc
fewer_by false false x xs ys h e = e

less_by : (a b : Bool) (x : List Step) (xs ys : List (List Step)) → (b ≡ true → a ≡ true) → length ys < length xs
    → length (cond b (x ∷ ys) ys) < length (cond a (x ∷ xs) xs)
less_by true true x xs ys h e = omega (arith, e)
less_by true false x xs ys h e = omega (arith, e)
less_by false true x xs ys h e = let k = h refl in cc
less_by false false x xs ys h e = e

one_less_by : (a b : Bool) (x : List Step) (xs ys : List (List Step)) → a ≡ true → b ≡ false → length ys ≤ length xs
    → length (cond b (x ∷ ys) ys) < length (cond a (x ∷ xs) xs)
one_less_by true true x xs ys h k e = cc
one_less_by true false x xs ys h k e = omega (arith, e)
one_less_by false b x xs ys h k e = cc

fewer : (p k : List Step) (ks : List (List Step)) → path_cmp p k ≡ Less → length (filter (is_after k) ks) ≤ length (filter (is_after p) ks)
fewer p k [] e = omega arith
fewer p k (x ∷ ks) e =
    fewer_by (is_after p x) (is_after k x) x (filter (is_after p) ks) (filter (is_after k) ks) (after_both p k x e) (fewer p k ks e)

tied_not_after : (k x : List Step) → k ≡ x → is_after k x ≡ false
tied_not_after k x e = ap is_lt (equal_of _ ((same_path k x).1 e))
  where
    equal_of : (o : Ordering) → is_eq o ≡ true → o ≡ Equal
    equal_of Less f = cc
    equal_of Equal f = refl
    equal_of Greater f = cc

less : (p k : List Step) (ks : List (List Step)) → path_cmp p k ≡ Less → list_any (eq_by_cmp path_cmp k) ks ≡ true
    → length (filter (is_after k) ks) < length (filter (is_after p) ks)
less p k [] e h = cc
less p k (x ∷ ks) e h = by_test _ refl h (less p k ks e)
  where
    by_test : (b : Bool) → eq_by_cmp path_cmp k x ≡ b → (b || list_any (eq_by_cmp path_cmp k) ks) ≡ true
        → (list_any (eq_by_cmp path_cmp k) ks ≡ true → length (filter (is_after k) ks) < length (filter (is_after p) ks))
        → length (filter (is_after k) (x ∷ ks)) < length (filter (is_after p) (x ∷ ks))
    by_test true same there go =
        one_less_by (is_after p x) (is_after k x) x (filter (is_after p) ks) (filter (is_after k) ks)
        (ap is_lt (subst (λ (y : List Step). path_cmp p y ≡ Less) ((same_path k x).0 same) e))
        (tied_not_after k x ((same_path k x).0 same))
        (fewer p k ks e)
    by_test false same there go =
        less_by (is_after p x) (is_after k x) x (filter (is_after p) ks) (filter (is_after k) ks) (after_both p k x e) (go there)

-- the next statement leaves fewer after it
pub fewer_after : (m : Statements) (before next : List Step) (value : Value) → IsNext m before next value → count_after m next < count_after m before
fewer_after m before next value n =
    less before next (map.keys m) n.after (sym (map.contains_key-keys m next) ∙ ap is_some n.found)

-- every protected statement below a path, and after it, is after what was passed
pub record Passed (m : Statements) (path before : List Step) : Type 0 where
  pub below : is_below path before ≡ true
  pub rest : (other : List Step) → is_below path other ≡ true → path_cmp path other ≡ Less → IsProtected m other → path_cmp before other ≡ Less

pub passed_none : (m : Statements) (path : List Step) → Passed m path path
passed_none m path = record { below = below_self path; rest = λ other below after is_protected. after }

there : (m : Statements) (other : List Step) → IsProtected m other → IsSome (map.get m other)
there m other p = ap is_some p.found

three : (a b : List Step) (P : Type 0) → path_cmp b a ≢ Less → (a ≡ b → P) → (path_cmp a b ≡ Less → P) → P
three a b P h same less = by_order (path_cmp a b) refl
  where
    by_order : (o : Ordering) → path_cmp a b ≡ o → P
    by_order Less e = less e
    by_order Equal e = same (path_same a b e)
    by_order Greater e = absurd (h (paths_total.antisymm b a ∙ ap ordering_reverse e))

at_least : (m : Statements) (path before next : List Step) (value : Value) → Passed m path before → IsNext m before next value → is_le (path_cmp path next) ≡ true
at_least m path before next value passed n =
    less_le _ (le_lt_trans paths_total path before next (below_le path before passed.below) n.after)

pub none_beyond : (m : Statements) (path before next : List Step) (value : Value) → Passed m path before → IsNext m before next value
    → is_below path next ≡ false → IsOpenBelow m path
none_beyond m path before next value passed n out other below after p =
    three next other ⊥ (n.first other (there m other p) (passed.rest other below after p))
    (λ same. not_both _ below (ap (is_below path) (sym same) ∙ out))
    (λ less. not_both _ (below_between path next other (at_least m path before next value passed n) less below) out)

pub first_found : (m : Statements) (path before next : List Step) (value : Value) → Passed m path before → IsNext m before next value
    → is_below path next ≡ true → value.protected ≡ true → IsFirstBelow m path next
first_found m path before next value passed n below mark = record {
  below = below;
  after = le_lt_trans paths_total path before next (below_le path before passed.below) n.after;
  is_protected = record { value = value; found = n.found; mark = mark };
  first = λ other below after p. n.first other (there m other p) (passed.rest other below after p);
}

pub passed_more : (m : Statements) (path before next : List Step) (value : Value) → Passed m path before → IsNext m before next value
    → is_below path next ≡ true → value.protected ≡ false → Passed m path next
passed_more m path before next value passed n below mark = record {
  below = below;
  rest = λ other under after p. three next other (path_cmp next other ≡ Less) (n.first other (there m other p) (passed.rest other under after p))
      (λ same. absurd (unmarked p.value (sym n.found ∙ ap (map.get m) same ∙ p.found) p.mark))
      (λ less. less);
}
  where
    unmarked : (other : Value) → Some value ≡ Some other → other.protected ≡ true → ⊥
    unmarked other e f = let same : value ≡ other = cc in let k = sym mark ∙ ap (λ (v : Value). v.protected) same ∙ f in cc

-- the top is no statement, so it isn't protected
pub top_open : (m : Statements) (path : List Step) → IsTree m → IsOpen m 0 path
top_open m path tree k h p = none (subst (λ (i : ℕ). map.get m (take i path) ≡ Some p.value) (zero_of h) p.found)
  where
    zero_of : k ≤ 0 → k ≡ 0
    zero_of e = omega (arith, e)

    none : map.get m (take 0 path) ≡ Some p.value → ⊥
    none e = let f = sym tree.statements.top ∙ e in cc
