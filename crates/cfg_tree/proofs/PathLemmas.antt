-- A path, its parent and its last step; and what a map answers after a put and a change of an order.
use Rattle.std.proofs.Common.{◌≡◌, ◌≢◌, ℕ, ◌+◌, ◌-◌, ◌<◌, Bool, true, false, cond, List, [], ◌∷◌, ◌++◌, length, take, get_or, refl, sym, ap, ◌∙◌, Option, Some, None, option_map, arith, length-append}
use Rattle.std.specs.FinMap as map
use Rattle.std.specs.Ordering.{eq_by_cmp}
use Rattle.std.proofs.lemmas.List.{take_more}
use Rattle.cfg_base.specs.Order.{path_cmp, paths_total}
use Rattle.cfg_base.specs.declared.path.Step.{Step}
use Rattle.cfg_base.specs.declared.value.Value.{Value}
use Rattle.cfg_tree.specs.Statements.{Statements, parent_of, last_of, no_step}
use Rattle.cfg_tree.specs.Change.{with_order, with_order_of}
use Rattle.cfg_tree.proofs.MapLemmas.{same_path}

take_all : {X : Type 0} (xs : List X) → take (length xs) xs ≡ xs
take_all [] = refl
take_all (x ∷ xs) = ap (λ (ys : List _). x ∷ ys) (take_all xs)

split_at : (path : List Step) (n : ℕ) → length path ≡ n + 1 → path ≡ take n path ++ get_or path n no_step ∷ []
split_at path n e =
    sym (take_all path)
    ∙ ap (λ (k : ℕ). take k path) e
    ∙ take_more path n no_step (omega (arith, e))

-- a path that has steps is its parent and its last step
pub split : (path : List Step) → 0 < length path → path ≡ parent_of path ++ last_of path ∷ []
split path h = split_at path (length path - 1) (omega arith)

-- the last of two lists that end in one element each
snoc_tail : (a b : List Step) (s t : Step) → a ++ s ∷ [] ≡ b ++ t ∷ [] → (a ≡ b) × (s ≡ t)
snoc_tail [] [] s t e = (refl, ap (λ (xs : List Step). get_or xs 0 no_step) e)
snoc_tail [] (y ∷ b) s t e = absurd (longer (ap (λ (xs : List Step). length xs) e))
  where
    longer : length {A = Step} (s ∷ []) ≡ length {A = Step} (y ∷ (b ++ t ∷ [])) → ⊥
    longer k = omega (arith, k, length-append b (t ∷ []))
snoc_tail (x ∷ a) [] s t e = absurd (longer (ap (λ (xs : List Step). length xs) e))
  where
    longer : length {A = Step} (x ∷ (a ++ s ∷ [])) ≡ length {A = Step} (t ∷ []) → ⊥
    longer k = omega (arith, k, length-append a (s ∷ []))
snoc_tail (x ∷ a) (y ∷ b) s t e =
    let parts : (x ≡ y) × (a ++ s ∷ [] ≡ b ++ t ∷ []) = (cc, cc)
    in let rest = snoc_tail a b s t parts.1
    in (cc, rest.1)

pub same_ends : (a b : List Step) (s t : Step) → a ++ s ∷ [] ≡ b ++ t ∷ [] → (a ≡ b) × (s ≡ t)
same_ends = snoc_tail

-- a child is longer than its parent
pub child_longer : (a : List Step) (s : Step) → length (a ++ s ∷ []) ≡ length a + 1
child_longer a s = length-append a (s ∷ [])

pub child_differs : (a : List Step) (s : Step) → a ++ s ∷ [] ≢ a
child_differs a s e = let k = ap (λ (xs : List Step). length xs) e in omega (arith, k, child_longer a s)

-- whether two paths are one
pub same_or_not : (p q : List Step) (P : Type 0) → (p ≡ q → P) → (p ≢ q → P) → P
same_or_not p q P yes_ no_ = by_test _ refl
  where
    by_test : (b : Bool) → eq_by_cmp path_cmp p q ≡ b → P
    by_test true e = yes_ ((same_path p q).0 e)
    by_test false e = no_ (λ same_paths. let t = (same_path p q).1 same_paths in absurd (clash t e))
      where
        clash : eq_by_cmp path_cmp p q ≡ true → eq_by_cmp path_cmp p q ≡ false → ⊥
        clash t f = cc

-- what a map answers after a put
pub get_here : (m : Statements) (p : List Step) (v : Value) → map.get (map.insert m p v) p ≡ Some v
get_here m p v =
    map.get-insert paths_total m p v p ∙ ap (λ (b : Bool). cond b (Some v) (map.get m p)) ((same_path p p).1 refl)

apart : (p q : List Step) (b : Bool) → eq_by_cmp path_cmp q p ≡ b → q ≢ p → b ≡ false
apart p q true e h = absurd (h ((same_path q p).0 e))
apart p q false e h = refl

pub get_other : (m : Statements) (p q : List Step) (v : Value) → q ≢ p → map.get (map.insert m p v) q ≡ map.get m q
get_other m p q v h =
    map.get-insert paths_total m p v q ∙ ap (λ (b : Bool). cond b (Some v) (map.get m q)) (apart p q _ refl h)

-- a value with its order changed
abbrev pub renamed : (List (List ℕ) → List (List ℕ)) → Value → Value
renamed change v = record v { order = change v.order }

-- what a map answers after a change of an order
pub order_at : (m : Statements) (a : List Step) (f : List (List ℕ) → List (List ℕ))
    → map.get (with_order m a f) a ≡ option_map (renamed f) (map.get m a)
order_at m a f = by_value _ refl
  where
    by_value : (o : Option Value) → map.get m a ≡ o → map.get (with_order_of m a f o) a ≡ option_map (renamed f) o
    by_value None e = e
    by_value (Some v) e = get_here m a (renamed f v)

pub order_other : (m : Statements) (a q : List Step) (f : List (List ℕ) → List (List ℕ)) → q ≢ a
    → map.get (with_order m a f) q ≡ map.get m q
order_other m a q f h = by_value (map.get m a)
  where
    by_value : (o : Option Value) → map.get (with_order_of m a f o) q ≡ map.get m q
    by_value None = refl
    by_value (Some v) = get_other m a q (renamed f v) h
