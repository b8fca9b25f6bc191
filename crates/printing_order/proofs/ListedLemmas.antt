-- The children of a path in a tree, listed once each, and what is below a path.
use Rattle.std.proofs.Common.{◌≡◌, ◌<◌, ◌≤◌, Bool, true, false, cond, List, [], ◌∷◌, ◌++◌, length, filter, refl, sym, ap, subst, ◌∙◌, ◌⊎◌, inl, inr, Option, Some, None, is_some, arith, append-nil}
use Rattle.std.specs.FinMap as map
use Rattle.std.specs.Ordering.{eq_by_cmp}
use Rattle.std.proofs.lemmas.List.{append_assoc}
use Rattle.cfg_base.specs.Order.{step_cmp}
use Rattle.cfg_base.specs.declared.path.Step.{Step}
use Rattle.cfg_base.specs.declared.value.Value.{Value}
use Rattle.cfg_schema.specs.declared.place.Place.{Place}
use Rattle.cfg_schema.specs.Place.{place_of}
use Rattle.cfg_schema.proofs.LevelLemmas.{path_most}
use Rattle.cfg_tree.specs.Statements.{Statements, parent_of, last_of}
use Rattle.cfg_tree.specs.Tree.{IsStatementMap, IsTree}
use Rattle.cfg_tree.specs.Children.{step_if, children_at, children_of}
use Rattle.cfg_tree.proofs.MapLemmas.{same_step}
use Rattle.cfg_tree.proofs.PathLemmas.{split, same_ends, child_longer}
use Rattle.cfg_tree.proofs.ReadyLemmas.{no_child}
use Rattle.cfg_tree.proofs.OnceLemmas.{children_once}

-- a step is among these
abbrev pub Lists : List Step → Step → Type 0
Lists [] s = ⊥
Lists (t ∷ steps) s = (s ≡ t) ⊎ Lists steps s

-- no two steps are one
abbrev pub Differ : List Step → Type 0
Differ [] = Unit {0}
Differ (s ∷ steps) = (Lists steps s → ⊥) × Differ steps

-- what is listed once
is_self : (s : Step) → eq_by_cmp step_cmp s s ≡ true
is_self s = (same_step s s).1 refl

kept_length : (s : Step) (steps : List Step) → Lists steps s → 0 < length (filter (eq_by_cmp step_cmp s) steps)
kept_length s [] l = absurd l
kept_length s (t ∷ steps) l =
    elim l [
      | inl e ↦
          let same = ap (λ (x : Step). eq_by_cmp step_cmp s x) (sym e) ∙ is_self s
          in subst (λ (b : Bool). 0 < length (cond b (t ∷ filter (eq_by_cmp step_cmp s) steps) (filter (eq_by_cmp step_cmp s) steps))) (sym same) (omega arith)
      | inr r ↦ more (eq_by_cmp step_cmp s t) (kept_length s steps r)
    ]
  where
    more : (b : Bool) → 0 < length (filter (eq_by_cmp step_cmp s) steps)
        → 0 < length (cond b (t ∷ filter (eq_by_cmp step_cmp s) steps) (filter (eq_by_cmp step_cmp s) steps))
    more true h = omega arith
    more false h = h

listed_kept : (s : Step) (steps : List Step) → 0 < length (filter (eq_by_cmp step_cmp s) steps) → Lists steps s
listed_kept s [] h = absurd (omega (arith, h))
listed_kept s (t ∷ steps) h = by_test _ refl (listed_kept s steps) h
  where
    by_test : (b : Bool) → eq_by_cmp step_cmp s t ≡ b → (0 < length (filter (eq_by_cmp step_cmp s) steps) → Lists steps s)
        → 0 < length (cond b (t ∷ filter (eq_by_cmp step_cmp s) steps) (filter (eq_by_cmp step_cmp s) steps)) → Lists (t ∷ steps) s
    by_test true e go h = inl ((same_step s t).0 e)
    by_test false e go h = inr (go h)

abbrev AtMostOnce : List Step → Type 0
AtMostOnce steps = (s : Step) → length (filter (eq_by_cmp step_cmp s) steps) ≤ 1

differ : (steps : List Step) → AtMostOnce steps → Differ steps
differ [] h = tt
differ (s ∷ steps) h = (apart, differ steps fewer)
  where
    apart : Lists steps s → ⊥
    apart l =
        let some = kept_length s steps l
        in let twice = subst (λ (b : Bool). length (cond b (s ∷ filter (eq_by_cmp step_cmp s) steps) (filter (eq_by_cmp step_cmp s) steps)) ≤ 1) (is_self s) (h s)
        in omega (arith, some, twice)

    fewer : AtMostOnce steps
    fewer t = by_test (eq_by_cmp step_cmp t s) (h t)
      where
        by_test : (b : Bool) → length (cond b (s ∷ filter (eq_by_cmp step_cmp t) steps) (filter (eq_by_cmp step_cmp t) steps)) ≤ 1
            → length (filter (eq_by_cmp step_cmp t) steps) ≤ 1
        by_test true g = omega (arith, g)
        by_test false g = g

step_if_few : (there : Bool) (s : Step) → length (step_if there s) ≤ 1
step_if_few true s = omega arith
step_if_few false s = omega arith

some_there : (there : Bool) (s : Step) → 0 < length (step_if there s) → there ≡ true
some_there true s h = refl
some_there false s h = absurd (omega (arith, h))

module _ (m : Statements) (tree : IsTree m) (p : List Step) where
  pub children_differ : Differ (children_of m p)
  children_differ =
      differ (children_of m p) (λ s. subst (λ (ss : List Step). length ss ≤ 1) (sym (children_once m p s tree)) (step_if_few _ s))

  pub child_there : (s : Step) → Lists (children_of m p) s → is_some (map.get m (p ++ s ∷ [])) ≡ true
  child_there s l = some_there _ s (subst (λ (ss : List Step). 0 < length ss) (children_once m p s tree) (kept_length s (children_of m p) l))

  pub there_listed : (s : Step) → is_some (map.get m (p ++ s ∷ [])) ≡ true → Lists (children_of m p) s
  there_listed s e =
      let one = children_once m p s tree ∙ ap (λ (b : Bool). step_if b s) e
      in listed_kept s (children_of m p) (subst (λ (ss : List Step). 0 < length ss) (sym one) (omega arith))

  -- a path is no longer than the rows lead
  pub no_deeper : 10 ≤ length p → children_of m p ≡ []
  no_deeper long = by_place (place_of p) refl
    where
      by_place : (o : Option Place) → place_of p ≡ o → children_at m p o ≡ []
      by_place None e = refl
      by_place (Some here) e = let most = (path_most p here e).2 in absurd (omega (arith, most, long))

-- what is below a path that isn't there isn't there
none_of : (o : Option Value) → is_some o ≡ is_some {T = Value} None → o ≡ None
none_of None e = refl
none_of (Some v) e = cc

pub none_below : (m : Statements) (rest path : List Step) → IsStatementMap m → 0 < length path → map.get m path ≡ None → map.get m (path ++ rest) ≡ None
none_below m [] path statements long e = ap (λ (q : List Step). map.get m q) (append-nil path) ∙ e
none_below m (t ∷ rest) path statements long e =
    ap (λ (q : List Step). map.get m q) (sym (append_assoc path (t ∷ []) rest))
    ∙ none_below m rest (path ++ t ∷ []) statements (omega (arith, child_longer path t)) (none_of _ (no_child m path t statements long e))

-- the child of a path
pub parent_child : (p : List Step) (s : Step) → (parent_of (p ++ s ∷ []) ≡ p) × (last_of (p ++ s ∷ []) ≡ s)
parent_child p s =
    let long : 0 < length (p ++ s ∷ []) = omega (arith, child_longer p s)
    in same_ends (parent_of (p ++ s ∷ [])) p (last_of (p ++ s ∷ [])) s (sym (split (p ++ s ∷ []) long))
