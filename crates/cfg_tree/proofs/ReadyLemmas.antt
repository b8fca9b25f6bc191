-- When a value is ready to be put. Callers of `put` prove its condition by these.
use Rattle.std.proofs.Common.{◌≡◌, ℕ, ◌<◌, List, [], ◌∷◌, ◌++◌, length, refl, sym, ap, subst, ◌∙◌, Option, Some, None, is_some, arith}
use Rattle.std.specs.List.{IsDistinct}
use Rattle.std.specs.FinMap as map
use Rattle.cfg_base.specs.declared.path.Step.{Step}
use Rattle.cfg_base.specs.declared.value.Value.{Value}
use Rattle.cfg_schema.specs.declared.place.Place.{Place}
use Rattle.cfg_schema.specs.Profile.{row_of, same_word}
use Rattle.cfg_schema.specs.Place.{place_of}
use Rattle.cfg_tree.specs.Statements.{Statements, parent_of, HasParent}
use Rattle.cfg_tree.specs.Typed.{IsTypedPath, AreCounted, IsLevelPath}
use Rattle.cfg_tree.specs.Tree.{ordered_head, step_of, IsOrderBy, IsOrderOf, IsStatementMap, IsTree}
use Rattle.cfg_tree.specs.Change.{IsReady}
use Rattle.cfg_tree.specs.Children.{order_in}
use Rattle.cfg_tree.proofs.PathLemmas.{child_longer, same_ends, split}
use Rattle.cfg_tree.proofs.FollowLemmas.{bare_name, level_counted}

no_names : IsDistinct same_word []
unfolding IsDistinct
no_names = tt

parent_child : (path : List Step) (s : Step) → parent_of (path ++ s ∷ []) ≡ path
parent_child path s =
    let long : 0 < length (path ++ s ∷ []) = omega (arith, child_longer path s)
    in (same_ends (parent_of (path ++ s ∷ [])) path _ s (sym (split (path ++ s ∷ []) long))).0

-- a path that isn't there has no children
pub no_child : (m : Statements) (path : List Step) (s : Step) → IsStatementMap m → 0 < length path → map.get m path ≡ None
    → is_some (map.get m (path ++ s ∷ [])) ≡ is_some {T = Value} None
no_child m path s statements long none = by_child _ refl
  where
    by_child : (o : Option Value) → map.get m (path ++ s ∷ []) ≡ o → is_some o ≡ is_some {T = Value} None
    by_child None e = refl
    by_child (Some v) e =
        let parent = (statements.parents (path ++ s ∷ []) (ap is_some e)).parent (omega (arith, child_longer path s))
        in let there = ap (λ (p : List Step). is_some (map.get m p)) (sym (parent_child path s)) ∙ parent
        in let gone = ap is_some none
        in cc

none_ordered : (m : Statements) (path : List Step) (head : Option (List ℕ)) → IsStatementMap m → 0 < length path → map.get m path ≡ None → IsOrderBy m path head []
none_ordered m path None statements long none = refl
none_ordered m path (Some h) statements long none = record {
  once = no_names;
  each = λ name. sym (no_child m path (step_of h name) statements long none);
}

-- the order that stands at a path, or none where nothing does, is that of its children
pub order_is : (m : Statements) (path : List Step) → IsStatementMap m → 0 < length path → IsOrderOf m path (order_in (map.get m path))
order_is m path statements long = by_value _ refl
  where
    by_value : (o : Option Value) → map.get m path ≡ o → IsOrderOf m path (order_in o)
    by_value None e = none_ordered m path (ordered_head (place_of path)) statements long e
    by_value (Some v) e = statements.orders path v e

-- a value is ready where the path is typed, its parent is there, its order is what stands there, and its words are counted
pub ready : (m : Statements) (path : List Step) (value : Value) → IsStatementMap m → IsTypedPath path → HasParent m path
    → value.order ≡ order_in (map.get m path) → ((here : Place) → place_of path ≡ Some here → AreCounted (row_of here.row).shape value.words)
    → IsReady m path value
ready m path value statements typed parent order words = record {
  parent = parent;
  order = subst (λ (names : List (List ℕ)). IsOrderOf m path names) (sym order) (order_is m path statements parent.steps);
  words = words;
  bare = λ here e headless. bare_name path parent.steps typed here e headless;
}

-- a new statement: its order is empty
pub new_ready : (m : Statements) (path : List Step) (value : Value) → IsStatementMap m → IsTypedPath path → HasParent m path
    → map.get m path ≡ None → value.order ≡ [] → ((here : Place) → place_of path ≡ Some here → AreCounted (row_of here.row).shape value.words)
    → IsReady m path value
new_ready m path value statements typed parent none order words =
    ready m path value statements typed parent (order ∙ sym (ap order_in none)) words

-- a new level has neither words nor an order
pub level_ready : (m : Statements) (path : List Step) (value : Value) → IsStatementMap m → IsLevelPath path → HasParent m path
    → map.get m path ≡ None → value.order ≡ [] → value.words ≡ [] → IsReady m path value
level_ready m path value statements level parent none order words =
    new_ready m path value statements level.typed parent none order
    (λ here e. subst (λ (ws : List (List ℕ)). AreCounted (row_of here.row).shape ws) (sym words) (level_counted _ (level.opens here e)))

-- a statement that is there: its order stays
pub kept_ready : (m : Statements) (path : List Step) (old value : Value) → IsTree m → map.get m path ≡ Some old
    → value.order ≡ old.order → ((here : Place) → place_of path ≡ Some here → AreCounted (row_of here.row).shape value.words)
    → IsReady m path value
kept_ready m path old value tree found order words =
    ready m path value tree.statements (tree.typed.paths path (ap is_some found)) (tree.statements.parents path (ap is_some found))
    (order ∙ sym (ap order_in found)) words

-- words that are counted at the place of a path
pub counted_there : (path steps : List Step) (here : Place) (words : List (List ℕ)) → steps ≡ path → Some here ≡ place_of steps
    → AreCounted (row_of here.row).shape words → (there : Place) → place_of path ≡ Some there → AreCounted (row_of there.row).shape words
counted_there path steps here words e placed counted there f =
    subst (λ (p : Place). AreCounted (row_of p.row).shape words) (same_place here there (placed ∙ ap (λ (s : List Step). place_of s) e ∙ f)) counted
  where
    same_place : (p q : Place) → Some p ≡ Some q → p ≡ q
    same_place p q g = cc
