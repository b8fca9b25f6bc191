-- A statement in a list has others in it where it has children.
use Rattle.std.proofs.Common.{◌≡◌, ℕ, zero, suc, ◌+◌, ◌<◌, ◌≤◌, ◌==◌, true, List, [], ◌∷◌, ◌++◌, length, Option, Some, None, is_some, inl, refl, sym, ap, arith, length-append}
use Rattle.std.specs.List.{flat_map}
use Rattle.std.specs.FinMap as map
use Rattle.cfg_base.specs.declared.path.Step.{Step}
use Rattle.cfg_base.specs.declared.value.Value.{Value}
use Rattle.cfg_tree.specs.Statements.{Statements}
use Rattle.cfg_tree.specs.Children.{children_of}
use Rattle.cfg_tree.specs.Tree.{IsTree}
use Rattle.printing_order.specs.Listed.{Item, item_with, items_below}
use Rattle.printing_order.specs.Listing.{child_items}
use Rattle.printing_order.proofs.ListedLemmas.{Lists, child_there, no_deeper}

-- of a statement that is there one is listed at least
some_item : (path : List Step) (o : Option Value) (inside : List Item) → is_some o ≡ true → 0 < length (item_with path o inside)
some_item path None inside there = cc
some_item path (Some value) inside there = omega arith

-- below a path whose levels are counted down from the most none is listed where it has no children
pub childless : (levels : ℕ) (m : Statements) → IsTree m → (path : List Step) → 10 ≤ levels + length path
    → (length (items_below levels m path) == 0) ≡ (length (children_of m path) == 0)
unfolding items_below
childless zero m tree path deep = ap (λ (steps : List Step). length steps == 0) (sym (no_deeper m tree path (omega (arith, deep))))
childless (suc levels) m tree path deep = by_steps (children_of m path) (λ s listed. child_there m tree path s listed)
  where
    by_steps : (steps : List Step) → ((s : Step) → Lists steps s → is_some (map.get m (path ++ s ∷ [])) ≡ true)
        → (length (flat_map (child_items levels m path) steps) == 0) ≡ (length steps == 0)
    by_steps [] there = refl
    by_steps (s ∷ steps) there =
        grind (
          arith,
          some_item (path ++ s ∷ []) (map.get m (path ++ s ∷ [])) (items_below levels m (path ++ s ∷ [])) (there s (inl refl)),
          length-append (child_items levels m path s) (flat_map (child_items levels m path) steps),
        )
