-- The lines of statements in a list are those of their paths.
use Rattle.std.proofs.Common.{◌≡◌, ◌+◌, ◌≤◌, ◌==◌, zero, suc, ℕ, Bool, true, List, [], ◌∷◌, ◌++◌, length, Option, Some, None, is_some, inl, inr, refl, sym, ap, ◌∙◌, arith}
use Rattle.std.specs.List.{flat_map}
use Rattle.std.specs.FinMap as map
use Rattle.std.proofs.lemmas.List.Concat.{flat_map-append}
use Rattle.cfg_base.specs.declared.path.Step.{Step}
use Rattle.cfg_base.specs.declared.value.Value.{Value}
use Rattle.cfg_tree.specs.Statements.{Statements}
use Rattle.cfg_tree.specs.Children.{children_of}
use Rattle.cfg_tree.specs.Tree.{IsTree}
use Rattle.cfg_tree.proofs.PathLemmas.{child_longer}
use Rattle.printing_order.specs.Listed.{Item, item_with, items_below}
use Rattle.printing_order.specs.Listing.{child_items}
use Rattle.printing_order.proofs.ChildlessLemmas.{childless}
use Rattle.printing_order.proofs.ListedLemmas.{Lists, child_there}
use Rattle.set_text.specs.declared.groups.Groups.{Groups}
use Rattle.set_text.specs.Printed.{Line, printed_lines, with_below, each_below, paths_below, sets_in, deactivates_in, protects_in, sets_of, deactivates_of, protects_of}
use Rattle.set_text.specs.Groups.{item_sets, item_deactivates, item_protects, AreItems, ArePaths}

pub paths_below_more : (levels : ℕ) (m : Statements) (path : List Step) → paths_below (suc levels) m path ≡ each_below (paths_below levels m) path (children_of m path)
unfolding paths_below
paths_below_more levels m path = refl

module _ (m : Statements) (tree : IsTree m) (f : Item → List Line) (g : List Step → List Line)
    (agree : (path : List Step) (value : Value) (inside : ℕ) → map.get m path ≡ Some value → (inside == 0) ≡ (length (children_of m path) == 0)
    → f (record { path = path; value = value; inside = inside }) ≡ g path) where
  -- a statement with those that stand in it
  with_lines : (path : List Step) (inside : List Item) (paths : List (List Step)) (o : Option Value) → map.get m path ≡ o → is_some o ≡ true
      → (length inside == 0) ≡ (length (children_of m path) == 0) → flat_map f inside ≡ flat_map g paths
      → flat_map f (item_with path o inside) ≡ flat_map g (path ∷ paths)
  with_lines path inside paths None found there held same = cc
  with_lines path inside paths (Some value) found there held same =
      ap (λ (ls : List Line). ls ++ flat_map f inside) (agree path value (length inside) found held)
      ∙ ap (λ (ls : List Line). g path ++ ls) same

  pub same_lines : (levels : ℕ) (path : List Step) → 10 ≤ levels + length path → flat_map f (items_below levels m path) ≡ flat_map g (paths_below levels m path)
  unfolding items_below paths_below
  same_lines zero path deep = refl
  same_lines (suc levels) path deep = by_steps (children_of m path) (λ s listed. child_there m tree path s listed) (λ s. same_lines levels (path ++ s ∷ []) (deeper s))
    where
      deeper : (s : Step) → 10 ≤ levels + length (path ++ s ∷ [])
      deeper s = omega (arith, deep, child_longer path s)

      by_steps : (steps : List Step) → ((s : Step) → Lists steps s → is_some (map.get m (path ++ s ∷ [])) ≡ true)
          → ((s : Step) → flat_map f (items_below levels m (path ++ s ∷ [])) ≡ flat_map g (paths_below levels m (path ++ s ∷ [])))
          → flat_map f (flat_map (child_items levels m path) steps) ≡ flat_map g (each_below (paths_below levels m) path steps)
      by_steps [] there below = refl
      by_steps (s ∷ steps) there below =
          flat_map-append f (child_items levels m path s) (flat_map (child_items levels m path) steps)
          ∙ ap (λ (ls : List Line). ls ++ flat_map f (flat_map (child_items levels m path) steps))
          (with_lines (path ++ s ∷ []) (items_below levels m (path ++ s ∷ [])) (paths_below levels m (path ++ s ∷ [])) (map.get m (path ++ s ∷ [])) refl (there s (inl refl))
          (childless levels m tree (path ++ s ∷ []) (deeper s)) (below s))
          ∙ ap (λ (ls : List Line). flat_map g (with_below (paths_below levels m) (path ++ s ∷ [])) ++ ls) (by_steps steps (λ t listed. there t (inr listed)) below)
          ∙ sym (flat_map-append g (with_below (paths_below levels m) (path ++ s ∷ [])) (each_below (paths_below levels m) path steps))

-- what is put of the statements below a path in a list is put of their paths
pub items_printed : (levels : ℕ) (m : Statements) → IsTree m → (path : List Step) → 10 ≤ levels + length path → (a b : Groups) → AreItems (items_below levels m path) a b
    → ArePaths m (paths_below levels m path) a b
items_printed levels m tree path deep a b put = record {
  sets_put = put.sets_put
      ∙ ap (λ (ls : List Line). a.sets.items ++ printed_lines ls)
      (same_lines m tree item_sets (sets_of m)
      (λ p v n found held. ap (λ (c : Bool). sets_in p c (Some v)) held ∙ ap (sets_in p (length (children_of m p) == 0)) (sym found)) levels path deep);
  deactivates_put = put.deactivates_put
      ∙ ap (λ (ls : List Line). a.deactivates.items ++ printed_lines ls)
      (same_lines m tree item_deactivates (deactivates_of m) (λ p v n found held. ap (deactivates_in p) (sym found)) levels path deep);
  protects_put = put.protects_put
      ∙ ap (λ (ls : List Line). a.protects.items ++ printed_lines ls)
      (same_lines m tree item_protects (protects_of m) (λ p v n found held. ap (protects_in p) (sym found)) levels path deep);
}
