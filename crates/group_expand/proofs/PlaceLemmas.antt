-- The place of a path, by that of its parent.
use Rattle.std.proofs.Common.{◌≡◌, ℕ, ◌<◌, List, [], ◌∷◌, ◌++◌, length, length-append, sym, ap, ◌∙◌, arith, Option}
use Rattle.cfg_base.specs.declared.path.Step.{Step}
use Rattle.cfg_schema.specs.declared.place.Place.{Place}
use Rattle.cfg_schema.specs.Place.{top_place, place_after, and_then, place_of}
use Rattle.cfg_tree.specs.Statements.{parent_of, last_of}
use Rattle.cfg_tree.specs.Tree.{ordered_head}
use Rattle.cfg_tree.proofs.PathLemmas.{split, same_ends}
use Rattle.cfg_tree.proofs.TypedLemmas.{place_snoc}
use Rattle.group_expand.specs.Node.{Node}
use Rattle.group_expand.specs.Level.{Ranked, Level}
use Rattle.group_expand.specs.Runs.{order_for}
use Rattle.group_expand.specs.Row.{StatementView}
use Rattle.group_expand.specs.Placed.{given_for}
use Rattle.group_expand.proofs.WalkLemmas.{nothing_ordered}

-- a path's place is that of its last step below its parent's
pub place_is : (path : List Step) (above : Option Place) (step : Step) → 0 < length path → step ≡ last_of path → above ≡ place_of (parent_of path)
    → and_then (λ here. place_after here step) above ≡ place_of path
place_is path above step long is e =
    ap (and_then (λ (here : Place). place_after here step)) e
    ∙ ap (λ (s : Step). and_then (λ (here : Place). place_after here s) (place_of (parent_of path))) is
    ∙ sym (place_snoc (parent_of path) (last_of path) top_place)
    ∙ ap (λ (p : List Step). place_of p) (sym (split path long))

-- the order of a level by a place that is right where something stands below
pub order_by_place : (place right : Option Place) (own : Option Node) (children : List Node) (level : Level)
    → (0 < length children → place ≡ right) → (0 < length level.plain → place ≡ right) → order_for (ordered_head place) own children level ≡ order_for (ordered_head right) own children level
order_by_place place right own children level f g = by_lists children level.plain f g
  where
    by_lists : (ns : List Node) (rs : List Ranked) → (0 < length ns → place ≡ right) → (0 < length rs → place ≡ right)
        → order_for (ordered_head place) own ns (record { plain = rs; wild = level.wild }) ≡ order_for (ordered_head right) own ns (record { plain = rs; wild = level.wild })
    by_lists (n ∷ ns) rs f g = ap (λ (o : Option Place). order_for (ordered_head o) own (n ∷ ns) (record { plain = rs; wild = level.wild })) (f (omega arith))
    by_lists [] (r ∷ rs) f g = ap (λ (o : Option Place). order_for (ordered_head o) own [] (record { plain = r ∷ rs; wild = level.wild })) (g (omega arith))
    by_lists [] [] f g = nothing_ordered (ordered_head place) own level.wild ∙ sym (nothing_ordered (ordered_head right) own level.wild)

-- a path that is another one with one more step
pub longer : (path p : List Step) (s : Step) → path ≡ p ++ s ∷ [] → 0 < length path
longer path p s is = let k = length-append p (s ∷ []) in let l = ap (λ (q : List Step). length q) is in omega (arith, k, l)

pub ends : (path p : List Step) (s : Step) → path ≡ p ++ s ∷ [] → (p ≡ parent_of path) × (s ≡ last_of path)
ends path p s is = same_ends p (parent_of path) s (last_of path) (sym is ∙ split path (longer path p s is))

pub given_by_ends : (row : List StatementView) (n : ℕ) (path p : List Step) (s : Step) → path ≡ p ++ s ∷ [] → given_for row n (parent_of path) (last_of path) ≡ given_for row n p s
given_by_ends row n path p s is =
    let e = ends path p s is
    in ap (λ (q : List Step). given_for row n q (last_of path)) (sym e.0) ∙ ap (λ (t : Step). given_for row n p t) (sym e.1)
