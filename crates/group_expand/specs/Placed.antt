-- The nodes of the row at paths, and the offers for a step. For the inner functions.
use Rattle.std.specs.Prelude.{◌≡◌, ℕ, true, false, List, [], ◌∷◌, ◌++◌, map, filter, Option, Some, None, if◌then◌else◌}
use Rattle.std.specs.FinMap as finite
use Rattle.std.specs.List.{AllByRecursion}
use Rattle.cfg_base.specs.declared.path.Step.{Step}
use Rattle.cfg_base.specs.declared.value.Value.{Value}
use Rattle.cfg_tree.specs.Statements.{Statements}
use Rattle.cfg_tree.specs.Tree.{IsTree}
use Rattle.cfg_tree.specs.Children.{steps_below}
use Rattle.group_expand.specs.Live.{Look, is_live}
use Rattle.group_expand.specs.Sources as sources
use Rattle.cfg_tree.specs.declared.full.Given.{Given}
use Rattle.group_expand.specs.Sources.{groups_step, is_plain}
use Rattle.group_expand.specs.Listed.{entry_and, listed}
use Rattle.group_expand.specs.Made.{given_at}
use Rattle.group_expand.specs.Runs.{steps_of, begins_own, run_in}
use Rattle.group_expand.specs.Front.{raw, live_kids, steps_at}
use Rattle.group_expand.specs.Row.{StatementView, Counted, Ordered, pairs_of}
use Rattle.group_expand.specs.Node.{Node, inside_of}
use Rattle.group_expand.specs.Offer.{Offer, own_offer, group_offer}
use Rattle.group_expand.specs.Level.{Level, is_at, Climbs}

-- the map whose statements stand in a row
abbrev pub map_of : List StatementView → Statements
map_of row = finite.from_entries (pairs_of row)

-- a value, where there is one
abbrev pub value_in : Option Value → Value
value_in None = record { inactive = false; protected = false; order = []; words = [] }
value_in (Some value) = value

-- the node at a path
abbrev pub node_at : Look → List StatementView → List Step → Node
node_at look row path = record { path = path; value = value_in (look path); below = inside_of path row }

-- the live statements right below a path, as nodes
abbrev pub kids_at : Look → (List Step → List Step) → List StatementView → List Step → List Node
kids_at look kids row path = map (λ s. node_at look row (path ++ s ∷ [])) (live_kids look kids path)

-- what a source offers for a step
abbrev pub offer_at : Look → List StatementView → Step → sources.Source → Offer
offer_at look row step x = group_offer x.group step (node_at look row x.from)

-- the offers for a path's last step: the path's own statement where it is live, and then its sources
abbrev pub run_at : Look → (List Step → List Step) → List StatementView → List Step → Step → List Offer
run_at look kids row path step =
    (if is_live look (path ++ step ∷ []) then own_offer (node_at look row (path ++ step ∷ [])) ∷ [] else [])
    ++ map (offer_at look row step) (raw look kids (path ++ step ∷ []))

-- a level has just the offers for a step of a plain path, and its own statement first where that is live
pub record IsRight
    (look : Look) (kids : List Step → List Step) (row : List StatementView) (level : Level) (path : List Step) (step : Step) : Type 0 where
  pub run : run_in step level.wild (filter (is_at step) level.plain) ≡ run_at look kids row path step
  pub own : begins_own (filter (is_at step) level.plain) ≡ is_live look (path ++ step ∷ [])
  pub plain : is_plain (path ++ step ∷ []) ≡ true

-- a level is that of a path: it has the steps of the path's children, and just the offers for each
pub record IsLevelAt (look : Look) (kids : List Step → List Step) (row : List StatementView) (path : List Step) (level : Level) : Type 0 where
  pub climbs : Climbs level.plain
  pub steps : steps_of level.plain ≡ steps_at look kids path
  pub right : AllByRecursion (IsRight look kids row level path) (steps_at look kids path)

-- what is looked up and walked over, of a row
abbrev pub look_of : List StatementView → Look
look_of row = finite.get (map_of row)

abbrev pub kids_of : List StatementView → List Step → List Step
kids_of row = steps_below (map_of row)

-- what is given below a path, down to as many levels, and for one step of it
abbrev pub given_below : List StatementView → ℕ → List Step → List (List Step × Given)
given_below row n path = listed (given_at (look_of row) (kids_of row)) (steps_at (look_of row) (kids_of row)) n path

abbrev pub given_for : List StatementView → ℕ → List Step → Step → List (List Step × Given)
given_for row n path step =
    entry_and (path ++ step ∷ []) (given_at (look_of row) (kids_of row) (path ++ step ∷ [])) (given_below row n (path ++ step ∷ []))

-- a row of the statements of a configuration
pub record IsRow (row : List StatementView) : Type 0 where
  pub tree : IsTree (map_of row)
  pub counted : Counted row
  pub ordered : Ordered row

-- the groups of a row, and the row
pub record IsPlan (row : List StatementView) (groups : List Node) : Type 0 where
  pub is_row : IsRow row
  pub groups_are : groups ≡ kids_at (look_of row) (kids_of row) row (groups_step ∷ [])
