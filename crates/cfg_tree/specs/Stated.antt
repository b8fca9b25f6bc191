-- Statements as a text says them, one after another, and the map that they make. Junos OS CLI User Guide, on configuration statements
-- and on load.
use Rattle.std.specs.Prelude.{◌≡◌, List, [], ◌∷◌}
use Rattle.std.specs.FinMap as finite
use Rattle.cfg_base.specs.Order.{path_cmp}
use Rattle.cfg_base.specs.declared.value.Value.{Value}
use Rattle.cfg_entries.specs.EntryMap.{Pair}
use Rattle.cfg_tree.specs.Statements.{Statements, HasParent}
use Rattle.cfg_tree.specs.Change.{put_at, FitsProfile}
use Rattle.cfg_tree.specs.Gather.{joined_at}
pub use Rattle.cfg_tree.specs.Limit.{paths_of, different, IsPathPast}

-- the map with one more statement, joined to what its path has; the name of a new ordered child goes last
abbrev pub stated_one : Statements → Pair Value → Statements
stated_one m item = put_at m item.0 (joined_at item.0 (finite.get m item.0) item.1)

-- the map with these statements said in turn
abbrev pub stated : Statements → List (Pair Value) → Statements
stated m [] = m
stated m (item ∷ items) = stated (stated_one m item) items

-- what the statements make from nothing
abbrev pub stated_from_none : List (Pair Value) → Statements
stated_from_none items = stated (finite.empty {R = path_cmp}) items

-- a statement that may be said next: its parent is there, and its path and words are of the profile. It has no order: that of its children grows
-- as they are said.
pub record IsSaid (m : Statements) (item : Pair Value) : Type 0 where
  pub parent : HasParent m item.0
  pub fits : FitsProfile item.0 item.1
  pub order : item.1.order ≡ []

-- each of these may be said when its turn comes
abbrev pub AreSaid : Statements → List (Pair Value) → Type 0
AreSaid m [] = Unit {0}
AreSaid m (item ∷ items) = IsSaid m item × AreSaid (stated_one m item) items
