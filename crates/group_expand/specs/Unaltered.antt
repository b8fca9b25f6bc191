-- Statements that stand in the expansion as they stand in the configuration, with all below them. For the inner functions.
use Rattle.std.specs.Prelude.{ℕ, Bool, not, ◌&&◌, List, [], ◌∷◌, map, Option, Some, None, if◌then◌else◌}
use Rattle.std.specs.List.{list_all}
use Rattle.cfg_base.specs.declared.path.Step.{Step}
use Rattle.cfg_tree.specs.declared.full.Given.{Given}
use Rattle.cfg_tree.specs.Full.{own_given}
use Rattle.group_expand.specs.Sources.{is_outside}
use Rattle.group_expand.specs.Expansion.{is_apply}
use Rattle.group_expand.specs.Row.{StatementView}
use Rattle.group_expand.specs.Node.{Node}
use Rattle.group_expand.specs.Offer.{Offer}

-- a statement has no inactive mark and is no apply statement
abbrev pub is_unaltered : StatementView → Bool
is_unaltered x = not x.value.inactive && not (is_apply x.path)

-- a node stands outside `groups`, and neither it nor what stands below it is an apply statement, nor is any of these inactive
abbrev pub is_unaltered_node : Node → Bool
is_unaltered_node node = is_outside node.path && (not (is_apply node.path) && list_all is_unaltered node.below)

-- the configuration's own node of a run without sources, where it is so
abbrev pub unaltered_if : Option (List ℕ) → Node → Option Node
unaltered_if None node = (if is_unaltered_node node then Some node else None)
unaltered_if (Some group) node = None

abbrev pub unaltered_of : List Offer → Option Node
unaltered_of [] = None
unaltered_of (o ∷ []) = unaltered_if o.group o.node
unaltered_of (o ∷ other ∷ os) = None

-- what such statements give
abbrev pub own_entry : StatementView → List Step × Given
own_entry x = (x.path, own_given x.value)

abbrev pub own_entries : Node → List (List Step × Given)
own_entries node = (node.path, own_given node.value) ∷ map own_entry node.below
