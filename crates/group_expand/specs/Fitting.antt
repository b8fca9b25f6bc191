-- The nodes of a group that fit a path. For the inner functions.
use Rattle.std.specs.Prelude.{ℕ, ◌&&◌, List, [], ◌∷◌, ◌++◌, filter, flat_map}
use Rattle.cfg_base.specs.declared.path.Step.{Step}
use Rattle.cfg_base.specs.Words.{same_word}
use Rattle.cfg_tree.specs.Statements.{last_of}
use Rattle.cfg_tree.specs.Tree.{step_of}
use Rattle.group_expand.specs.Sources.{same_step, is_wildcard, fits_wildcard}
use Rattle.group_expand.specs.Node.{Node, children_of}

-- the nodes with a step
abbrev pub exact : Step → List Node → List Node
exact step nodes = filter (λ n. same_step step (last_of n.path)) nodes

-- the nodes whose wildcards match a step
abbrev pub wild : Step → List Node → List Node
wild step nodes = filter (λ n. fits_wildcard step (last_of n.path)) nodes

-- the live statements right below a node that have a head and a wildcard name
abbrev pub wildcards_of : List ℕ → Node → List Node
wildcards_of head node =
    filter (λ n. same_word head (last_of n.path).head && is_wildcard (last_of n.path).name) (children_of node)

-- what fits a step right below a node
abbrev pub fits_of : Step → Node → List Node
fits_of step node = exact step (children_of node) ++ wild step (children_of node)

-- what fits the steps of a path, from these nodes on
abbrev pub down : List Node → List Step → List Node
down nodes [] = nodes
down nodes (step ∷ rest) = down (flat_map (fits_of step) nodes) rest

-- what of a group fits a path, where these are the groups
abbrev pub fitting_of : List Node → List ℕ → List Step → List Node
fitting_of groups group path = down (exact (step_of [] group) groups) path
