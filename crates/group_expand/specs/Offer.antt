-- What a level is made of: the configuration's live statements right below a path, what groups offer there, and their wildcards. For the
-- inner functions.
use Rattle.std.specs.Prelude.{ℕ, Bool, not, ◌&&◌, List, ◌++◌, map, filter, flat_map, Option, Some, None, is_some}
use Rattle.std.specs.Ordering.{eq_by_cmp}
use Rattle.cfg_base.specs.Order.{step_cmp}
use Rattle.cfg_base.specs.declared.path.Step.{Step}
use Rattle.cfg_tree.specs.Statements.{last_of}
use Rattle.group_expand.specs.Sources.{is_wildcard}
use Rattle.group_expand.specs.Node.{Node, children_of}

-- a node of a group
pub record Source : Type 0 where
  pub group : List ℕ
  pub node : Node

-- a node that stands for a step: the configuration's own without a group, or one of a group; a group's wildcard stands for its own step
-- until it is matched
pub record Offer : Type 0 where
  pub step : Step
  pub group : Option (List ℕ)
  pub node : Node

abbrev pub own_offer : Node → Offer
own_offer node = record { step = last_of node.path; group = None; node = node }

abbrev pub group_offer : List ℕ → Step → Node → Offer
group_offer group step node = record { step = step; group = Some group; node = node }

-- an offer for its node's own step
abbrev pub node_offer : List ℕ → Node → Offer
node_offer group node = group_offer group (last_of node.path) node

-- the same node and group for a step
abbrev pub offer_for : Step → Offer → Offer
offer_for step o = record { step = step; group = o.group; node = o.node }

abbrev pub has_wildcard : Node → Bool
has_wildcard node = is_wildcard (last_of node.path).name

-- what a group offers for the steps that its nodes have themselves
abbrev pub plain_offers : List ℕ → List Node → List Offer
plain_offers group nodes = map (node_offer group) (filter (λ n. not (has_wildcard n)) nodes)

-- a group's wildcards
abbrev pub wild_offers : List ℕ → List Node → List Offer
wild_offers group nodes = map (node_offer group) (filter has_wildcard nodes)

-- all that a source offers right below it
abbrev pub offers_of : Source → List Offer
offers_of source = plain_offers source.group (children_of source.node) ++ wild_offers source.group (children_of source.node)

-- all offers of a level, in the order of the sources
abbrev pub offered : List Node → List Source → List Offer
offered own front = map own_offer own ++ flat_map offers_of front

-- an offer is a group's wildcard
abbrev pub is_wild : Offer → Bool
is_wild o = is_some o.group && is_wildcard o.step.name

-- an offer is for this step
abbrev pub is_for : Step → Offer → Bool
is_for step o = eq_by_cmp step_cmp step o.step
