-- The plain offers of a level, step by step, and all offers for a step. For the inner functions.
use Rattle.std.specs.Prelude.{ℕ, Bool, false, not, nat_lt, ◌||◌, ◌&&◌, List, [], ◌∷◌, ◌++◌, take, drop, map, filter, Option, Some, None, is_some, is_none, if◌then◌else◌}
use Rattle.std.specs.List.{prefix_len, list_any}
use Rattle.std.specs.Ordering.{eq_by_cmp}
use Rattle.cfg_base.specs.Order.{step_cmp}
use Rattle.cfg_base.specs.declared.path.Step.{Step}
use Rattle.cfg_base.specs.Words.{same_word, lists}
use Rattle.cfg_tree.specs.Statements.{last_of}
use Rattle.group_expand.specs.Expansion.{Gift}
use Rattle.group_expand.specs.Sources.{same_step, apply_step, except_step, is_outside, fits_wildcard}
use Rattle.group_expand.specs.Node.{Node, children_of}
use Rattle.group_expand.specs.Offer.{Offer, offer_for}
use Rattle.group_expand.specs.Level.{Ranked, Level, is_at}

-- how many of the first offers are for the first one's step
abbrev pub run_length : List Ranked → ℕ
run_length [] = 0
run_length (r ∷ rs) = prefix_len (is_at r.offer.step) (r ∷ rs)

-- the step of the first offer
abbrev pub first_step : List Ranked → Step → Step
first_step [] d = d
first_step (r ∷ rs) d = r.offer.step

-- the steps of offers in order, each once
abbrev pub with_first : Step → List Step → List Step
with_first s [] = s ∷ []
with_first s (t ∷ ts) = (if eq_by_cmp step_cmp s t then t ∷ ts else s ∷ t ∷ ts)

abbrev pub steps_of : List Ranked → List Step
steps_of [] = []
steps_of (r ∷ rs) = with_first r.offer.step (steps_of rs)

-- the first of some offers is the configuration's own
abbrev pub begins_own : List Ranked → Bool
begins_own [] = false
begins_own (r ∷ rs) = is_none r.offer.group

-- an offer comes before a rank
abbrev pub comes_before : ℕ → Ranked → Bool
comes_before rank r = nat_lt r.rank rank

-- a wildcard matches a step
abbrev pub is_matched : Step → Ranked → Bool
is_matched step w = fits_wildcard step w.offer.step

-- offers for a step, and between them those of wildcards, by their ranks
abbrev pub joined : Step → List Ranked → List Ranked → List Offer
joined step run [] = map (λ r. r.offer) run
joined step run (w ∷ ws) =
    map (λ r. r.offer) (take (prefix_len (comes_before w.rank) run) run)
    ++ offer_for step w.offer ∷ joined step (drop (prefix_len (comes_before w.rank) run) run) ws

-- all offers for a step, where these are the plain ones and the level's wildcards: wildcards match only the configuration's own
abbrev pub run_in : Step → List Ranked → List Ranked → List Offer
run_in step wild run = joined step run (if begins_own run then filter (is_matched step) wild else [])

-- a step applies or excepts groups
abbrev pub is_apply_step : Step → Bool
is_apply_step step = same_step apply_step step || same_step except_step step

-- the configuration's own node of a run, where it has one
abbrev pub own_if : Option (List ℕ) → Node → Option Node
own_if None node = Some node
own_if (Some group) node = None

abbrev pub own_of : List Offer → Option Node
own_of [] = None
own_of (o ∷ os) = own_if o.group o.node

-- the words and the group of the first source of a run
abbrev pub gift_by : Option (List ℕ) → Node → Option Gift → Option Gift
gift_by None node more = more
gift_by (Some group) node more = Some (record { words = node.value.words; group = group })

abbrev pub source_gift : List Offer → Option Gift
source_gift [] = None
source_gift (o ∷ os) = gift_by o.group o.node (source_gift os)

-- the words of the run's own node
abbrev pub own_gift : Option Node → Option Gift → Option Gift
own_gift None more = more
own_gift (Some node) more = Some (record { words = node.value.words; group = [] })

-- what a run gives to a path with this last step
abbrev pub run_gift : List Step → Step → List Offer → Option Gift
run_gift path step run =
    (if is_outside path then (if is_apply_step step then source_gift run else own_gift (own_of run) (source_gift run)) else None)

-- a run has a source
abbrev pub has_source : List Offer → Bool
has_source run = list_any (λ o. is_some o.group) run

-- a step of a level with this head may be one that the configuration hasn't itself
abbrev pub may_be_inherited : List ℕ → Step → List Ranked → Bool
may_be_inherited head step run = same_word head step.head && (is_apply_step step || not (begins_own run))

-- a step's name stands in the order of its level though the configuration hasn't it itself
abbrev pub is_inherited : List ℕ → Step → List Ranked → List Ranked → Bool
is_inherited head step wild run = may_be_inherited head step run && has_source (run_in step wild run)

-- the names that are so, in the order of the level
abbrev pub inherited_in : List ℕ → Level → List (List ℕ)
inherited_in head level =
    map (λ s. s.name) (filter (λ s. is_inherited head s level.wild (filter (is_at s) level.plain)) (steps_of level.plain))

-- the names of the nodes with a head
abbrev pub names_with : List ℕ → List Node → List (List ℕ)
names_with head nodes = map (λ n. (last_of n.path).name) (filter (λ n. same_word head (last_of n.path).head) nodes)

-- the names of an order, where there is one
abbrev pub order_if : Option Node → List (List ℕ)
order_if None = []
order_if (Some node) = node.value.order

-- the order of a level
abbrev pub order_for : Option (List ℕ) → Option Node → List Node → Level → List (List ℕ)
order_for None own children level = []
order_for (Some head) own children level = filter (lists (names_with head children)) (order_if own) ++ inherited_in head level

-- the name of a run, where it is so
abbrev pub name_of : List ℕ → List Ranked → List Ranked → List (List ℕ)
name_of head wild [] = []
name_of head wild (r ∷ rs) = (if is_inherited head r.offer.step wild (r ∷ rs) then r.offer.step.name ∷ [] else [])

-- the live statements right below a node, where there is one
abbrev pub own_nodes : Option Node → List Node
own_nodes None = []
own_nodes (Some node) = children_of node
