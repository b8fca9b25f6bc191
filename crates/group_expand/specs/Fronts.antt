-- What a path's children are given from, in the nodes of the row. For the inner functions.
use Rattle.std.specs.Prelude.{ℕ, not, List, [], ◌∷◌, ◌++◌, map, filter, flat_map, find, unwrap_or, Option, Some, None, if◌then◌else◌}
use Rattle.std.specs.Option.{option_map}
use Rattle.std.specs.BTreeSet as set
use Rattle.cfg_base.specs.Order.{word_cmp}
use Rattle.cfg_base.specs.Words.{lists}
use Rattle.cfg_base.specs.declared.path.Step.{Step}
use Rattle.cfg_tree.specs.Statements.{last_of}
use Rattle.group_expand.specs.Sources.{same_step, apply_step, except_step}
use Rattle.group_expand.specs.Node.{Node}
use Rattle.group_expand.specs.Fitting.{fitting_of}
use Rattle.group_expand.specs.Offer.{Source, Offer}

-- the words of the first node with a step, where there is one, and none otherwise
abbrev pub words_if_any : Step → List Node → Option (List (List ℕ))
words_if_any step nodes = option_map (λ n. n.value.words) (find (λ n. same_step step (last_of n.path)) nodes)

abbrev pub words_with : Step → List Node → List (List ℕ)
words_with step nodes = unwrap_or (words_if_any step nodes) []

abbrev pub source_of : List ℕ → Node → Source
source_of group node = record { group = group; node = node }

-- the nodes of a group that fit a path
abbrev pub brought_by : List Node → List Step → List ℕ → List Source
brought_by groups path group = map (source_of group) (fitting_of groups group path)

-- those of the groups that are applied and not excepted
abbrev pub applied_sources : List Node → List Step → List (List ℕ) → List (List ℕ) → List Source
applied_sources groups path gone words = flat_map (brought_by groups path) (filter (λ g. not (lists gone g)) words)

-- what an offer brings to the level below, where its group isn't excepted
abbrev pub kept_by : List (List ℕ) → Option (List ℕ) → Node → List Source
kept_by gone None node = []
kept_by gone (Some group) node = (if lists gone group then [] else source_of group node ∷ [])

abbrev pub kept_of : List (List ℕ) → Offer → List Source
kept_of gone o = kept_by gone o.group o.node

-- what a path's children are given from, where these are its own statements right below, and what is offered for itself
abbrev pub front_of : List Node → List Step → List Node → List Offer → List Source
front_of groups path own offers =
    applied_sources groups path (words_with except_step own) (words_with apply_step own)
    ++ flat_map (kept_of (words_with except_step own)) offers

-- the same, where the excepted groups are a set
abbrev pub brought_unless : List Node → List Step → set.BTreeSet (List ℕ) → List ℕ → List Source
brought_unless groups path gone group = (if set.contains word_cmp gone group then [] else brought_by groups path group)

abbrev pub kept_unless_in : set.BTreeSet (List ℕ) → Option (List ℕ) → Node → List Source
kept_unless_in gone None node = []
kept_unless_in gone (Some group) node = (if set.contains word_cmp gone group then [] else source_of group node ∷ [])

abbrev pub kept_unless : set.BTreeSet (List ℕ) → Offer → List Source
kept_unless gone o = kept_unless_in gone o.group o.node
