-- The statements of which the rules speak, known by the words of their steps; rows by their numbers (Rows.antt).
-- Which statements there are is this project's own selection of those of the Junos OS CLI User Guide.
use Rattle.std.specs.Prelude.{ℕ, Bool, true, false, ◌&&◌, List, [], ◌∷◌, ◌++◌, is_some}
use Rattle.std.specs.FinMap as map
use Rattle.std.specs.List.{list_any}
use Rattle.cfg_base.specs.declared.path.Step.{Step}
use Rattle.cfg_schema.specs.Profile.{is_step_of, head_of, name_of}
use Rattle.cfg_tree.specs.Tree.{step_of}
use Rattle.cfg_tree.specs.Full.{Expansion}

-- steps are of these rows, one by one, known by the rows' words
abbrev pub begin_as : List ℕ → List Step → Bool
begin_as [] [] = true
begin_as (row ∷ rows) (step ∷ steps) = is_step_of row step && begin_as rows steps
begin_as rows steps = false

-- `system login user NAME`, and its `class`
abbrev pub is_user : List Step → Bool
is_user path = begin_as (6 ∷ 11 ∷ 14 ∷ []) path

abbrev pub is_user_class : List Step → Bool
is_user_class path = begin_as (6 ∷ 11 ∷ 14 ∷ 17 ∷ []) path

-- `interfaces NAME unit N vlan-id`
abbrev pub is_vlan_id : List Step → Bool
is_vlan_id path = begin_as (30 ∷ 31 ∷ 36 ∷ 39 ∷ []) path

-- `routing-options static route PREFIX`
abbrev pub is_route : List Step → Bool
is_route path = begin_as (43 ∷ 44 ∷ 45 ∷ []) path

-- `protocols bgp group NAME neighbor ADDRESS`
abbrev pub is_neighbor : List Step → Bool
is_neighbor path = begin_as (51 ∷ 52 ∷ 53 ∷ 59 ∷ []) path

-- the lists of policies: `import` and `export` of a BGP group and of a neighbor, and `export` of OSPF
abbrev pub is_policy_list : List Step → Bool
is_policy_list path =
    list_any
    (λ rows. begin_as rows path)
    ((51 ∷ 52 ∷ 53 ∷ 56 ∷ []) ∷ (51 ∷ 52 ∷ 53 ∷ 57 ∷ []) ∷ (51 ∷ 52 ∷ 53 ∷ 59 ∷ 61 ∷ []) ∷ (51 ∷ 52 ∷ 53 ∷ 59 ∷ 62 ∷ []) ∷ (51 ∷ 64 ∷ 65 ∷ []) ∷ [])

-- `from prefix-list NAME` of a policy statement and of a term
abbrev pub is_from_list : List Step → Bool
is_from_list path = list_any (λ rows. begin_as rows path) ((73 ∷ 76 ∷ 77 ∷ 78 ∷ 81 ∷ []) ∷ (73 ∷ 76 ∷ 91 ∷ 81 ∷ []) ∷ [])

-- `input` and `output` of a unit's filter, and a filter's `then`
abbrev pub is_filter_use : List Step → Bool
is_filter_use path = list_any (λ rows. begin_as rows path) ((30 ∷ 31 ∷ 36 ∷ 40 ∷ 96 ∷ 97 ∷ []) ∷ (30 ∷ 31 ∷ 36 ∷ 40 ∷ 96 ∷ 98 ∷ []) ∷ [])

abbrev pub is_filter_end : List Step → Bool
is_filter_end path = begin_as (99 ∷ 100 ∷ 101 ∷ 102 ∷ 110 ∷ []) path

-- a step of a row: with its first word and this name, or without a name
abbrev pub named : ℕ → List ℕ → Step
named row name = step_of (head_of row) name

abbrev pub plain : ℕ → Step
plain row = named row []

-- the class, the policy statement and the prefix list of a name
abbrev pub class_of : List ℕ → List Step
class_of name = plain 6 ∷ plain 11 ∷ named 12 name ∷ []

abbrev pub policy_of : List ℕ → List Step
policy_of name = plain 73 ∷ named 76 name ∷ []

abbrev pub prefix_list_of : List ℕ → List Step
prefix_list_of name = plain 73 ∷ named 74 name ∷ []

-- the IPv4 filter of a name
abbrev pub filter_of : List ℕ → List Step
filter_of name = plain 99 ∷ named 100 (name_of 100) ∷ named 101 name ∷ []

-- a statement stands in the expansion, and the child of this row stands there
abbrev pub is_in : Expansion → List Step → Bool
is_in full path = is_some (map.get full path)

abbrev pub has_child : Expansion → List Step → ℕ → Bool
has_child full path row = is_in full (path ++ plain row ∷ [])
