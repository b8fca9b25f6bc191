-- What the rules ask of one statement of an expansion: each test says that the statement breaks its rule. Junos OS CLI User Guide, on the
-- statements in question; which rules there are is this project's own.
use Rattle.std.specs.Prelude.{ℕ, Bool, false, not, ◌&&◌, ◌||◌, List, [], ◌∷◌, ◌++◌, take, codes, Option, Some, None, if◌then◌else◌}
use Rattle.std.specs.FinMap as map
use Rattle.std.specs.List.{list_any}
use Rattle.cfg_base.specs.Words.{lists}
use Rattle.cfg_base.specs.declared.path.Step.{Step}
use Rattle.cfg_tree.specs.Statements.{last_of}
use Rattle.cfg_tree.specs.Full.{Expansion}
use Rattle.cfg_tree.specs.declared.full.Given.{Given}
use Rattle.commit_check.specs.Kinds.{is_user, is_user_class, is_vlan_id, is_route, is_neighbor, is_policy_list, is_from_list, is_filter_use, is_filter_end, plain, class_of, policy_of, prefix_list_of, filter_of, is_in, has_child}

-- rule 2: a user without a class
abbrev pub lacks_class : Expansion → List Step → Bool
lacks_class full path = is_user path && not (has_child full path 17)

-- rule 3: a user's class that is neither predefined nor configured
abbrev pub is_predefined : List ℕ → Bool
is_predefined name = lists (codes "super-user" ∷ codes "operator" ∷ codes "read-only" ∷ codes "unauthorized" ∷ []) name

abbrev pub is_class : Expansion → List ℕ → Bool
is_class full name = is_predefined name || is_in full (class_of name)

abbrev pub names_no_class : Expansion → List Step → List (List ℕ) → Bool
names_no_class full path words = is_user_class path && list_any (λ name. not (is_class full name)) words

-- rule 4: a `vlan-id` at an interface without `vlan-tagging`
abbrev pub lacks_tagging : Expansion → List Step → Bool
lacks_tagging full path = is_vlan_id path && not (has_child full (take 2 path) 35)

-- rule 6: a neighbor of an external group, with `peer-as` neither at itself nor at its group
abbrev pub is_external_by : Option Given → Bool
is_external_by None = false
is_external_by (Some given) = lists given.words (codes "external")

abbrev pub is_external : Expansion → List Step → Bool
is_external full group = is_external_by (map.get full (group ++ plain 54 ∷ []))

abbrev pub has_peer_as : Expansion → List Step → Bool
has_peer_as full neighbor = has_child full neighbor 63 || has_child full (take 3 neighbor) 58

abbrev pub lacks_peer_as : Expansion → List Step → Bool
lacks_peer_as full path = is_neighbor path && (is_external full (take 3 path) && not (has_peer_as full path))

-- rule 7: a list of policies with a word that is no policy statement
abbrev pub names_no_policy : Expansion → List Step → List (List ℕ) → Bool
names_no_policy full path words = is_policy_list path && list_any (λ name. not (is_in full (policy_of name))) words

-- rule 8: a `from prefix-list` that names no prefix list
abbrev pub names_no_list : Expansion → List Step → Bool
names_no_list full path = is_from_list path && not (is_in full (prefix_list_of (last_of path).name))

-- rule 9: a route with both `next-hop` and `discard`, or with neither
abbrev pub lacks_one_way : Expansion → List Step → Bool
lacks_one_way full path = is_route path && not (if has_child full path 46 then not (has_child full path 47) else has_child full path 47)

-- rule 14: a use of a filter that isn't there
abbrev pub names_no_filter : Expansion → List Step → List (List ℕ) → Bool
names_no_filter full path words = is_filter_use path && list_any (λ name. not (is_in full (filter_of name))) words

-- rule 15: a filter's `then` with two of `accept`, `discard` and `reject`
abbrev pub two_of : Bool → Bool → Bool → Bool
two_of a b c = (a && (b || c)) || (b && c)

abbrev pub ends_twice : Expansion → List Step → Bool
ends_twice full path = is_filter_end path && two_of (has_child full path 112) (has_child full path 113) (has_child full path 114)
