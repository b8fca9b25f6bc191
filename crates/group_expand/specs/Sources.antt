-- Which groups' statements a path has, by a look-up of values and the steps of the statements right below a path. Junos OS CLI User Guide,
-- on configuration groups, inheritance and wildcards. Which statement comes first where several fit is this project's own.
-- Bytes by number: < is 60.
use Rattle.std.specs.Prelude.{ℕ, ◌==◌, Bool, true, false, not, ◌&&◌, ◌||◌, if◌then◌else◌}
use Rattle.std.specs.Prelude.{List, [], ◌∷◌, ◌++◌, map, filter, codes}
use Rattle.std.specs.List.{flat_map, list_any}
use Rattle.cfg_base.specs.Bytes.{between}
use Rattle.cfg_base.specs.Words.{lists}
use Rattle.cfg_base.specs.declared.path.Step.{Step}
use Rattle.cfg_schema.specs.Profile.{same_word}
use Rattle.cfg_tree.specs.Tree.{step_of}
use Rattle.glob_name.specs.Glob.{glob}
use Rattle.group_expand.specs.Live.{Look, is_live, live_words}

-- where groups stand, and the statements that apply and except them
abbrev pub groups_step : Step
groups_step = step_of (codes "groups") []

abbrev pub apply_step : Step
apply_step = step_of (codes "apply-groups") []

abbrev pub except_step : Step
except_step = step_of (codes "apply-groups-except") []

-- two steps have the same words
abbrev pub same_step : Step → Step → Bool
same_step s t = same_word s.head t.head && same_word s.name t.name

-- a name is a wildcard
abbrev pub is_wildcard : List ℕ → Bool
is_wildcard [] = false
is_wildcard (b ∷ rest) = b == 60

-- a step with a wildcard name fits a step of the same head whose name the wildcard matches
abbrev pub fits_wildcard : Step → Step → Bool
fits_wildcard step other = same_word step.head other.head && (is_wildcard other.name && glob (between other.name) step.name)

-- the paths above a path, from its parent outwards to the top
abbrev pub outward_from : List Step → List (List Step) → List Step → List (List Step)
outward_from above inner [] = inner
outward_from above inner (step ∷ rest) = outward_from (above ++ step ∷ []) (above ∷ inner) rest

abbrev pub outward : List Step → List (List Step)
outward path = outward_from [] [] path

-- a path outside `groups`, and one without wildcard names
abbrev pub is_outside : List Step → Bool
is_outside [] = true
is_outside (step ∷ rest) = not (same_step groups_step step)

abbrev pub is_plain : List Step → Bool
is_plain path = not (list_any (λ step. is_wildcard step.name) path)

-- a statement of a group that fits a path
pub record Source : Type 0 where
  pub group : List ℕ
  pub from : List Step

abbrev pub source : List ℕ → List Step → Source
source group from = record { group = group; from = from }

module _ (look : Look) (kids : List Step → List Step) where
  -- the paths themselves, where they are live
  abbrev pub live_ones : List (List Step) → List (List Step)
  live_ones paths = filter (is_live look) paths

  -- right below a group's path, the steps whose wildcards match a step, by their bytes, and none where wildcards may not match
  abbrev pub matching_below : Bool → Step → List Step → List Step
  matching_below wild step from = (if wild then filter (fits_wildcard step) (kids from) else [])

  -- right below a group's path, the live statement with the very step, and then those whose wildcard matches
  abbrev pub fitting_below : Bool → Step → List Step → List (List Step)
  fitting_below wild step from =
      live_ones ((from ++ step ∷ []) ∷ []) ++ live_ones (map (λ other. from ++ other ∷ []) (matching_below wild step from))

  -- the live statements of a group that fit a path step by step: first by the first step where they differ; wildcards
  -- match only where the path to there is live
  abbrev pub fitting_from : List Step → List (List Step) → List Step → List (List Step)
  fitting_from above found [] = found
  fitting_from above found (step ∷ rest) =
      fitting_from (above ++ step ∷ []) (flat_map (fitting_below (is_live look (above ++ step ∷ [])) step) found) rest

  -- the same, from the group on
  abbrev pub fitting : List ℕ → List Step → List (List Step)
  fitting group path = fitting_from [] (live_ones ((groups_step ∷ step_of [] group ∷ []) ∷ [])) path

  -- the groups that are applied at a level, and those that are excepted there
  abbrev pub applied : List Step → List (List ℕ)
  applied level = live_words look (level ++ apply_step ∷ [])

  abbrev pub excepted : List Step → List (List ℕ)
  excepted level = live_words look (level ++ except_step ∷ [])

  -- a group is excepted at a level, or was further in
  abbrev pub is_excepted : (List ℕ → Bool) → List Step → List ℕ → Bool
  is_excepted further_in level group = lists (excepted level) group || further_in group

  -- from the parent outwards, at each level the groups that are applied there, but those that are excepted there or were further in,
  -- and of each group what fits; `out` says which groups were excepted so far
  abbrev pub sources_by : (List ℕ → List (List Step)) → (List ℕ → Bool) → List (List Step) → List Source
  sources_by found out [] = []
  sources_by found out (level ∷ outer) =
      flat_map (λ group. map (source group) (found group)) (filter (λ group. not (is_excepted out level group)) (applied level))
      ++ sources_by found (λ group. is_excepted out level group) outer

  -- the sources of a path, in order
  abbrev pub sources : List Step → List Source
  sources path = (if is_outside path && is_plain path then sources_by (λ group. fitting group path) (λ group. false) (outward path) else [])
