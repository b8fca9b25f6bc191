-- Which statements apply or except a group that isn't there. Junos OS CLI User Guide, on configuration groups.
use Rattle.std.specs.Prelude.{ℕ, Bool, not, ◌&&◌, List, [], ◌∷◌}
use Rattle.std.specs.FinMap as map
use Rattle.std.specs.List.{list_any}
use Rattle.cfg_base.specs.declared.path.Step.{Step}
use Rattle.cfg_tree.specs.Statements.{Statements}
use Rattle.cfg_tree.specs.Tree.{step_of}
use Rattle.group_expand.specs.Live.{is_live, live_words}
use Rattle.group_expand.specs.Sources.{groups_step}
use Rattle.group_expand.specs.Expansion.{is_apply}

-- a live group has this name
abbrev pub is_group : Statements → List ℕ → Bool
is_group m name = is_live (map.get m) (groups_step ∷ step_of [] name ∷ [])

-- rule 1: a live `apply-groups` or `apply-groups-except` with a word that is no live group
abbrev pub names_no_group : Statements → List Step → Bool
names_no_group m path = is_apply path && list_any (λ name. not (is_group m name)) (live_words (map.get m) path)
