-- The part of a configuration that decides what its expansion has at and below some paths. For the inner functions.
use Rattle.std.specs.Prelude.{Bool, not, ◌&&◌, ◌||◌, List}
use Rattle.std.specs.FinMap as finite
use Rattle.std.specs.List.{list_any}
use Rattle.cfg_base.specs.declared.path.Step.{Step}
use Rattle.cfg_tree.specs.Statements.{Statements, parent_of, last_of, is_below}
use Rattle.group_expand.specs.Sources.{is_outside}
use Rattle.group_expand.specs.Runs.{is_apply_step}

-- a path applies or excepts groups at a level above another one
abbrev pub applies_above : List Step → List Step → Bool
applies_above path root = is_apply_step (last_of path) && is_below (parent_of path) root

-- a path is at or below another one, or above it, or applies or excepts groups there
abbrev pub is_near : List Step → List Step → Bool
is_near path root = is_below root path || (is_below path root || applies_above path root)

-- a path is in the part of some paths: near one of them, or a group's
abbrev pub in_part : List (List Step) → List Step → Bool
in_part roots path = not (is_outside path) || list_any (is_near path) roots

abbrev pub part_of : List (List Step) → Statements → Statements
part_of roots m = finite.retain_keys m (in_part roots)
