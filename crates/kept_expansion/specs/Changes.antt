-- Where two configurations differ, and what is kept of the later one. This project's own.
use Rattle.std.specs.Prelude.{◌≡◌, Bool, false, List, Option, Some, None}
use Rattle.std.specs.FinMap as finite
use Rattle.std.specs.List.{list_any}
use Rattle.cfg_base.specs.declared.path.Step.{Step}
use Rattle.cfg_tree.specs.Statements.{Statements, is_below}
use Rattle.cfg_tree.specs.Full.{Expansion, IsWithin}
use Rattle.group_expand.specs.Expansion.{IsExpansion}

-- a path is one of some paths, or below one of them
abbrev pub is_reached : List (List Step) → List Step → Bool
is_reached paths path = list_any (λ above. is_below above path) paths

-- two configurations differ only at and below some paths
abbrev pub DiffersOnlyAt : Statements → Statements → List (List Step) → Type 0
DiffersOnlyAt old new touched = (path : List Step) → is_reached touched path ≡ false → finite.get new path ≡ finite.get old path

-- an expansion is that of a configuration from which another one differs only at and below some paths
abbrev pub IsBehind : Expansion → Statements → List (List Step) → Type 0
IsBehind full new touched = (old : Statements) × IsExpansion old full × DiffersOnlyAt old new touched

-- what is kept is the expansion of a configuration
abbrev pub IsKept : Statements → Option Expansion → Type 0
IsKept m None = ⊥
IsKept m (Some full) = IsExpansion m full × IsWithin full
