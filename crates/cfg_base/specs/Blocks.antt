-- Items in blocks, each of which copies share. How lists are kept is this project's own.
use Rattle.std.specs.Prelude.{◌<◌, ◌≤◌, List, [], ◌∷◌, ◌++◌, length}
use Rattle.std.specs.List.{AllByRecursion}
use Rattle.cfg_base.specs.declared.shared.TheConstants.{MAX_ITEMS}

-- the blocks, one after another
abbrev pub flat : {X : Type 0} → List (List X) → List X
flat [] = []
flat (b ∷ bs) = b ++ flat bs

-- a block isn't empty, and hasn't too many items
abbrev pub IsSized : {X : Type 0} → List X → Type 0
IsSized b = (0 < length b) × (length b ≤ MAX_ITEMS)

abbrev pub AreSized : {X : Type 0} → List (List X) → Type 0
AreSized bs = AllByRecursion IsSized bs
