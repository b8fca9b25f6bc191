-- Where entries in the order of paths are cut in two.
use Rattle.std.specs.Prelude.{ℕ, ◌≡◌, ◌<◌, ◌+◌, Bool, true, false, not, ◌||◌, List, [], ◌∷◌, length, take, drop, filter}
use Rattle.std.specs.List.{AllByRecursion}
use Rattle.std.specs.Ordering.{is_le, is_lt}
use Rattle.cfg_base.specs.declared.path.Step.{Step}
use Rattle.cfg_base.specs.Order.{path_cmp, is_below}
use Rattle.cfg_base.specs.Blocks.{flat}
use Rattle.cfg_entries.specs.EntryMap.{Pair}
use Rattle.cfg_entries.specs.declared.cut.Cut.{Cut}
use Rattle.cfg_entries.specs.declared.cut.Cut.TheVariants.{Before, Behind}

-- a path stands before the cut at another one
abbrev pub in_front : Cut → List Step → List Step → Bool
in_front Before at path = is_lt (path_cmp path at)
in_front Behind at path = is_le (path_cmp path at) || is_below at path

-- the entries that don't stand before the cut
abbrev pub behind : {V : Type 0} → (List Step → Bool) → List (Pair V) → List (Pair V)
behind front es = filter (λ e. not (front e.0)) es

-- a row begins before the cut
abbrev pub begins : {V : Type 0} → (List Step → Bool) → List (Pair V) → Bool
begins front [] = false
begins front (e ∷ es) = front e.0

-- a page's first block begins before the cut
abbrev pub page_begins : {V : Type 0} → (List Step → Bool) → List (List (Pair V)) → Bool
page_begins front [] = false
page_begins front (b ∷ bs) = begins front b

-- what stands in the rows before one is before the cut, and what stands in those after it isn't
pub record IsCutRow {V : Type 0} (front : List Step → Bool) (bs : List (List (Pair V))) (at : ℕ) : Type 0 where
  pub within : 0 < length bs → at < length bs
  pub before : AllByRecursion (λ e. front e.0 ≡ true) (flat (take at bs))
  pub behind : AllByRecursion (λ e. front e.0 ≡ false) (flat (drop (at + 1) bs))
