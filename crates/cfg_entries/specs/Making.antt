-- Rows that are being filled.
use Rattle.std.specs.Prelude.{◌≡◌, ℕ, ◌≤◌, List, ◌++◌, length}
use Rattle.std.specs.List.{AllByRecursion}
use Rattle.cfg_entries.specs.EntryMap.{Pair}
use Rattle.cfg_entries.specs.Rows.{flat, rows_of, AreSized, IsPage}
use Rattle.cfg_base.specs.declared.shared.TheConstants.{MAX_ITEMS}

-- the entries so far: those of the pages, of the blocks of the next page, and of the next block
abbrev pub so_far : {V : Type 0} → List (List (List (Pair V))) → List (List (Pair V)) → List (Pair V) → List (Pair V)
so_far pages blocks entries = flat (rows_of pages) ++ flat blocks ++ entries

-- each row has a size
pub record AreLaid {V : Type 0} (pages : List (List (List (Pair V)))) (blocks : List (List (Pair V))) (entries : List (Pair V)) : Type 0 where
  pub pages_sized : AllByRecursion IsPage pages
  pub blocks_sized : AreSized blocks
  pub blocks_few : length blocks ≤ MAX_ITEMS
  pub entries_few : length entries ≤ MAX_ITEMS

-- each row has a size, and the entries are counted
pub record IsMaking {V : Type 0} (pages : List (List (List (Pair V)))) (blocks : List (List (Pair V))) (entries : List (Pair V)) (count : ℕ) : Type 0 where
  pub laid : AreLaid pages blocks entries
  pub counted : count ≡ length (so_far pages blocks entries)
