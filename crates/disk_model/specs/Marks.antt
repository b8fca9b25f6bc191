-- How a replay keeps which places are pending: a mark for each write since the last sync.
use Rattle.std.specs.Prelude.{◌≡◌, ◌+◌, ◌&&◌, ◌||◌, Bool, nat_lt, nat_le, ℕ, List}
use Rattle.std.specs.List.{list_any}
use Rattle.disk_model.specs.declared.replay.Mark.{Mark}
use Rattle.disk_model.specs.Disk.{DiskState}

-- a write that is marked so made this place pending
abbrev pub covers : Mark → ℕ → Bool
covers m k = (nat_le m.at k && nat_lt k (m.at + m.count)) || nat_le m.size k

-- some write made this place pending
abbrev pub is_marked : List Mark → ℕ → Bool
is_marked marks k = list_any (λ m. covers m k) marks

-- what a replay knows of a state
pub record Knows (bytes : List ℕ) (marks : List Mark) (synced : ℕ) (s : DiskState) : Type 0 where
  pub contents : bytes ≡ s.contents
  pub pending : (k : ℕ) → s.pending k ≡ is_marked marks k
  pub sync : synced ≡ s.synced
