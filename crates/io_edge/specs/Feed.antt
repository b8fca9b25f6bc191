-- What a line reader has before it.
use Rattle.std.specs.Prelude.{◌-◌, ℕ, List, Option, take, drop}
use Rattle.io_edge.specs.Ends.{onto}

-- what was read ahead and what the source has left, where that is told; how many bytes of it may
-- still be taken; how many were read ahead; and how many calls of the source failed
pub record LinesView : Type 0 where
  pub left : Option (List ℕ)
  pub room : ℕ
  pub ahead : ℕ
  pub faults : ℕ

-- what a reader has before it whose chunk holds the bytes ahead between two places
abbrev pub feed_of : List ℕ → ℕ → ℕ → ℕ → Option (List ℕ) → ℕ → LinesView
feed_of chunk from to room left faults = record {
  left = onto (take (to - from) (drop from chunk)) left;
  room = room;
  ahead = to - from;
  faults = faults;
}
