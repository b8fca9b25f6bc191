-- The ends in memory. Their forms are this project's own.
use Rattle.std.specs.Prelude.{◌≡◌, ◌-◌, ℕ, List, min, length, slice_index, slice_index_or, Bool}
use Rattle.std.specs.Prelude.{false, true, ◌⊎◌}
use Rattle.io_edge.specs.Calls.{Calls, is_next_failing}

-- a source in memory: the bytes that are left, and its calls
pub record ListSourceView : Type 0 where
  pub left : List ℕ
  pub calls : Calls

-- a sink in memory: the bytes that it holds, for how many more it has room, and its calls
pub record VecSinkView : Type 0 where
  pub held : List ℕ
  pub room : ℕ
  pub calls : Calls

-- the next write to it fails: its number is one of those that are to fail, or there is no room
abbrev pub IsRefused : VecSinkView → Type 0
IsRefused sink = (is_next_failing sink.calls ≡ true) ⊎ (sink.room ≡ 0)

-- the answer of a clock at a place of its list: past the list the last one, and 0 of an empty list
abbrev pub moment_at : List ℕ → ℕ → ℕ
moment_at answers place = slice_index answers (min place (length answers - 1))

-- the answer of a beat at a place of its list: past the list false
abbrev pub beat_at : List Bool → ℕ → Bool
beat_at answers place = slice_index_or answers place false
