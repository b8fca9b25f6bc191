-- The calls of an end in memory: which of them fail, by their number from 1. This project's own.
use Rattle.std.specs.Prelude.{◌+◌, ◌-◌, ◌^◌, ◌==◌, ℕ, List, min, Bool, if◌then◌else◌}
use Rattle.std.specs.List.{list_any}

-- the numbers of the calls that are to fail, how many calls were made, and how many failed
pub record Calls : Type 0 where
  pub failing : List ℕ
  pub made : ℕ
  pub faults : ℕ

-- no call was made yet
abbrev pub no_calls : List ℕ → Calls
no_calls failing = record { failing = failing; made = 0; faults = 0 }

-- a count that rises by one, and stands still at its last value
abbrev pub next_count : ℕ → ℕ
next_count count = min (count + 1) (2 ^ 64 - 1)

-- the next call is one of those that are to fail
abbrev pub is_next_failing : Calls → Bool
is_next_failing calls = list_any (λ number. number == next_count calls.made) calls.failing

-- the calls after a fault
abbrev pub with_fault : Calls → Calls
with_fault calls = record calls { faults = next_count calls.faults }

-- the calls after one more
abbrev pub with_call : Calls → Calls
with_call calls = record calls {
  made = next_count calls.made;
  faults = if is_next_failing calls then next_count calls.faults else calls.faults;
}
