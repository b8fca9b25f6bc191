-- Counts that never fall, kept in 64 bits: one that stands at its last value stays there. The rule is this project's own.
use Rattle.std.specs.Prelude.{ℕ, ◌<◌, ◌≤◌, ◌-◌, ◌^◌, ◌⊎◌}

-- a count rose; one that stands at its last value can't rise further
abbrev pub Rose : ℕ → ℕ → Type 0
Rose before now = (before < now) ⊎ (2 ^ 64 - 1 ≤ before)
