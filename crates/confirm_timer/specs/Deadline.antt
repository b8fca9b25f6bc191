-- Confirmed commits. Junos OS CLI User Guide, on commits that require a confirmation.
use Rattle.std.specs.Prelude.{ℕ, ◌+◌, ◌*◌, ◌≤◌}

-- the moment by which a commit confirmed needs its confirmation, that many minutes later
abbrev pub after_minutes : ℕ → ℕ → ℕ
after_minutes moment minutes = moment + 60 * minutes

-- the deadline has come: it is due at its own second, and from then on
abbrev pub IsDue : ℕ → ℕ → Type 0
IsDue deadline moment = deadline ≤ moment
