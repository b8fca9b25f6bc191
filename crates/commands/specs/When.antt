-- The time of a commit that waits for it. Junos OS CLI User Guide, on scheduling a commit; that a time without a date is of the day
-- on which it is asked, and that all times are in UTC, is this project's own.
use Rattle.std.specs.Prelude.{ℕ, ◌+◌, ◌*◌, ◌/◌, ◌<◌, min}
use Rattle.cfg_base.specs.declared.moment.TheConstants.{MOMENT_MAX}
use Rattle.commands.specs.declared.when.When.{When}
use Rattle.commands.specs.declared.when.When.TheVariants.{Today, OnDay}

-- the moment of a second of the day that comes so many days after 1970-01-01; at most the last one
abbrev pub moment_of : ℕ → ℕ → ℕ
moment_of day second = min (day * 86_400 + second) MOMENT_MAX

-- the moment that is meant, where it is asked at a moment
abbrev pub at_of : When → ℕ → ℕ
at_of (Today second) moment = moment_of (moment / 86_400) second
at_of (OnDay day second) moment = moment_of day second

-- a day has 86,400 seconds, and a time with its date is before the last moment
abbrev pub IsTime : When → Type 0
IsTime (Today second) = second < 86_400
IsTime (OnDay day second) = (second < 86_400) × (day * 86_400 + second < MOMENT_MAX)
