use Rattle.std.proofs.Common.{◌≡◌, ◌≤◌, ◌-◌, length, take, drop}
use Rattle.std.specs.FinMap as map
use Rattle.group_expand.specs.Live.{is_live, live_from}
use Rattle.commit_check.proofs.groups.is_live.Given as goal

-- so many steps are live, and the path is where it is from there on
abbrev pub invariant-loop-front : goal.invariant-loop-front
invariant-loop-front l =
    (l.count ≡ length l.path) × (l.front ≤ l.count)
    × (live_from (map.get l.tree) (take l.front l.path) (drop l.front l.path) ≡ is_live (map.get l.tree) l.path)

abbrev pub decreases-loop-front : goal.decreases-loop-front
decreases-loop-front l = l.count - l.front
