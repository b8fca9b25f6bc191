use Rattle.std.proofs.Common.{◌≡◌, ◌++◌, filter, length}
use Rattle.group_expand.specs.Runs.{is_matched, joined}
use Rattle.group_expand.proofs.join.joined.Given as goal

abbrev pub invariant-loop-more : goal.invariant-loop-more
invariant-loop-more l = l.made.items ++ joined l.step l.left (filter (is_matched l.step) l.more) ≡ joined l.step l.run (filter (is_matched l.step) l.wild)

abbrev pub decreases-loop-more : goal.decreases-loop-more
decreases-loop-more l = length l.more
