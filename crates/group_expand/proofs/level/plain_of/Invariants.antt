use Rattle.std.proofs.Common.{◌≡◌, ◌++◌, drop, filter}
use Rattle.group_expand.specs.Level.{with_ranks, is_unmatched}
use Rattle.group_expand.proofs.level.plain_of.Given as goal

abbrev pub invariant-loop-rank : goal.invariant-loop-rank
invariant-loop-rank l = l.plain.items ++ filter is_unmatched (with_ranks l.rank (drop l.rank l.offers)) ≡ filter is_unmatched (with_ranks 0 l.offers)
