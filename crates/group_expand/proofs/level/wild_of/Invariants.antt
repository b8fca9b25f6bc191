use Rattle.std.proofs.Common.{◌≡◌, ◌++◌, drop, filter}
use Rattle.group_expand.specs.Level.{with_ranks, is_wild_at}
use Rattle.group_expand.proofs.level.wild_of.Given as goal

abbrev pub invariant-loop-rank : goal.invariant-loop-rank
invariant-loop-rank l = l.wild.items ++ filter is_wild_at (with_ranks l.rank (drop l.rank l.offers)) ≡ filter is_wild_at (with_ranks 0 l.offers)
