use Rattle.std.proofs.Common.{length}
use Rattle.session_threads.proofs.whole.+seat_all.Given as goal

abbrev pub decreases-seat_all : goal.decreases-seat_all
decreases-seat_all g l = length l.ends.now.items
