use Rattle.std.proofs.Common.{◌+◌, ◌*◌, length}
use Rattle.session_threads.proofs.threads.+threads.Given as goal

abbrev pub decreases-serve_seats : goal.decreases-serve_seats
decreases-serve_seats g l = 3 * length l.seats.now

abbrev pub decreases-serve_both : goal.decreases-serve_both
decreases-serve_both g l = 3 * length l.others.now + 2

abbrev pub decreases-serve_both-apart : goal.decreases-serve_both-apart
decreases-serve_both-apart g l = 3 * length l.others.now + 1
