use Rattle.std.proofs.Common.{◌+◌, ◌*◌}
use Rattle.turn_lock.proofs.tests.+callers.Given as goal

abbrev pub decreases-join+arg2 : goal.decreases-join+arg2
decreases-join+arg2 g l = 2 * l.left + 1

abbrev pub decreases-take_turns_beside : goal.decreases-take_turns_beside
decreases-take_turns_beside g l = 2 * l.others
