use Rattle.std.proofs.Common.{length}
use Rattle.shell_words.proofs.walk.+reach.Given as goal

abbrev pub decreases-reach : goal.decreases-reach
decreases-reach l = length l.parts.now
