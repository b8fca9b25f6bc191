use Rattle.std.proofs.Common.{length}
use Rattle.shell_words.proofs.walk.+give.Given as goal

abbrev pub decreases-give : goal.decreases-give
decreases-give l = length l.parts.now
