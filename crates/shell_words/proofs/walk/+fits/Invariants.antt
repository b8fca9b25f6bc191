use Rattle.std.proofs.Common.{length}
use Rattle.shell_words.proofs.walk.+fits.Given as goal

abbrev pub decreases-fits : goal.decreases-fits
decreases-fits l = length l.parts.now
