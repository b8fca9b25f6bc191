use Rattle.std.proofs.Common.{length}
use Rattle.shell_words.proofs.walk.+furthest.Given as goal

abbrev pub decreases-furthest : goal.decreases-furthest
decreases-furthest l = length l.forms.now
