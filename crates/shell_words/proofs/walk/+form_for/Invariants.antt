use Rattle.std.proofs.Common.{length}
use Rattle.shell_words.proofs.walk.+form_for.Given as goal

abbrev pub decreases-form_for : goal.decreases-form_for
decreases-form_for l = length l.forms.now
