use Rattle.std.proofs.Common.{length}
use Rattle.reply_text.proofs.writing.+put_spaced_steps.Given as goal

abbrev pub decreases-put_spaced_steps : goal.decreases-put_spaced_steps
decreases-put_spaced_steps g l = length l.steps.now
