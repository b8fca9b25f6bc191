use Rattle.std.proofs.Common.{◌+◌, ◌≤◌, length}
use Rattle.curly_print.specs.Printing.{blank_words}
use Rattle.curly_print.proofs.lengths.room_behind_blanks.Given as goal

abbrev pub invariant-loop-word : goal.invariant-loop-word
invariant-loop-word l = l.free + length (blank_words l.words) ≤ l.room + length (blank_words l.left)

abbrev pub decreases-loop-word : goal.decreases-loop-word
decreases-loop-word l = length l.left
