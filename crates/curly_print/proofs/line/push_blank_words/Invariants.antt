use Rattle.std.proofs.Common.{◌≡◌, ◌++◌, length}
use Rattle.curly_print.specs.Printing.{blank_words}
use Rattle.curly_print.proofs.line.push_blank_words.Given as goal

abbrev pub invariant-loop-word : goal.invariant-loop-word
invariant-loop-word l = l.text.items ++ blank_words l.left ≡ l.fn.text.items ++ blank_words l.words

abbrev pub decreases-loop-word : goal.decreases-loop-word
decreases-loop-word l = length l.left
