use Rattle.std.proofs.Common.{length, ◌++◌, ◌≡◌}
use Rattle.set_text.specs.Printed.{printed_lines, word_lines}
use Rattle.set_text.proofs.line.push_word_lines.Given as goal

abbrev pub invariant-loop-word : goal.invariant-loop-word
invariant-loop-word l = l.text.items ++ printed_lines (word_lines l.at l.left) ≡ l.initial.text.items ++ printed_lines (word_lines l.at l.words)

abbrev pub decreases-loop-word : goal.decreases-loop-word
decreases-loop-word l = length l.left
