use Rattle.std.proofs.Common.{◌≡◌, ◌+◌, ◌^◌, ◌<◌, length}
use Rattle.curly_print.specs.Length.{capped}
use Rattle.curly_print.specs.Printing.{blank_words}
use Rattle.curly_print.proofs.lengths.blank_words_len.Given as goal

abbrev pub invariant-loop-word : goal.invariant-loop-word
invariant-loop-word l = record {
  counted : capped (l.total + length (blank_words l.left)) ≡ capped (length (blank_words l.words));
  small : l.total < 2 ^ 64;
}

abbrev pub decreases-loop-word : goal.decreases-loop-word
decreases-loop-word l = length l.left
