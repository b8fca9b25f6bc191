use Rattle.std.proofs.Common.{length, ap, arith}
use Rattle.curly_print.specs.Printing.{blank_words}
use Rattle.curly_print.proofs.lengths.blank_words_len.Goals as goal

pub returns : goal.returns
returns c = let none = ap (λ ws. length (blank_words ws)) c.in_default.ensures in omega (arith, none, c.loop-word.invariant.counted, c.loop-word.invariant.small)
