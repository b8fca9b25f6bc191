use Rattle.std.proofs.Common.{◌≡◌, take}
use Rattle.cfg_base.specs.Words.{joined, Misses}
use Rattle.cfg_base.proofs.joining.join_many.Given as goal

abbrev pub invariant-loop-word : goal.invariant-loop-word
invariant-loop-word l = (l.words ≡ joined l.list (take l.word-index l.given)) × Misses l.words l.given l.missing
