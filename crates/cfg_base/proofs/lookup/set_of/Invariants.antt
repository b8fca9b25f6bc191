use Rattle.std.proofs.Common.{take}
use Rattle.cfg_base.specs.Words.{Knows}
use Rattle.cfg_base.proofs.lookup.set_of.Given as goal

abbrev pub invariant-loop-word : goal.invariant-loop-word
invariant-loop-word l = Knows (take l.word-index l.words) l.known
