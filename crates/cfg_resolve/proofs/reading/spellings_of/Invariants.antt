use Rattle.std.proofs.Common.{take}
use Rattle.cfg_tree.specs.Typed.{AllSpelled}
use Rattle.cfg_resolve.proofs.reading.spellings_of.Given as goal

abbrev pub invariant-loop-word : goal.invariant-loop-word
invariant-loop-word l = AllSpelled l.kind (take l.word-index l.words) l.spelled
