use Rattle.std.proofs.Common.{◌≡◌, take}
use Rattle.cfg_base.specs.Words.{words_without}
use Rattle.cfg_base.proofs.word_blocks.kept.Given as goal

abbrev pub invariant-loop-word : goal.invariant-loop-word
invariant-loop-word l = l.left.items ≡ words_without (take l.word-index l.words) l.gone
