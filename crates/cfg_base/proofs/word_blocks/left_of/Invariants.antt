use Rattle.std.proofs.Common.{◌≡◌, take}
use Rattle.cfg_base.specs.Blocks.{flat}
use Rattle.cfg_base.specs.Words.{words_without}
use Rattle.cfg_base.proofs.word_blocks.left_of.Given as goal

abbrev pub invariant-loop-block : goal.invariant-loop-block
invariant-loop-block l = l.left ≡ words_without (flat (take l.block-index l.blocks)) l.gone
