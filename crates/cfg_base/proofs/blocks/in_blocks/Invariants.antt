use Rattle.std.proofs.Common.{◌≡◌, false, take}
use Rattle.cfg_base.specs.Blocks.{flat}
use Rattle.cfg_base.specs.Words.{lists}
use Rattle.cfg_base.proofs.blocks.in_blocks.Given as goal

abbrev pub invariant-loop-block : goal.invariant-loop-block
invariant-loop-block l = lists (flat (take l.block-index l.blocks)) l.word ≡ false
