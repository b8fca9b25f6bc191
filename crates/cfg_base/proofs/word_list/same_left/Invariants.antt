use Rattle.std.proofs.Common.{◌≡◌, length}
use Rattle.cfg_base.specs.Order.{words_eq}
use Rattle.cfg_base.proofs.word_list.same_left.Given as goal

abbrev pub invariant-loop-word : goal.invariant-loop-word
invariant-loop-word l = words_eq l.mine l.theirs ≡ words_eq l.fn.one l.fn.other

abbrev pub decreases-loop-word : goal.decreases-loop-word
decreases-loop-word l = length l.mine
