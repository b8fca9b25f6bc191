use Rattle.std.proofs.Common.{◌≡◌, List, ℕ, length}
use Rattle.std.specs.Prelude.{◌||◌}
use Rattle.std.specs.BTreeSet as set
use Rattle.cfg_base.specs.Order.{word_cmp}
use Rattle.cfg_base.specs.Words.{lists}
use Rattle.group_expand.proofs.front.learn_all.Given as goal

abbrev pub invariant-loop-word : goal.invariant-loop-word
invariant-loop-word l = (w : List ℕ) → (set.contains word_cmp l.known w || lists l.left w) ≡ lists l.words w

abbrev pub decreases-loop-word : goal.decreases-loop-word
decreases-loop-word l = length l.left
