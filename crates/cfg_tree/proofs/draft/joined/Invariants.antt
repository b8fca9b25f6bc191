use Rattle.std.proofs.Common.{◌≡◌, length}
use Rattle.cfg_tree.specs.Shown.{shown}
use Rattle.cfg_tree.specs.Gather.{gathered}
use Rattle.cfg_tree.proofs.draft.joined.Given as goal

abbrev pub invariant-loop-entry : goal.invariant-loop-entry
invariant-loop-entry l = gathered (shown l.both) l.left ≡ gathered (shown l.mine) l.theirs.entries

abbrev pub decreases-loop-entry : goal.decreases-loop-entry
decreases-loop-entry l = length l.left
