use Rattle.std.proofs.Common.{length}
use Rattle.cfg_tree.specs.Typed.{AreCanonical}
use Rattle.cfg_tree.proofs.typed.are_canonical.Given as goal

-- the words are canonical where those that are left are
abbrev pub invariant-loop-word : goal.invariant-loop-word
invariant-loop-word l = (AreCanonical l.kind l.left → AreCanonical l.kind l.words) × (AreCanonical l.kind l.words → AreCanonical l.kind l.left)

abbrev pub decreases-loop-word : goal.decreases-loop-word
decreases-loop-word l = length l.left
