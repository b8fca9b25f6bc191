use Rattle.std.proofs.Common.{◌≡◌, ◌++◌, List, ℕ, length}
use Rattle.cfg_base.specs.Words.{Misses}
use Rattle.cfg_base.proofs.joining.missing_set.Given as goal

abbrev pub invariant-loop-word : goal.invariant-loop-word
invariant-loop-word l = (seen : List (List ℕ)) × (l.fn.list ≡ seen ++ l.words) × Misses seen l.given l.missing

abbrev pub decreases-loop-word : goal.decreases-loop-word
decreases-loop-word l = length l.words
