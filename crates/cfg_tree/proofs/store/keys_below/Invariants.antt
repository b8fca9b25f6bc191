use Rattle.std.proofs.Common.{◌≡◌, ◌++◌, length}
use Rattle.std.specs.Map.{keys_of}
use Rattle.cfg_tree.specs.Statements.{is_below}
use Rattle.cfg_tree.proofs.BelowLemmas.{front_of}
use Rattle.cfg_tree.proofs.store.keys_below.Given as goal

abbrev pub invariant-loop-entry : goal.invariant-loop-entry
invariant-loop-entry l =
    l.keys.items ++ front_of (is_below l.path) (keys_of l.rest) ≡ front_of (is_below l.path) (keys_of l.initial.rest)

abbrev pub decreases-loop-entry : goal.decreases-loop-entry
decreases-loop-entry l = length l.rest
