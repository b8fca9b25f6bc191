use Rattle.std.proofs.Common.{◌≡◌, ◌++◌, length}
use Rattle.cfg_tree.specs.Statements.{is_below}
use Rattle.cfg_tree.proofs.BelowLemmas.{front_of}
use Rattle.cfg_tree.proofs.moving.part_of.Given as goal

abbrev pub invariant-loop-entry : goal.invariant-loop-entry
invariant-loop-entry l =
    l.part.items ++ front_of (λ e. is_below l.path e.0) l.rest ≡ front_of (λ e. is_below l.path e.0) l.initial.rest

abbrev pub decreases-loop-entry : goal.decreases-loop-entry
decreases-loop-entry l = length l.rest
