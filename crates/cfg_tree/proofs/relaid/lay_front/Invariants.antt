use Rattle.std.proofs.Common.{◌≡◌, ◌++◌, length}
use Rattle.std.specs.Ordering.{is_lt}
use Rattle.cfg_base.specs.Order.{path_cmp}
use Rattle.cfg_tree.specs.Relaid.{kept}
use Rattle.cfg_tree.proofs.BelowLemmas.{front_of}
use Rattle.cfg_tree.proofs.relaid.lay_front.Given as goal

abbrev pub invariant-loop-entry : goal.invariant-loop-entry
invariant-loop-entry l =
    l.made ++ kept l.stays l.from (front_of (λ e. is_lt (path_cmp e.0 l.to)) l.left)
    ≡ l.initial.made ++ kept l.stays l.from (front_of (λ e. is_lt (path_cmp e.0 l.to)) l.initial.left)

abbrev pub decreases-loop-entry : goal.decreases-loop-entry
decreases-loop-entry l = length l.left
