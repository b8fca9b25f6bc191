use Rattle.std.proofs.Common.{◌≡◌, ◌++◌, take, drop}
use Rattle.cfg_tree.proofs.relaid.placed.Given as goal

abbrev pub invariant-loop-k : goal.invariant-loop-k
invariant-loop-k l = l.place ≡ l.to ++ drop l.count (take l.k l.steps)
