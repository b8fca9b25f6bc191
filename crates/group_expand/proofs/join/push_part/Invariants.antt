use Rattle.std.proofs.Common.{◌≡◌, ◌++◌, take, map}
use Rattle.group_expand.proofs.join.push_part.Given as goal

abbrev pub invariant-loop-ranked : goal.invariant-loop-ranked
invariant-loop-ranked l = l.made.items ≡ l.initial.made.items ++ map (λ r. r.offer) (take l.ranked-index l.part)
