use Rattle.std.proofs.Common.{◌≡◌, ◌++◌, map, take}
use Rattle.group_expand.specs.Unaltered.{own_entry}
use Rattle.group_expand.proofs.unaltered.push_part.Given as goal

abbrev pub invariant-loop-statement : goal.invariant-loop-statement
invariant-loop-statement l = l.maker ≡ l.fn.made ++ map own_entry (take l.statement-index l.part)
