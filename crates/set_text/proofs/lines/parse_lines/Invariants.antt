use Rattle.std.proofs.Common.{length}
use Rattle.set_text.specs.Stop.{IsReadTo}
use Rattle.set_text.proofs.lines.parse_lines.Given as goal

abbrev pub invariant-loop-rest : goal.invariant-loop-rest
invariant-loop-rest l = IsReadTo l.text l.rest l.number l.changes.items

abbrev pub decreases-loop-rest : goal.decreases-loop-rest
decreases-loop-rest l = length l.rest
