use Rattle.std.proofs.Common.{length}
use Rattle.cfg_values.proofs.DotLemmas.{IsReadUpTo}
use Rattle.cfg_values.proofs.octets.octets_of.Given as goal

-- the numbers so far are those of the front of the bytes
abbrev pub invariant-loop-part : goal.invariant-loop-part
invariant-loop-part l = IsReadUpTo l.bytes l.octets l.rest

abbrev pub decreases-loop-part : goal.decreases-loop-part
decreases-loop-part l = length l.rest
