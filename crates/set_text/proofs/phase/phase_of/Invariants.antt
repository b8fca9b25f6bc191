use Rattle.std.proofs.Common.{take}
use Rattle.set_text.specs.declared.phase.Phase.TheVariants.{Bare}
use Rattle.set_text.specs.Phase.{kinds_in, PhaseLeads}
use Rattle.set_text.proofs.phase.phase_of.Given as goal

abbrev pub invariant-loop-place : goal.invariant-loop-place
invariant-loop-place l = PhaseLeads l.brackets Bare (kinds_in (take l.place l.tokens)) l.phase
