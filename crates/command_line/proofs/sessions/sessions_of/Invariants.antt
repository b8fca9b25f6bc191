use Rattle.std.proofs.Common.{map}
use Rattle.command_line.proofs.SessionLemmas.{Reads}
use Rattle.command_line.proofs.sessions.sessions_of.Given as goal

abbrev pub invariant-loop-word : goal.invariant-loop-word
invariant-loop-word l = Reads (map (λ s. s.now) l.words) l.word-index l.users l.files l.known
