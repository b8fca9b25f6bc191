use Rattle.std.proofs.Common.{◌≡◌, ◌++◌, ◌+◌, drop}
use Rattle.config_core.specs.Status.{session_lines}
use Rattle.config_core.proofs.status.session_lines.Given as goal

abbrev pub invariant-loop-place : goal.invariant-loop-place
invariant-loop-place l = l.text.items ++ session_lines (l.place + 1) (drop l.place l.callers) ≡ session_lines 1 l.callers
