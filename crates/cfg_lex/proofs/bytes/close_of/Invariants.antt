use Rattle.std.proofs.Common.{length, drop, ◌-◌, ◌≡◌, ◌≤◌}
use Rattle.cfg_lex.specs.Front.{close_of}
use Rattle.cfg_lex.proofs.PlaceLemmas.{shifted}
use Rattle.cfg_lex.proofs.bytes.close_of.Given as goal

abbrev pub invariant-loop-place : goal.invariant-loop-place
invariant-loop-place l = (shifted l.place (close_of (drop l.place l.text)) ≡ close_of l.text) × (l.place ≤ length l.text)

abbrev pub decreases-loop-place : goal.decreases-loop-place
decreases-loop-place l = length l.text - l.place
