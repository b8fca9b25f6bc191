use Rattle.std.proofs.Common.{length, drop, ◌-◌, ◌≡◌, ◌≤◌, false}
use Rattle.cfg_lex.specs.Front.{quote_of}
use Rattle.cfg_lex.proofs.PlaceLemmas.{shifted}
use Rattle.cfg_lex.proofs.bytes.quote_of.Given as goal

abbrev pub invariant-loop-place : goal.invariant-loop-place
invariant-loop-place l = (shifted l.place (quote_of l.backslash (drop l.place l.text)) ≡ quote_of false l.text) × (l.place ≤ length l.text)

abbrev pub decreases-loop-place : goal.decreases-loop-place
decreases-loop-place l = length l.text - l.place
