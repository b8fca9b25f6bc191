use Rattle.std.proofs.Common.{length, ◌-◌}
use Rattle.cfg_lex.proofs.LexerLemmas.{IsRead}
use Rattle.cfg_lex.proofs.lexer.cut_text.Given as goal

abbrev pub invariant-loop-place : goal.invariant-loop-place
invariant-loop-place l = IsRead l.text l.place l.tokens.items

abbrev pub decreases-loop-place : goal.decreases-loop-place
decreases-loop-place l = length l.initial.text - l.place
