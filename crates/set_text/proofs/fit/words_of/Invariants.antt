use Rattle.std.proofs.Common.{take, ◌≡◌}
use Rattle.set_text.specs.Form.{parts_in, words_among}
use Rattle.set_text.proofs.fit.words_of.Given as goal

abbrev pub invariant-loop-token : goal.invariant-loop-token
invariant-loop-token l = l.words ≡ words_among (parts_in l.line (take l.token-index l.tokens))
