use Rattle.std.proofs.Common.{[]}
use Rattle.cfg_lex.proofs.WordLemmas.{words_are}
use Rattle.cfg_lex.proofs.laws.words_of_tokens_are_of_lexemes.Goals as goal

pub returns : goal.returns
returns c = λ text lexemes whole. words_are text [] lexemes whole
