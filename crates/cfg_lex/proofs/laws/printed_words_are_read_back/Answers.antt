use Rattle.cfg_lex.proofs.WordLemmas.{printed_as, printed_tokens, printed_means}
use Rattle.cfg_lex.proofs.laws.printed_words_are_read_back.Goals as goal

pub returns-clause-one_token : goal.returns-clause-one_token
returns-clause-one_token c = printed_tokens

pub returns-clause-same_word : goal.returns-clause-same_word
returns-clause-same_word c = printed_means

pub returns-clause-in_text : goal.returns-clause-in_text
returns-clause-in_text c = printed_as
