use Rattle.curly_grammar.proofs.UnknownLemmas.{unknown_exactly, unknown_only}
use Rattle.curly_grammar.proofs.laws.unknown_words_begin_steps.Goals as goal

pub returns-clause-only : goal.returns-clause-only
returns-clause-only c = unknown_only

pub returns-clause-exactly : goal.returns-clause-exactly
returns-clause-exactly c = unknown_exactly
