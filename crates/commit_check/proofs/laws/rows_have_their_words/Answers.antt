use Rattle.commit_check.proofs.RowLemmas.{rows_begin, rows_named}
use Rattle.commit_check.proofs.laws.rows_have_their_words.Goals as goal

pub returns-clause-heads : goal.returns-clause-heads
returns-clause-heads c = rows_begin

pub returns-clause-names : goal.returns-clause-names
returns-clause-names c = rows_named
