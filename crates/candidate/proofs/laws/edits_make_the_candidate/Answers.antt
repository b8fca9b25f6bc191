use Rattle.candidate.proofs.EditLemmas.{no_edits, more_edits, same_edits}
use Rattle.candidate.proofs.laws.edits_make_the_candidate.Goals as goal

pub returns-clause-none : goal.returns-clause-none
returns-clause-none c = no_edits

pub returns-clause-more : goal.returns-clause-more
returns-clause-more c = more_edits

pub returns-clause-same : goal.returns-clause-same
returns-clause-same c = same_edits
