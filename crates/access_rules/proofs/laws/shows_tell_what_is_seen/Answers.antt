use Rattle.access_rules.proofs.SightLemmas.{curly_told, inherited_told, lines_told}
use Rattle.access_rules.proofs.laws.shows_tell_what_is_seen.Goals as goal

pub returns-clause-curly : goal.returns-clause-curly
returns-clause-curly c = curly_told

pub returns-clause-lines : goal.returns-clause-lines
returns-clause-lines c = lines_told

pub returns-clause-inherited : goal.returns-clause-inherited
returns-clause-inherited c = inherited_told c.expansion_is_one.ensures.one c.expansion_of_a_part_is_of_that_part.ensures
