use Rattle.cfg_values.proofs.SpellingLemmas.{Spells-unique, Spells-canonical}
use Rattle.cfg_values.proofs.laws.spellings_stand_for_one_value.Goals as goal

pub returns-clause-one_value : goal.returns-clause-one_value
returns-clause-one_value c = Spells-unique

pub returns-clause-own_value : goal.returns-clause-own_value
returns-clause-own_value c = Spells-canonical
