use Rattle.cfg_schema.proofs.SearchLemmas.{found_first}
use Rattle.cfg_schema.proofs.search.first_row.Goals as goal

pub returns : goal.returns
returns c = found_first _ _ _ _ _ c.requires.rows c.requires.within c.rows_of.ensures.rows c.first_of.ensures
