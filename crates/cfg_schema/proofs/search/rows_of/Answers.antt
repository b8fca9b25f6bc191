use Rattle.cfg_schema.proofs.SearchLemmas.{list_read, list_within}
use Rattle.cfg_schema.proofs.search.rows_of.Goals as goal

pub returns-clause-rows : goal.returns-clause-rows
returns-clause-rows c = list_read _ _ _ c.row_lists.ensures.lists c.row_lists.ensures.number c.requires

pub returns-clause-within : goal.returns-clause-within
returns-clause-within c = list_within _ _ _ c.row_lists.ensures.lists c.row_lists.ensures.number c.requires
