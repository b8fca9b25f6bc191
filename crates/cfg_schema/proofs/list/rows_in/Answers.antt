use Rattle.std.proofs.lemmas.Result.{IfOk-weaker}
use Rattle.cfg_schema.proofs.SearchLemmas.{rows_stand}
use Rattle.cfg_schema.proofs.list.rows_in.Goals as goal

pub returns : goal.returns
returns c = IfOk-weaker c.standing.result _ _ (λ stood. rows_stand _ _ _ _ c.requires.rows c.requires.within c.rows_of.ensures.rows) c.standing.ensures
