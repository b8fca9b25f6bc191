use Rattle.std.proofs.Common.{refl}
use Rattle.cfg_schema.specs.Query.{row_lists}
use Rattle.cfg_schema.proofs.search.row_lists.Goals as goal

pub returns-clause-lists : goal.returns-clause-lists
unfolding row_lists
returns-clause-lists c = refl

pub returns-clause-number : goal.returns-clause-number
returns-clause-number c = refl
