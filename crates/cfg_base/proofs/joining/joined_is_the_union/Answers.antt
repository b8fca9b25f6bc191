use Rattle.cfg_base.proofs.WordLemmas.{joined-front, joined-distinct, joined-lists}
use Rattle.cfg_base.proofs.joining.joined_is_the_union.Goals as goal

pub returns-clause-front : goal.returns-clause-front
returns-clause-front c = joined-front

pub returns-clause-once : goal.returns-clause-once
returns-clause-once c = joined-distinct

pub returns-clause-union : goal.returns-clause-union
returns-clause-union c = joined-lists
