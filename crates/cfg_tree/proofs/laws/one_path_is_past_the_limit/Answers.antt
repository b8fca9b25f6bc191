use Rattle.cfg_tree.proofs.LimitLemmas.{past_once, past_some, past_many}
use Rattle.cfg_tree.proofs.laws.one_path_is_past_the_limit.Goals as goal

pub returns : goal.returns
returns c = record { one_place = past_once; some_place = past_some; too_many = past_many }
