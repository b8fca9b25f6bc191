use Rattle.cfg_tree.proofs.RoomLemmas.{removed_tree}
use Rattle.cfg_tree.proofs.change.remove_in.Goals as goal

pub returns-clause-kept : goal.returns-clause-kept
returns-clause-kept c = removed_tree _ _ _ _ c.requires c.in_ok-count.ensures.ok c.in_ok-count.ensures.count
