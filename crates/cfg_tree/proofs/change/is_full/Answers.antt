use Rattle.cfg_tree.proofs.RoomLemmas.{full_is}
use Rattle.cfg_tree.proofs.change.is_full.Goals as goal

pub returns : goal.returns
returns c = full_is c.args.entries.now _ c.len.ensures.len c.len.ensures.ordered
