use Rattle.cfg_tree.proofs.RoomLemmas.{new_is}
use Rattle.cfg_tree.proofs.change.is_new.Goals as goal

pub returns : goal.returns
returns c = new_is c.args.entries.now c.args.path.now _ c.contains_key.ensures
