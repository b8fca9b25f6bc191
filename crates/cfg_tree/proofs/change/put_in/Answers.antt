use Rattle.cfg_tree.proofs.RoomLemmas.{put_tree}
use Rattle.cfg_tree.proofs.change.put_in.Goals as goal

pub returns-clause-kept : goal.returns-clause-kept
returns-clause-kept c =
    put_tree _ _ _ _ c.requires.tree c.requires.ready c.in_ok-check.ensures.ok c.in_ok-new.ensures.1 c.in_ok-store.ensures.ok
