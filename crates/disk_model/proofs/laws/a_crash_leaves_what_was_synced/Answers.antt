use Rattle.disk_model.proofs.LeftLemmas.{contents_left, synced_left}
use Rattle.disk_model.proofs.laws.a_crash_leaves_what_was_synced.Goals as goal

pub returns : goal.returns
returns c = record { synced = synced_left; contents = contents_left }
