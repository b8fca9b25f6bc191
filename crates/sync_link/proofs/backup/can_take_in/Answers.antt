use Rattle.sync_link.proofs.ValueLemmas.{room_for}
use Rattle.sync_link.proofs.backup.can_take_in.Goals as goal

pub returns : goal.returns
returns c = room_for c.args.ledger.now c.last.ensures.counted c.pending.ensures.room c.scheduled.ensures.room c.scheduled.ensures.one c.args.entry.now c.requires
