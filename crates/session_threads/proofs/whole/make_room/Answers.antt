use Rattle.std.proofs.Common.{rules}
use Rattle.session_threads.proofs.whole.make_room.Goals as goal

pub returns : goal.returns
returns g c = record { no_seats = search rules; no_lists = search rules; seats = search rules; lists = search rules }
