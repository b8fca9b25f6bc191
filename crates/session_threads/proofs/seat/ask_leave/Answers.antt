use Rattle.session_threads.proofs.SeatLemmas.{IsWithin-took, Waited-then}
use Rattle.session_threads.proofs.seat.ask_leave.Goals as goal

pub returns-clause-waited : goal.returns-clause-waited
returns-clause-waited g c = Waited-then c.turn-note.result.list c.args.pass.now c.turn-note.new.pass c.turn-note.ensures

pub returns-clause-within : goal.returns-clause-within
returns-clause-within g c = λ first fixed is.
    IsWithin-took c.turn-note.result.list c.args.pass.now c.turn-note.new.pass c.turn-note.ensures c.args.reader.now
    (c.is_within.ensures.within is) first fixed
