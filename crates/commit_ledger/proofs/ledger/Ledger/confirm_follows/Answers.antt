use Rattle.std.proofs.Common.{rules}
use Rattle.std.specs.Prelude.{IsSome}
use Rattle.commit_ledger.proofs.KeptLemmas.{run_has_room}
use Rattle.commit_ledger.proofs.ledger.Ledger.confirm_follows.Goals as goal

pub returns-then-le-clause-room : goal.returns-then-le-clause-room
returns-then-le-clause-room c = λ some.
    let waits : IsSome c.args.self.now.pending = search rules in
    run_has_room c.args.self.now c.scheduled.ensures.one c.pending.ensures.room waits
