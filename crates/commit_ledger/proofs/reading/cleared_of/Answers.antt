use Rattle.std.proofs.Common.{is_some, ap}
use Rattle.commit_ledger.proofs.reading.cleared_of.Goals as goal

pub returns-in-None-clause-none : goal.returns-in-None-clause-none
returns-in-None-clause-none c = λ none x of.
    c.in_ok-confirm_of.ensures.none (ap is_some c.in-None.is) (record { number = x.number; user = x.user; moment = x.moment }) (record {
      bytes = of.bytes;
      is_confirm = record { number = of.is_cleared.number; moment = of.is_cleared.moment; user = of.is_cleared.user };
    })
