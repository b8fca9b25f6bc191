use Rattle.std.proofs.Common.{refl}
use Rattle.stored_ledger.proofs.GrowingLemmas.{append_done, append_failed}
use Rattle.stored_ledger.proofs.growing.append.Goals as goal

pub returns-in-Err : goal.returns-in-Err
returns-in-Err g c =
    append_failed c.args.journal.now c.append.new.self _ c.append.ensures.stays c.append.ensures.counts c.in-Err.ensures.cause c.args.body.now refl c.in-Err.ensures.err c.append.ensures.safe

pub returns-in-Ok : goal.returns-in-Ok
returns-in-Ok g c =
    append_done c.args.journal.now c.append.new.self _ c.append.ensures.stays c.append.ensures.counts c.append.ensures.cause c.args.body.now c.in-Ok.ensures.ok c.append.ensures.safe
