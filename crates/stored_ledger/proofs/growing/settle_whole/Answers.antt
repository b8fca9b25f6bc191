use Rattle.std.proofs.Common.{refl}
use Rattle.stored_ledger.specs.declared.change.Change.TheVariants.{Whole}
use Rattle.stored_ledger.proofs.GrowingLemmas.{is_turned, not_settled, whole_settled}
use Rattle.stored_ledger.proofs.growing.settle_whole.Goals as goal

pub returns-in-Err : goal.returns-in-Err
returns-in-Err g c =
    not_settled c.args.journal.now c.settle.new.self _ c.settle.ensures.stays c.settle.ensures.counts c.in-Err.ensures.cause c.settle.ensures.safe Whole refl c.in-Err.ensures.err

pub returns-in-Ok : goal.returns-in-Ok
returns-in-Ok g c =
    whole_settled c.args.journal.now c.settle.new.self _ c.settle.ensures.stays c.settle.ensures.counts c.settle.ensures.cause c.settle.ensures.safe c.in-Ok.field-0 c.in-Ok.ensures.ok _
    (is_turned c.counts_b.result c.counts_b-counted_b.result c.settle.new.self.b_counts c.args.journal.now.b_counts c.counts_b.ensures c.counts_b-counted_b.ensures)
