use Rattle.std.proofs.Common.{refl, subst}
use Rattle.commit_journal.specs.Steps.{IsSettledAs}
use Rattle.stored_ledger.specs.declared.change.Change.TheVariants.{Entry}
use Rattle.stored_ledger.proofs.GrowingLemmas.{entry_kept, entry_not_kept, not_settled}
use Rattle.stored_ledger.proofs.growing.settle_entry.Goals as goal

pub returns-in-Ok-Kept : goal.returns-in-Ok-Kept
returns-in-Ok-Kept g c =
    entry_kept c.args.journal.now c.settle.new.self _ c.settle.ensures.stays c.settle.ensures.counts c.settle.ensures.cause c.settle.ensures.safe
    (subst (λ s. IsSettledAs c.args.journal.now s c.settle.new.self) c.in-Ok-Kept.field-0-is c.in-Ok-Kept.ensures.ok)

pub returns-in-Ok-NotKept : goal.returns-in-Ok-NotKept
returns-in-Ok-NotKept g c =
    entry_not_kept c.args.journal.now c.settle.new.self _ c.settle.ensures.stays c.settle.ensures.counts c.settle.ensures.cause c.settle.ensures.safe
    (subst (λ s. IsSettledAs c.args.journal.now s c.settle.new.self) c.in-Ok-NotKept.field-0-is c.in-Ok-NotKept.ensures.ok)

pub returns-in-Err : goal.returns-in-Err
returns-in-Err g c =
    not_settled c.args.journal.now c.settle.new.self _ c.settle.ensures.stays c.settle.ensures.counts c.in-Err.ensures.cause c.settle.ensures.safe Entry refl c.in-Err.ensures.err
