use Rattle.std.proofs.Common.{refl}
use Rattle.stored_ledger.proofs.StandingLemmas.{texts_short}
use Rattle.stored_ledger.proofs.GrowingLemmas.{not_replaced, replaced}
use Rattle.stored_ledger.proofs.growing.replace_list.Goals as goal

pub keep_image-requires : goal.keep_image-requires
keep_image-requires g c = texts_short c.args.whole.now c.requires.whole.0 c.requires.whole.1

pub returns-in-Ok-clause-ok : goal.returns-in-Ok-clause-ok
returns-in-Ok-clause-ok g c =
    replaced c.args.whole.now c.requires.whole c.args.journal.now c.rotate.new.self _ c.rotate.ensures.stays c.rotate.ensures.counts c.rotate.ensures.cause c.in_ok-image.image c.in_ok-image.ensures
    c.rotate.ensures.safe c.in-Ok.ensures.ok

pub returns-clause-ok : goal.returns-clause-ok
returns-clause-ok g c =
    not_replaced c.args.whole.now c.requires.whole c.args.journal.now c.rotate.new.self _ c.rotate.ensures.stays c.rotate.ensures.counts c.in-Err.ensures.cause c.in_ok-image.image c.in_ok-image.ensures
    c.rotate.ensures.safe refl c.in-Err.ensures.err
