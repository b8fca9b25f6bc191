use Rattle.std.proofs.Common.{vec_capacity}
use Rattle.disk_model.specs.Pair.{pair_of}
use Rattle.sync_link.proofs.StepLemmas.{begun, begun_backup}
use Rattle.sync_link.proofs.backup.Backup.start.Goals as goal

pub invariant_of-result : goal.invariant_of-result
invariant_of-result g c = (
  begun_backup (pair_of g.D.Disk.view c.args.a c.args.b) c.args.limits.journal c.in-Ok.stored.journal c.in-Ok.stored.ledger c.new.result.items (vec_capacity c.new.result) c.new.ensures.items
      c.in-Ok.ensures.opened c.in-Ok.ensures.stored,
  tt,
)

pub returns-in-Ok-clause-begun : goal.returns-in-Ok-clause-begun
returns-in-Ok-clause-begun g c =
    begun (pair_of g.D.Disk.view c.args.a c.args.b) c.args.limits.journal c.in-Ok.stored.journal c.in-Ok.stored.ledger c.new.result.items (vec_capacity c.new.result) c.new.ensures.items
    c.in-Ok.ensures.opened c.in-Ok.ensures.stored
