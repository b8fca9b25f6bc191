use Rattle.std.proofs.Common.{ap, arith}
use Rattle.sync_link.specs.Views.{BackupView}
use Rattle.sync_link.proofs.backup.Backup.take_offer.Goals as goal

pub append-requires-clause-adds : goal.append-requires-clause-adds
append-requires-clause-adds g c = c.requires.adds (omega (arith, c.if-place-count.false, c.count.ensures, ap (λ (v : BackupView). v.kept.count) c.self.view_is))
