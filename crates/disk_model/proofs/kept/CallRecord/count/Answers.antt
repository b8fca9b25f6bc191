use Rattle.std.proofs.Common.{length, ap, arith}
use Rattle.disk_model.specs.Kept.{RecordView}
use Rattle.disk_model.proofs.KeptLemmas.{length-recorded}
use Rattle.disk_model.proofs.kept.CallRecord.count.Goals as goal

pub returns : goal.returns
returns c =
    let r = c.self.inside in
    omega (arith, length-recorded r.kept.items r.written.items r.refused, ap (λ (v : RecordView). length v.calls) c.self.view_is)
