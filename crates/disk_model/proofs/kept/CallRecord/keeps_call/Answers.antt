use Rattle.std.proofs.Common.{length, ap, arith}
use Rattle.disk_model.specs.Kept.{RecordView}
use Rattle.disk_model.proofs.KeptLemmas.{length-recorded, keeps_call_is}
use Rattle.disk_model.proofs.kept.CallRecord.keeps_call.Goals as goal

pub returns : goal.returns
returns c =
    let r = c.self.inside in
    let counted = length-recorded r.kept.items r.written.items r.refused in
    let all = ap (λ (v : RecordView). length v.calls) c.self.view_is in
    let limit = ap (λ (v : RecordView). v.limit) c.self.view_is in
    rw c.len.ensures (keeps_call_is _ r.refused r.limit _ _ (omega (arith, counted, all)) limit (λ more. omega (arith, c.self.invariant.full more)))
