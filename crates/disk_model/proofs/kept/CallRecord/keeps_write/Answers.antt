use Rattle.std.proofs.Common.{◌≡◌, ◌&&◌, ◌∙◌, true, Bool, nat_le, ◌+◌, ap, sym, arith}
use Rattle.disk_model.specs.Kept.{RecordView, keeps_call}
use Rattle.disk_model.specs.Memory.{written_bytes}
use Rattle.disk_model.proofs.KeptLemmas.{written_bytes-recorded, keeps_write_is}
use Rattle.disk_model.proofs.kept.CallRecord.keeps_write.Goals as goal

pub returns-then-keeps_call : goal.returns-then-keeps_call
returns-then-keeps_call c =
    let r = c.self.inside in
    let bytes = written_bytes-recorded r.kept.items r.written.items r.refused c.self.invariant.total in
    let all = ap (λ (v : RecordView). written_bytes v.calls) c.self.view_is in
    let room = ap (λ (v : RecordView). v.room) c.self.view_is in
    let keeps : keeps_call c.args.self.now ≡ true = sym c.keeps_call.ensures ∙ c.if-keeps_call.true in
    rw c.len.ensures (keeps_write_is c.args.count r.room _ _ _ (omega (arith, c.self.invariant.within)) (sym all ∙ bytes ∙ omega arith) room
    ∙ sym (ap (λ (b : Bool). b && nat_le (written_bytes c.args.self.now.calls + c.args.count) c.args.self.now.room) keeps))
