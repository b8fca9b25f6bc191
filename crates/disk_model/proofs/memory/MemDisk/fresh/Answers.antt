use Rattle.std.proofs.Common.{◌≡◌, ℕ, List, length, ap, sym, arith, ◌++◌, ◌∙◌}
use Rattle.disk_model.specs.Kept.{RecordView}
use Rattle.disk_model.specs.Disk.{DiskState, contents_of}
use Rattle.disk_model.specs.Memory.{MemView}
use Rattle.disk_model.proofs.Replayed.{past}
use Rattle.disk_model.proofs.States.{state_first}
use Rattle.disk_model.proofs.memory.MemDisk.fresh.Goals as goal

pub invariant_of-result : goal.invariant_of-result
invariant_of-result c =
    let items : c.extend_from_slice.new.self.items ≡ c.args.image.items =
    c.in_ok-extend_from_slice.ensures.items ∙ ap (λ (l : List ℕ). l ++ c.deref.result.now) c.in_ok-bytes.ensures.items ∙ c.deref.ensures.value in
    let room = ap (λ (v : MemView). v.room) c.self.view_is in
    record {
      bytes = items ∙ sym (ap (λ (s : DiskState). s.contents) (state_first c.args.image.items))
          ∙ ap (λ (r : RecordView). contents_of (past c.args.image.items r.calls)) (sym c.in_ok-new.ensures);
      within = omega (arith, ap length items, room);
      most = c.self.invariant.most;
      has_room = omega (arith, c.in_ok-bytes.ensures.exact, c.extend_from_slice.ensures.capacity);
      record_room = ap (λ (r : RecordView). r.room) c.in_ok-new.ensures;
      record_limit = ap (λ (r : RecordView). r.limit) c.in_ok-new.ensures;
      stated = c.self.invariant.stated;
    }
