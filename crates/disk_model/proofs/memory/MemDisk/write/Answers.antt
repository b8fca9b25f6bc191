use Rattle.std.proofs.Common.{◌≤◌, IsTrue, ℕ, List, length, ap, sym, subst, arith, ◌∙◌}
use Rattle.disk_model.specs.Kept.{RecordView}
use Rattle.disk_model.specs.Disk.{contents_of}
use Rattle.disk_model.specs.Memory.{MemView, has_room}
use Rattle.disk_model.proofs.Replayed.{written_contents, ends_within, le_of, fits}
use Rattle.disk_model.proofs.memory.MemDisk.write.Goals as goal

pub invariant_of-self : goal.invariant_of-self
invariant_of-self c =
    let d = c.self.inside in
    let more = c.keep_write.ensures in
    let at_end = subst (λ (v : MemView). c.args.at ≤ length (contents_of v.history)) (sym c.self.view_is) c.requires.at_end in
    let room = subst (λ (v : MemView). IsTrue (has_room v c.args.at (length c.args.piece.now))) (sym c.self.view_is) c.requires.room in
    let ends = le_of _ _ (ends_within _ _ _ room).1 in
    record {
      bytes = c.put_within.ensures.items ∙ written_contents d.first.items d.calls.calls d.bytes.items c.self.invariant.bytes _ c.args.at c.args.piece.now (ap (λ (r : RecordView). r.calls) more);
      within = subst (λ (l : List ℕ). length l ≤ d.room) (sym c.put_within.ensures.items)
          (fits c.args.at d.room d.bytes.items c.args.piece.now (subst (λ (l : List ℕ). c.args.at ≤ length l) (sym c.self.invariant.bytes) at_end) c.self.invariant.within ends);
      most = c.self.invariant.most;
      has_room = omega (arith, c.self.invariant.has_room, c.put_within.ensures.capacity);
      record_room = ap (λ (r : RecordView). r.room) more ∙ c.self.invariant.record_room;
      record_limit = ap (λ (r : RecordView). r.limit) more ∙ c.self.invariant.record_limit;
      stated = c.self.invariant.stated;
    }
