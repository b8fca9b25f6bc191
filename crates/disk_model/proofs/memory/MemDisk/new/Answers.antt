use Rattle.std.proofs.Common.{length, ap, sym, arith, ◌∙◌}
use Rattle.disk_model.specs.Kept.{RecordView}
use Rattle.disk_model.specs.Disk.{contents_of, DiskState}
use Rattle.disk_model.proofs.Replayed.{past}
use Rattle.disk_model.proofs.States.{state_first}
use Rattle.disk_model.proofs.memory.MemDisk.new.Goals as goal

pub invariant_of-result : goal.invariant_of-result
invariant_of-result c = record {
  bytes = c.in_ok-with_capacity.ensures.items ∙ sym c.new.ensures.items
      ∙ sym (ap (λ (s : DiskState). s.contents) (state_first c.new.result.items))
      ∙ ap (λ (r : RecordView). contents_of (past c.new.result.items r.calls)) (sym c.in_ok-new.ensures);
  within = omega (arith, ap length c.in_ok-with_capacity.ensures.items);
  most = omega (arith, c.if-room-gt-MAX_LEN.false);
  has_room = omega (arith, c.in_ok-with_capacity.ensures.exact);
  record_room = ap (λ (r : RecordView). r.room) c.in_ok-new.ensures;
  record_limit = ap (λ (r : RecordView). r.limit) c.in_ok-new.ensures;
  stated = omega arith;
}
