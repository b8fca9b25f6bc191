use Rattle.std.proofs.Common.{IsTrue, sym, subst, arith}
use Rattle.disk_model.specs.Memory.{MemView, has_call}
use Rattle.disk_model.proofs.Replayed.{lt_of}
use Rattle.disk_model.proofs.memory.MemDisk.next_mode.Goals as goal

pub overflow_add-count : goal.overflow_add-count
overflow_add-count c =
    let room = subst (λ (v : MemView). IsTrue (has_call v)) (sym c.self.view_is) c.requires in
    omega (arith, lt_of _ _ room, c.self.invariant.stated, c.count.ensures)
