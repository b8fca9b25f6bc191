use Rattle.std.proofs.Common.{List, ap, refl, sym}
use Rattle.disk_model.specs.Disk.{at_first}
use Rattle.disk_model.specs.Marks.{is_marked}
use Rattle.disk_model.specs.declared.replay.Mark.{Mark}
use Rattle.disk_model.proofs.replay.replayed.Goals as goal

pub loop-rest-init : goal.loop-rest-init
loop-rest-init c = (
  at_first c.args.first.now,
  record {
    contents = c.in_ok-from_slice.ensures.items;
    pending = λ k. sym (ap (λ (ms : List Mark). is_marked ms k) c.new.ensures.items);
    sync = refl;
  },
  refl,
  c.requires,
)
