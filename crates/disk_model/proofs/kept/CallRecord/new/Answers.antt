use Rattle.std.proofs.Common.{ap, List}
use Rattle.disk_model.specs.Kept.{RecordView, recorded}
use Rattle.disk_model.specs.declared.kept.Kept.{Kept}
use Rattle.disk_model.proofs.kept.CallRecord.new.Goals as goal

pub returns : goal.returns
unfolding recorded
returns c =
    let kept = c.in_ok-with_capacity.ensures.items in
    ap (λ (l : List Kept). let v : RecordView = record { calls = recorded l c.in_ok-with_capacity-2.field-0.items 0; room = c.args.room; limit = c.args.limit } in v) kept
