use Rattle.std.proofs.Common.{sym, subst}
use Rattle.disk_model.specs.Disk.{step}
use Rattle.disk_model.specs.declared.kept.Kept.{Kept}
use Rattle.disk_model.specs.Kept.{call_of}
use Rattle.disk_model.specs.Marks.{Knows}
use Rattle.disk_model.proofs.replay.replay_call.Goals as goal

pub returns-in_ok-replay_miss-in-Missed-clause-state : goal.returns-in_ok-replay_miss-in-Missed-clause-state
returns-in_ok-replay_miss-in-Missed-clause-state c = λ s knows.
    let r = c.replay_miss.new.replay in
    subst (λ (k : Kept). Knows r.bytes.items r.marks.items r.synced (step s (call_of k c.args.bytes.now))) (sym c.in-Missed.is) (c.in_ok-replay_miss-in-Missed.ensures s knows)
