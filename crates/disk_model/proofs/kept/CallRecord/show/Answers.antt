use Rattle.std.proofs.Common.{◌++◌, List, ℕ, replicate, ap, ◌∙◌}
use Rattle.disk_model.specs.Disk.{Call, Refused}
use Rattle.disk_model.specs.declared.kept.Kept.{Kept}
use Rattle.disk_model.specs.Kept.{RecordView, recorded, calls_of}
use Rattle.disk_model.proofs.kept.CallRecord.show.Goals as goal

pub returns : goal.returns
unfolding recorded
returns c =
    let r = c.self.inside in
    c.in_ok-push_refused.ensures
    ∙ ap (λ (l : List Call). l ++ replicate r.refused Refused)
    (c.in_ok-made.ensures
    ∙ ap (λ (k : List Kept). calls_of k c.deref-2.result.now) c.deref.ensures.value
    ∙ ap (λ (b : List ℕ). calls_of r.kept.items b) c.deref-2.ensures.value)
    ∙ ap (λ (v : RecordView). v.calls) c.self.view_is
