use Rattle.std.proofs.Common.{◌≡◌, List, ℕ, take, min, length, ap, subst, ◌∙◌, arith}
use Rattle.disk_model.specs.Disk.{DiskState, after, at_first}
use Rattle.disk_model.specs.declared.kept.Kept.{Kept}
use Rattle.disk_model.specs.Kept.{RecordView, calls_of}
use Rattle.disk_model.specs.Marks.{Knows}
use Rattle.disk_model.proofs.KeptLemmas.{total_of-take, after_recorded}
use Rattle.disk_model.proofs.kept.CallRecord.replay_to.Goals as goal

pub replayed-requires : goal.replayed-requires
replayed-requires c =
    let kept = c.self.inside.kept.items in
    rw (c.deref.ensures.value, c.deref-2.ensures.value) (omega (arith, total_of-take c.min-count.result kept, c.self.invariant.total))

pub returns : goal.returns
returns c =
    let r = c.self.inside in
    let s = at_first c.args.first.now in
    let count : c.min-count.result ≡ min c.args.call (length r.kept.items) = omega (arith, c.min-count.ensures, c.len.ensures) in
    let here =
    ap (λ (k : List Kept). after s (calls_of (take c.min-count.result k) c.deref-2.result.now)) c.deref.ensures.value
    ∙ ap (λ (b : List ℕ). after s (calls_of (take c.min-count.result r.kept.items) b)) c.deref-2.ensures.value
    ∙ ap (λ (n : ℕ). after s (calls_of (take n r.kept.items) r.written.items)) count
    ∙ after_recorded s c.args.call r.kept.items r.written.items r.refused
    ∙ ap (λ (v : RecordView). after s (take c.args.call v.calls)) c.self.view_is in
    let replay = c.in_ok-replayed.field-0 in
    subst (λ (t : DiskState). Knows replay.bytes.items replay.marks.items replay.synced t) here c.in_ok-replayed.ensures
