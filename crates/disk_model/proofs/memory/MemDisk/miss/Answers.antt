use Rattle.std.proofs.Common.{◌≡◌, ap, sym, refl, ◌++◌, ◌∷◌, [], ◌∙◌, ⊎_elim}
use Rattle.disk_model.specs.Kept.{RecordView, keeps_place, as_kept}
use Rattle.disk_model.specs.Disk.{Call, Missed, contents_of}
use Rattle.disk_model.proofs.Replayed.{past, same_contents, still}
use Rattle.disk_model.proofs.memory.MemDisk.miss.Goals as goal

pub invariant_of-self : goal.invariant_of-self
invariant_of-self c =
    let d = c.self.inside in
    let one : Call = as_kept d.calls (Missed c.args.at c.args.count) in
    let more = λ (is : c.keep.new.self ≡ record { calls = d.calls.calls ++ one ∷ []; room = d.calls.room; limit = d.calls.limit }).
    same_contents d.first.items d.calls.calls d.bytes.items c.self.invariant.bytes _ one (still _ (keeps_place d.calls) (Missed c.args.at c.args.count) refl) (ap (λ (r : RecordView). r.calls) is) in
    record {
      bytes = ⊎_elim more (λ stays. c.self.invariant.bytes ∙ ap (λ (r : RecordView). contents_of (past d.first.items r.calls)) (sym stays.2)) c.keep.ensures;
      within = c.self.invariant.within;
      most = c.self.invariant.most;
      has_room = c.self.invariant.has_room;
      record_room = ⊎_elim (λ is. ap (λ (r : RecordView). r.room) is) (λ stays. ap (λ (r : RecordView). r.room) stays.2) c.keep.ensures ∙ c.self.invariant.record_room;
      record_limit = ⊎_elim (λ is. ap (λ (r : RecordView). r.limit) is) (λ stays. ap (λ (r : RecordView). r.limit) stays.2) c.keep.ensures ∙ c.self.invariant.record_limit;
      stated = c.self.invariant.stated;
    }
