use Rattle.std.proofs.Common.{ℕ, List, length, ap, sym, arith, ◌++◌, ◌∷◌, [], ◌∙◌, refl, length-append}
use Rattle.disk_model.specs.Kept.{RecordView, recorded, total_of}
use Rattle.disk_model.specs.Disk.{Write}
use Rattle.disk_model.specs.Memory.{written_bytes}
use Rattle.disk_model.specs.declared.kept.Kept.{Kept}
use Rattle.disk_model.specs.declared.kept.Kept.TheVariants.{Written}
use Rattle.disk_model.proofs.KeptLemmas.{length-recorded, written_bytes-recorded, none_refused, total_of-append, viewed, both_true, write_fits, recorded_write}
use Rattle.disk_model.proofs.kept.CallRecord.keep_write.Goals as goal

pub extend_within-requires : goal.extend_within-requires
extend_within-requires c =
    let r = c.self.inside in
    let bytes = written_bytes-recorded r.kept.items r.written.items r.refused c.self.invariant.total in
    let all = ap (λ (v : RecordView). written_bytes v.calls) c.self.view_is in
    let room = ap (λ (v : RecordView). v.room) c.self.view_is in
    let fits = write_fits (length c.args.piece.now) r.room _ _ _ (sym all ∙ bytes) room (both_true _ _ c.requires).1 in
    omega (arith, fits, c.self.invariant.has_bytes)

pub push_within-requires : goal.push_within-requires
push_within-requires c =
    let r = c.self.inside in
    let all = ap (λ (v : RecordView). length v.calls) c.self.view_is in
    let limit = ap (λ (v : RecordView). v.limit) c.self.view_is in
    let counted = length-recorded r.kept.items r.written.items r.refused in
    let free = none_refused (length r.kept.items) r.refused r.limit _ _ (sym all ∙ counted) limit c.self.invariant.full (both_true _ _ c.requires).0 in
    omega (arith, free.1, c.self.invariant.has_calls)

pub invariant_of-self : goal.invariant_of-self
invariant_of-self c =
    let r = c.self.inside in
    let all = ap (λ (v : RecordView). length v.calls) c.self.view_is in
    let limit = ap (λ (v : RecordView). v.limit) c.self.view_is in
    let counted = length-recorded r.kept.items r.written.items r.refused in
    let free = none_refused (length r.kept.items) r.refused r.limit _ _ (sym all ∙ counted) limit c.self.invariant.full (both_true _ _ c.requires).0 in
    let bytes = written_bytes-recorded r.kept.items r.written.items r.refused c.self.invariant.total in
    let all_bytes = ap (λ (v : RecordView). written_bytes v.calls) c.self.view_is in
    let room = ap (λ (v : RecordView). v.room) c.self.view_is in
    let fits = write_fits (length c.args.piece.now) r.room _ _ _ (sym all_bytes ∙ bytes) room (both_true _ _ c.requires).1 in
    let one : Kept = Written c.args.at (length c.args.piece.now) in
    let more = c.push_within.ensures.items in
    let long = ap length more ∙ length-append r.kept.items (one ∷ []) in
    let longer = ap length c.extend_within.ensures.items ∙ length-append r.written.items c.args.piece.now in
    record {
      total = ap total_of more ∙ total_of-append r.kept.items (one ∷ []) ∙ omega (arith, c.self.invariant.total, longer);
      within = omega (arith, longer, fits);
      stated = omega (arith, long, free.1);
      has_bytes = omega (arith, c.self.invariant.has_bytes, c.extend_within.ensures.capacity);
      has_calls = omega (arith, c.self.invariant.has_calls, c.push_within.ensures.capacity);
      full = λ some. absurd (omega (arith, free.0));
      counted = omega (arith, long, free.0, free.1, c.self.ranges);
    }

pub returns : goal.returns
returns c =
    let r = c.self.inside in
    let all = ap (λ (v : RecordView). length v.calls) c.self.view_is in
    let limit = ap (λ (v : RecordView). v.limit) c.self.view_is in
    let counted = length-recorded r.kept.items r.written.items r.refused in
    let free = none_refused (length r.kept.items) r.refused r.limit _ _ (sym all ∙ counted) limit c.self.invariant.full (both_true _ _ c.requires).0 in
    let one : Kept = Written c.args.at (length c.args.piece.now) in
    viewed _ _ _ (Write c.args.at c.args.piece.now ∷ []) _ _ c.self.view_is
    (ap (λ (l : List Kept). recorded l c.extend_within.new.bytes.items r.refused) c.push_within.ensures.items
    ∙ ap (λ (l : List ℕ). recorded (r.kept.items ++ one ∷ []) l r.refused) c.extend_within.ensures.items
    ∙ recorded_write r.kept.items r.written.items r.refused c.args.at c.args.piece.now _ c.self.invariant.total free.0 refl)
