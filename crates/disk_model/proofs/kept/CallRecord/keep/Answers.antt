use Rattle.std.proofs.Common.{◌≡◌, ◌<◌, ◌*◌, ◌++◌, List, Bool, true, false, cond, refl, length, ap, sym, arith, ◌∷◌, [], ◌∙◌, inl, inr, length-append}
use Rattle.disk_model.specs.Kept.{RecordView, recorded, total_of, call_of, keeps_place, as_kept}
use Rattle.disk_model.specs.Disk.{Refused}
use Rattle.disk_model.specs.declared.kept.Kept.{Kept}
use Rattle.disk_model.proofs.KeptLemmas.{length-recorded, total_of-append, viewed, none_past, recorded_call, recorded_more, has_place, no_place}
use Rattle.disk_model.proofs.kept.CallRecord.keep.Goals as goal

pub invariant_of-self : goal.invariant_of-self
invariant_of-self c =
    let r = c.self.inside in
    let more = c.push_within.ensures.items in
    let long = ap length more ∙ length-append r.kept.items (c.args.call ∷ []) in
    let lt : length r.kept.items < 2 * r.limit = omega (arith, c.if-len-self.true, c.len.ensures) in
    record {
      total = ap total_of more ∙ total_of-append r.kept.items (c.args.call ∷ []) ∙ omega (arith, c.self.invariant.total, c.requires);
      within = c.self.invariant.within;
      stated = omega (arith, long, lt);
      has_bytes = c.self.invariant.has_bytes;
      has_calls = omega (arith, c.self.invariant.has_calls, c.push_within.ensures.capacity);
      full = λ some. absurd (omega (arith, c.self.invariant.full some, lt));
      counted = omega (arith, long, lt, c.self.ranges, none_past _ _ (2 * r.limit) c.self.invariant.full lt);
    }

pub overflow_add-self : goal.overflow_add-self
overflow_add-self c =
    let r = c.self.inside in
    let all = ap (λ (v : RecordView). length v.calls) c.self.view_is in
    let counted = length-recorded r.kept.items r.written.items r.refused in
    omega (arith, all, counted, c.count.ensures, c.if-count-lt18446744073709551615.true)

pub invariant_of-self-then-count-lt18446744073709551615 : goal.invariant_of-self-then-count-lt18446744073709551615
invariant_of-self-then-count-lt18446744073709551615 c =
    let r = c.self.inside in
    let all = ap (λ (v : RecordView). length v.calls) c.self.view_is in
    let counted = length-recorded r.kept.items r.written.items r.refused in
    record {
      total = c.self.invariant.total;
      within = c.self.invariant.within;
      stated = c.self.invariant.stated;
      has_bytes = c.self.invariant.has_bytes;
      has_calls = c.self.invariant.has_calls;
      full = λ some. omega (arith, c.if-len-self.false, c.len.ensures);
      counted = omega (arith, all, counted, c.count.ensures, c.if-count-lt18446744073709551615.true);
    }

pub returns-then-len-self : goal.returns-then-len-self
returns-then-len-self c =
    let r = c.self.inside in
    let old = c.args.self.now in
    let lt : length r.kept.items < 2 * r.limit = omega (arith, c.if-len-self.true, c.len.ensures) in
    let none : r.refused ≡ 0 = none_past (length r.kept.items) _ (2 * r.limit) c.self.invariant.full lt in
    let all = ap (λ (v : RecordView). length v.calls) c.self.view_is in
    let limit = ap (λ (v : RecordView). v.limit) c.self.view_is in
    let counted = length-recorded r.kept.items r.written.items r.refused in
    let place : keeps_place old ≡ true = has_place (length r.kept.items) r.refused r.limit _ _ (sym all ∙ counted) limit lt none in
    inl (viewed _ _ _ (as_kept old (call_of c.args.call []) ∷ []) _ _ c.self.view_is
    (ap (λ (l : List Kept). recorded l r.written.items r.refused) c.push_within.ensures.items ∙ recorded_call r.kept.items r.written.items r.refused c.args.call c.self.invariant.total none
    ∙ sym (ap (λ (b : Bool). recorded r.kept.items r.written.items r.refused ++ cond b (call_of c.args.call []) Refused ∷ []) place)))

pub returns-then-count-lt18446744073709551615 : goal.returns-then-count-lt18446744073709551615
returns-then-count-lt18446744073709551615 c =
    let r = c.self.inside in
    let old = c.args.self.now in
    let all = ap (λ (v : RecordView). length v.calls) c.self.view_is in
    let limit = ap (λ (v : RecordView). v.limit) c.self.view_is in
    let counted = length-recorded r.kept.items r.written.items r.refused in
    let full : keeps_place old ≡ false = no_place (length r.kept.items) r.refused r.limit _ _ (sym all ∙ counted) limit (omega (arith, c.if-len-self.false, c.len.ensures)) in
    inl (viewed _ _ _ (as_kept old (call_of c.args.call []) ∷ []) _ _ c.self.view_is
    (recorded_more r.kept.items r.written.items r.refused
    ∙ sym (ap (λ (b : Bool). recorded r.kept.items r.written.items r.refused ++ cond b (call_of c.args.call []) Refused ∷ []) full)))

pub returns-else-count-lt18446744073709551615 : goal.returns-else-count-lt18446744073709551615
returns-else-count-lt18446744073709551615 c =
    let r = c.self.inside in
    let old = c.args.self.now in
    let all = ap (λ (v : RecordView). length v.calls) c.self.view_is in
    let limit = ap (λ (v : RecordView). v.limit) c.self.view_is in
    let counted = length-recorded r.kept.items r.written.items r.refused in
    let full : keeps_place old ≡ false = no_place (length r.kept.items) r.refused r.limit _ _ (sym all ∙ counted) limit (omega (arith, c.if-len-self.false, c.len.ensures)) in
    inr (omega (arith, c.count.ensures, c.if-count-lt18446744073709551615.false), full, refl)
