use Rattle.std.proofs.Common.{◌-◌, List, ℕ, length, take, drop, ap, sym, refl, ◌∙◌}
use Rattle.commit_journal.proofs.ReadLemmas.{damage_is, record_is}
use Rattle.commit_journal.proofs.reading.record_from.Goals as goal

pub returns-then-ne-clause-err : goal.returns-then-ne-clause-err
returns-then-ne-clause-err c = λ file head rest opened.
    let front = c.split_at.ensures.front ∙ ap (λ (l : List ℕ). take (c.len-size.result - 32) l) c.deref.ensures.value in
    let back = c.split_at.ensures.back ∙ ap (λ (l : List ℕ). drop (c.len-size.result - 32) l) c.deref.ensures.value in
    damage_is file c.args.gate c.args.head.now c.args.rest.items _ _ head rest c.len-size.result (c.len-size.ensures ∙ sym c.deref.ensures.len ∙ ap length c.deref.ensures.value) front back _ _ c.copy_from_slice.ensures.after c.digest_of_parts-computed.ensures opened _ c.ne.ensures c.if-ne.true

pub returns-clause-ok : goal.returns-clause-ok
returns-clause-ok c = λ file head rest opened.
    let front = c.split_at.ensures.front ∙ ap (λ (l : List ℕ). take (c.len-size.result - 32) l) c.deref.ensures.value in
    let back = c.split_at.ensures.back ∙ ap (λ (l : List ℕ). drop (c.len-size.result - 32) l) c.deref.ensures.value in
    record_is file c.args.gate c.args.head.now c.args.rest.items _ _ head rest c.len-size.result (c.len-size.ensures ∙ sym c.deref.ensures.len ∙ ap length c.deref.ensures.value) front back _ _ c.copy_from_slice.ensures.after c.digest_of_parts-computed.ensures opened
    _ _ _ c.ne.ensures c.if-ne.false refl (c.from.ensures ∙ c.truncate.ensures.items ∙ sym front)
