use Rattle.std.proofs.Common.{◌≡◌, ◌+◌, length, refl, ap, subst, ◌∙◌, arith}
use Rattle.record_code.specs.Record.{bodies, body}
use Rattle.commit_ledger.specs.Payload.{entry_record}
use Rattle.stored_ledger.specs.Appending.{IsAppend}
use Rattle.stored_ledger.proofs.StandingLemmas.{texts_short}
use Rattle.stored_ledger.proofs.GrowingLemmas.{entry_appended, entry_rotated, has_room, not_rotated}
use Rattle.stored_ledger.proofs.growing.write_record.Goals as goal

pub keep_image-requires : goal.keep_image-requires
keep_image-requires g c = texts_short c.args.ledger.now c.requires.stands.records c.requires.stands.are

pub returns-in-Ok-clause-ok : goal.returns-in-Ok-clause-ok
returns-in-Ok-clause-ok g c =
    let needs = c.needs_rotation.ensures.0 c.if-needs_rotation.true in
    let same : length c.as_bytes.result.now ≡ length (body 0 (entry_record c.args.entry.now)) = ap length (c.as_bytes.ensures.bytes ∙ ap bodies c.requires.body) in
    entry_rotated c.args.ledger.now c.args.journal.now c.requires.stands c.rotate.new.self _ c.rotate.ensures.stays c.rotate.ensures.counts c.rotate.ensures.cause c.in_ok-image.image c.rotate.ensures.safe
    c.args.entry.now c.requires.next c.in_ok-image.ensures (omega (arith, needs, same)) c.in-Ok.ensures.ok c.append.new.journal c.append.result
    (subst (λ b. IsAppend b c.append.result c.rotate.new.self c.append.new.journal) c.requires.body c.append.ensures)

pub returns-then-needs_rotation-clause-ok : goal.returns-then-needs_rotation-clause-ok
returns-then-needs_rotation-clause-ok g c =
    let needs = c.needs_rotation.ensures.0 c.if-needs_rotation.true in
    let same : length c.as_bytes.result.now ≡ length (body 0 (entry_record c.args.entry.now)) = ap length (c.as_bytes.ensures.bytes ∙ ap bodies c.requires.body) in
    not_rotated c.args.ledger.now c.args.journal.now c.requires.stands c.rotate.new.self _ c.rotate.ensures.stays c.rotate.ensures.counts c.in-Err.ensures.cause c.in_ok-image.image c.rotate.ensures.safe
    c.args.entry.now c.requires.next c.in_ok-image.ensures (omega (arith, needs, same)) refl c.in-Err.ensures.err

pub returns-clause-ok : goal.returns-clause-ok
returns-clause-ok g c =
    let j = c.args.journal.now in
    let room = has_room c.needs_rotation.result j.limit (j.gate + 1 + length c.as_bytes.result.now) c.needs_rotation.ensures c.if-needs_rotation.false in
    let same : length c.as_bytes.result.now ≡ length (body 0 (entry_record c.args.entry.now)) = ap length (c.as_bytes.ensures.bytes ∙ ap bodies c.requires.body) in
    entry_appended c.args.ledger.now c.args.entry.now c.requires.next j c.requires.stands c.append-else-needs_rotation.new.journal c.append-else-needs_rotation.result (omega (arith, room, same))
    (subst (λ b. IsAppend b c.append-else-needs_rotation.result j c.append-else-needs_rotation.new.journal) c.requires.body c.append-else-needs_rotation.ensures)
