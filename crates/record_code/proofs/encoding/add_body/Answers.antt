use Rattle.std.proofs.Common.{refl, ◌∙◌}
use Rattle.record_code.specs.Record.{Record}
use Rattle.record_code.proofs.EncodedLemmas.{pieces}
use Rattle.record_code.proofs.encoding.add_body.Goals as goal

pub returns : goal.returns
returns c =
    let r : Record = record { kind = c.args.kind; payload = c.args.payload.now } in
    pieces r _ _ _ _ _ _ _ _ _ _ _ c.in_ok-push.ensures.items c.to_be_bytes.ensures c.in_ok-extend_from_slice.ensures.items
    refl c.in_ok-extend_from_slice-2.ensures.items (c.len-from.ensures ∙ c.args.bytes.now.ok.0) c.deref.ensures.value c.digest_of-digest.ensures
    c.in_ok-extend_from_slice-3.ensures.items c.in_ok-push-2.ensures.items
