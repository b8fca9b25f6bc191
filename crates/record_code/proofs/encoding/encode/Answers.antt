use Rattle.std.proofs.Common.{[], ◌∷◌, arith}
use Rattle.record_code.specs.Record.{Record}
use Rattle.record_code.proofs.EncodedLemmas.{behind_is, first_made, gated_is, one_sound}
use Rattle.record_code.proofs.encoding.encode.Goals as goal

pub invariant_of-result : goal.invariant_of-result
invariant_of-result c =
    let r : Record = record { kind = c.args.kind; payload = c.args.payload.now } in
    gated_is _ (r ∷ []) (one_sound r (omega (arith, c.requires))) (omega arith)
    (first_made r _ _ _ _ c.in_ok-bytes.ensures.items c.in_ok-push.ensures.items c.as_slice-payload.ensures c.in_ok-add_body.ensures)

pub returns : goal.returns
returns c =
    let r : Record = record { kind = c.args.kind; payload = c.args.payload.now } in
    behind_is _ (r ∷ []) (one_sound r (omega (arith, c.requires))) (omega arith)
    (first_made r _ _ _ _ c.in_ok-bytes.ensures.items c.in_ok-push.ensures.items c.as_slice-payload.ensures c.in_ok-add_body.ensures)
