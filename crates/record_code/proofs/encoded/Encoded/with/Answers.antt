use Rattle.std.proofs.Common.{◌-◌, ℕ, List, [], ◌∷◌, ◌++◌, take, ap, ◌∙◌, arith, length-append}
use Rattle.record_code.specs.Record.{Record, records_behind}
use Rattle.record_code.proofs.EncodedLemmas.{behind_is, gated_is, next_made, push_sound}
use Rattle.record_code.proofs.encoded.Encoded.with.Goals as goal

pub invariant_of-result : goal.invariant_of-result
invariant_of-result c =
    let r : Record = record { kind = c.args.kind; payload = c.args.payload.now } in
    let old = c.self.inside.bytes in
    let rs : List Record = records_behind old.items in
    gated_is _ (rs ++ r ∷ []) (push_sound rs r c.self.invariant.sound (omega (arith, c.requires))) (omega (arith, length-append rs (r ∷ [])))
    (next_made rs r _ _ _ _ _ c.self.invariant.some c.self.invariant.is (c.pop.ensures.rest ∙ ap (λ (n : ℕ). take (n - 1) old.items) old.ok.0) c.in_ok-push.ensures.items c.as_slice.ensures c.in_ok-add_body.ensures)

pub returns : goal.returns
returns c =
    let r : Record = record { kind = c.args.kind; payload = c.args.payload.now } in
    let old = c.self.inside.bytes in
    let rs : List Record = records_behind old.items in
    behind_is _ (rs ++ r ∷ []) (push_sound rs r c.self.invariant.sound (omega (arith, c.requires))) (omega (arith, length-append rs (r ∷ [])))
    (next_made rs r _ _ _ _ _ c.self.invariant.some c.self.invariant.is (c.pop.ensures.rest ∙ ap (λ (n : ℕ). take (n - 1) old.items) old.ok.0) c.in_ok-push.ensures.items c.as_slice.ensures c.in_ok-add_body.ensures)
    ∙ ap (λ (l : List Record). l ++ r ∷ []) c.self.view_is
