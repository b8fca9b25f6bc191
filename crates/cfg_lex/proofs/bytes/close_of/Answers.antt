use Rattle.std.proofs.Common.{◌≡◌, ◌+◌, drop, get_or, eqb, ◌&&◌, false, sym, ap, ◌∙◌, arith}
use Rattle.std.proofs.lemmas.List.{take_rest}
use Rattle.cfg_lex.specs.Bytes.{begins_with}
use Rattle.cfg_lex.proofs.PlaceLemmas.{close_step}
use Rattle.cfg_lex.proofs.bytes.close_of.Goals as goal

pub loop-place-preserved : goal.loop-place-preserved
loop-place-preserved c =
    let text = c.args.text.now in
    let place = c.loop-place.place in
    let none : (eqb (get_or text place 0) 42 && begins_with 47 (drop (place + 1) text)) ≡ false =
    ap (λ bytes. eqb (get_or text place 0) 42 && begins_with 47 bytes) (sym (take_rest text (place + 1)))
    ∙ sym c.is_close.ensures
    ∙ c.if-is_close.false in
    (close_step text place c.loop-place-test.true none ∙ c.loop-place.invariant.0, omega arith)
