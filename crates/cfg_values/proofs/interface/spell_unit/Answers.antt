use Rattle.std.proofs.Common.{arith, ap, ◌∙◌, length, length-append}
use Rattle.std.proofs.lemmas.Fmt.{length-decimal-le}
use Rattle.cfg_values.proofs.interface.spell_unit.Goals as goal

pub word_of-requires : goal.word_of-requires
word_of-requires c =
    let number = ap length (c.as_bytes.ensures.value ∙ c.in_ok-number.ensures) in
    let digits = length-decimal-le 10 c.args.unit (omega arith) (omega arith) (omega arith) in
    let name = ap length c.in_ok-text.ensures.items in
    let dot = ap length c.in_ok-push.ensures.items in
    let text = ap length (c.deref.ensures.value ∙ c.in_ok-extend_from_slice.ensures.items) in
    omega (arith, c.requires, number, digits, simp length-append at text, simp length-append at dot, name)
