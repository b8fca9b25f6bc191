use Rattle.std.proofs.Common.{arith, ap, ◌∙◌, length}
use Rattle.std.proofs.lemmas.Fmt.{length-decimal-le}
use Rattle.cfg_values.proofs.number.spell_number.Goals as goal

pub word_of-requires : goal.word_of-requires
word_of-requires c =
    let text = ap length (c.as_bytes.ensures.value ∙ c.in_ok-text.ensures) in
    omega (arith, text, length-decimal-le 10 c.args.number (omega arith) (omega arith) (omega arith))
