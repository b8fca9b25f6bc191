use Rattle.std.proofs.Common.{arith, ap, ◌∙◌, ◌∷◌, length, length-append}
use Rattle.std.specs.Fmt.{decimal}
use Rattle.std.proofs.lemmas.Fmt.{length-decimal-le}
use Rattle.cfg_values.proofs.Address6Lemmas.{address6_short}
use Rattle.cfg_values.proofs.address6.spell_prefix.Goals as goal

pub word_of-requires : goal.word_of-requires
word_of-requires c =
    let text = ap length (c.as_bytes.ensures.value ∙ c.in_ok-text.ensures) in
    let address = ap length (c.as_str.ensures.value ∙ c.in_ok-address.ensures) in
    let bits = length-decimal-le 3 c.args.prefix.bits (omega arith) (omega arith) (omega arith) in
    omega (
      arith,
      text,
      address,
      bits,
      length-append c.as_str.result.now (47 ∷ decimal c.args.prefix.bits),
      address6_short _ _ c.requires.address,
    )
