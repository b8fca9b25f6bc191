use Rattle.std.proofs.Common.{arith, ap, ◌∙◌, length}
use Rattle.cfg_values.proofs.AddressLemmas.{length-dotted-le}
use Rattle.cfg_values.proofs.address.spell_address.Goals as goal

pub word_of-requires : goal.word_of-requires
word_of-requires c =
    let text = ap length (c.as_bytes.ensures.value ∙ c.in_ok-text.ensures) in
    omega (arith, text, length-dotted-le c.args.quad c.requires.octets, c.requires.four)
