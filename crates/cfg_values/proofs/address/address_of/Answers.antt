use Rattle.std.proofs.Common.{◌∙◌, ap, length}
use Rattle.cfg_values.proofs.DotLemmas.{IsFront-unique, front_from_address, absent}
use Rattle.cfg_values.proofs.address.address_of.Goals as goal

pub returns-clause-none : goal.returns-clause-none
returns-clause-none c =
    absent c.whole.result (λ some quad address.
    let same = IsFront-unique _ _ quad c.in_ok-octets_of.ensures.some (front_from_address _ quad address) in
    some (c.whole.ensures.whole.1 (ap length same ∙ address.four)))
