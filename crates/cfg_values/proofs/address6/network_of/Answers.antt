use Rattle.cfg_values.proofs.address6.network_of.Goals as goal

pub returns-in_err-address-clause-none : goal.returns-in_err-address-clause-none
returns-in_err-address-clause-none c =
    rw c.from_residual.ensures (λ groups n address few digits. c.in_err-address.ensures.none groups address)
