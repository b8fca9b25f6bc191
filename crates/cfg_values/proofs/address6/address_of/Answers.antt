use Rattle.cfg_values.proofs.address6.address_of.Goals as goal

pub returns-in-Err-clause-none : goal.returns-in-Err-clause-none
returns-in-Err-clause-none c = λ groups address. c.in-Err.ensures (record { segments = groups }) address.spelled
