use Rattle.std.proofs.Common.{arith}
use Rattle.config_core.proofs.SoundLemmas.{factory_sound, steps_keep}
use Rattle.config_core.proofs.laws.active_configuration_stays_accepted.Goals as goal

pub returns-clause-factory : goal.returns-clause-factory
returns-clause-factory c = factory_sound c.nothing_is_accepted.ensures

pub returns-clause-opening : goal.returns-clause-opening
returns-clause-opening c = λ kept users sound. record { kept = sound; no_later = search arith; flight = tt }

pub returns-clause-steps : goal.returns-clause-steps
returns-clause-steps c = λ s caller moment event outcome turned sound fits steps. (steps_keep s caller moment event outcome turned sound fits steps).0

pub returns-clause-entries : goal.returns-clause-entries
returns-clause-entries c = λ s caller moment event outcome turned sound fits steps. (steps_keep s caller moment event outcome turned sound fits steps).1

pub returns-clause-accepted : goal.returns-clause-accepted
returns-clause-accepted c = λ s sound. sound.kept.maps.last
