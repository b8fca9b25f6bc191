-- A step leaves as many callers as there were.
use Rattle.std.proofs.Common.{◌≡◌, ◌-◌, ℕ, Bool, true, false, length, refl, Option, None, Some}
use Rattle.std.proofs.lemmas.List.{length-set}
use Rattle.config_core.specs.declared.effect.Effect.{Effect}
use Rattle.config_core.specs.declared.effect.Effect.TheVariants.{Stay, Leave, Enter, Move, Edit, Settle, Append}
use Rattle.config_core.specs.declared.event.Outcome.{Outcome}
use Rattle.config_core.specs.declared.event.Outcome.TheVariants.{Done, Fault}
use Rattle.config_core.specs.State.{State, Made}
use Rattle.config_core.specs.Plan.{PreparedView, made_of}
use Rattle.config_core.specs.Entries.{taken}
use Rattle.config_core.specs.Serving.{left_if}
use Rattle.config_core.specs.Machine.{settled, later}
use Rattle.config_core.specs.Prepared.{effected, applied, settled_in}

settled_callers : (s : State) (made : Made) (is_kept : Bool) → length (settled s made is_kept).callers ≡ length s.callers
settled_callers s made true = refl
settled_callers s made false = refl

settled_in_callers : (s : State) (flight : Option Made) (is_kept : Bool) → length (settled_in flight is_kept s).callers ≡ length s.callers
settled_in_callers s None is_kept = refl
settled_in_callers s (Some made) is_kept = settled_callers s made is_kept

left_callers : (s : State) (quit : Bool) (caller : ℕ) → length (left_if quit caller s).callers ≡ length s.callers
left_callers s true caller = length-set s.callers (caller - 1) _
left_callers s false caller = refl

effected_callers : (effect : Effect) (caller : ℕ) (outcome : Outcome) (s : State) → length (effected effect caller outcome s).callers ≡ length s.callers
effected_callers Stay caller outcome s = refl
effected_callers (Leave fresh) caller outcome s = length-set s.callers (caller - 1) _
effected_callers (Enter mode own) caller outcome s = length-set s.callers (caller - 1) _
effected_callers (Move position) caller outcome s = length-set s.callers (caller - 1) _
effected_callers (Edit next) caller outcome s = refl
effected_callers (Settle is_kept) caller outcome s = settled_in_callers s s.flight is_kept
effected_callers (Append a) caller Done s = left_callers (taken s (made_of a)) a.quit caller
effected_callers (Append a) caller Fault s = refl

pub callers_are_as_many : (plan : PreparedView) (outcome : Outcome) (s : State) → length (applied plan outcome s).callers ≡ length s.callers
callers_are_as_many plan outcome s = effected_callers plan.effect plan.caller outcome (later s plan.moment)
