use Rattle.std.proofs.Common.{◌≡◌, map, take}
use Rattle.config_core.specs.State.{operational}
use Rattle.config_core.proofs.core_state.callers_of.Given as goal

abbrev pub invariant-loop-user : goal.invariant-loop-user
invariant-loop-user l = l.callers.items ≡ map operational (take l.user-index l.users)
