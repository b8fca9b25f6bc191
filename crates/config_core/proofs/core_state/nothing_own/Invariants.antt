use Rattle.std.proofs.Common.{◌≡◌, map, take}
use Rattle.config_core.specs.State.{nothing_own}
use Rattle.config_core.proofs.core_state.nothing_own.Given as goal

abbrev pub invariant-loop-user : goal.invariant-loop-user
invariant-loop-user l = l.own.items ≡ map nothing_own (take l._user-index l.users)
