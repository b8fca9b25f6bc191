use Rattle.std.proofs.Common.{◌≡◌, ◌++◌, map, replicate}
use Rattle.disk_model.specs.Disk.{Refused}
use Rattle.disk_model.specs.Made.{call_of}
use Rattle.disk_model.proofs.kept.push_refused.Given as goal

abbrev pub invariant-loop : goal.invariant-loop
invariant-loop l = map call_of l.made.items ≡ map call_of l.initial.made.items ++ replicate l.counter Refused
