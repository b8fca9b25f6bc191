use Rattle.std.proofs.Common.{◌≡◌, ◌++◌}
use Rattle.curly_print.specs.Printed.{spaces}
use Rattle.curly_print.proofs.line.push_spaces.Given as goal

abbrev pub invariant-loop : goal.invariant-loop
invariant-loop l = l.text.items ≡ l.fn.text.items ++ spaces l.counter
