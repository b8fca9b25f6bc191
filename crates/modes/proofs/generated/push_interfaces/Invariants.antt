use Rattle.std.proofs.Common.{◌≡◌, ◌++◌}
use Rattle.modes.specs.Generated.{interfaces_text}
use Rattle.modes.proofs.generated.push_interfaces.Given as goal

-- the interfaces before this one stand after the text
abbrev pub invariant-loop-number : goal.invariant-loop-number
invariant-loop-number l = l.text.items ≡ l.fn.text.items ++ interfaces_text l.number
