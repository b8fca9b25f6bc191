use Rattle.std.proofs.Common.{take}
use Rattle.load_ops.specs.Lines.{AreMade}
use Rattle.load_ops.proofs.lines.made.Given as goal

abbrev pub invariant-loop-line : goal.invariant-loop-line
invariant-loop-line l = AreMade l.tree (take l.line-index l.lines) l.next
