use Rattle.std.proofs.Common.{take}
use Rattle.load_ops.specs.Parts.{Knows}
use Rattle.load_ops.proofs.tags.set_of.Given as goal

abbrev pub invariant-loop-path : goal.invariant-loop-path
invariant-loop-path l = Knows (take l.path-index l.paths) l.known
