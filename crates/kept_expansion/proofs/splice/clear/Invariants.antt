use Rattle.std.proofs.Common.{◌≡◌, drop}
use Rattle.cfg_tree.specs.Full.{IsWithin}
use Rattle.kept_expansion.specs.Splice.{cleared}
use Rattle.kept_expansion.proofs.splice.clear.Given as goal

abbrev pub invariant-loop-root : goal.invariant-loop-root
invariant-loop-root l =
    (cleared l.made l.full (drop l.root-index l.roots) ≡ cleared l.initial.made l.full l.roots) × IsWithin l.made
