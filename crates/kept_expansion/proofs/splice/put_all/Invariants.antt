use Rattle.std.proofs.Common.{◌≡◌, length}
use Rattle.std.specs.FinMap as map
use Rattle.cfg_tree.specs.Full.{IsWithin}
use Rattle.kept_expansion.specs.Splice.{with_entries, entries_at}
use Rattle.kept_expansion.proofs.splice.put_all.Given as goal

abbrev pub invariant-loop-path : goal.invariant-loop-path
invariant-loop-path l =
    (with_entries l.made (entries_at l.roots l.left) ≡ with_entries l.initial.made (entries_at l.roots (map.entries l.part))) × IsWithin l.made

abbrev pub decreases-loop-path : goal.decreases-loop-path
decreases-loop-path l = length l.left
