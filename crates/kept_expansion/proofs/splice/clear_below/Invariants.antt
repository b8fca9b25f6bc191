use Rattle.std.proofs.Common.{◌≡◌, length, filter}
use Rattle.std.specs.FinMap as map
use Rattle.std.specs.Map.{keys_of}
use Rattle.cfg_tree.specs.Full.{IsWithin}
use Rattle.cfg_tree.specs.Statements.{is_below}
use Rattle.cfg_tree.specs.Shown.{without_all}
use Rattle.cfg_tree.proofs.BelowLemmas.{front_of}
use Rattle.kept_expansion.proofs.splice.clear_below.Given as goal

abbrev pub invariant-loop-path : goal.invariant-loop-path
invariant-loop-path l =
    (without_all l.made (front_of (is_below l.root) (keys_of l.left)) ≡ without_all l.initial.made (filter (is_below l.root) (map.keys l.full))) × IsWithin l.made

abbrev pub decreases-loop-path : goal.decreases-loop-path
decreases-loop-path l = length l.left
