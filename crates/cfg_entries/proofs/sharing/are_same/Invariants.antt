use Rattle.std.proofs.Common.{◌≡◌, ◌++◌, take}
use Rattle.cfg_entries.proofs.sharing.are_same.Given as goal

abbrev pub invariant-loop-entry : goal.invariant-loop-entry
invariant-loop-entry g l = l.entries ≡ take l.entry-index l.older ++ l.left
