use Rattle.std.proofs.Common.{◌≡◌, ◌++◌, ◌∷◌, [], ◌-◌, length, drop}
use Rattle.commit_ledger.specs.Listing.{all_lines}
use Rattle.commit_ledger.proofs.ledger.Ledger.history_lines.Given as goal

abbrev pub invariant-loop-newer : goal.invariant-loop-newer
invariant-loop-newer l = l.text.items ≡ all_lines (drop (length l.self.older - l.newer) l.self.older ++ l.self.last ∷ [])
