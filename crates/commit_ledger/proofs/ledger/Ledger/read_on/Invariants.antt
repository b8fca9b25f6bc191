use Rattle.std.proofs.Common.{◌≡◌, take}
use Rattle.record_code.specs.Listed.{records_of}
use Rattle.commit_ledger.specs.Reading.{GoesThrough}
use Rattle.commit_ledger.specs.Rules.{new_after}
use Rattle.commit_ledger.proofs.ledger.Ledger.read_on.Given as goal

abbrev pub invariant-loop-placed : goal.invariant-loop-placed
invariant-loop-placed g l =
    GoesThrough (g.J.LedgerCheck.accepted l.judge) l.new l.fn.self (records_of (take l.placed-index l.records)) l.self
    × (l.seen ≡ new_after l.new (records_of (take l.placed-index l.records)))
