use Rattle.std.proofs.Common.{◌∙◌, ap, subst, Bool, [], ◌∷◌}
use Rattle.record_code.specs.Listed.{record_of}
use Rattle.commit_ledger.specs.Kept.{Kept}
use Rattle.commit_ledger.specs.Reading.{GoesOn}
use Rattle.commit_ledger.specs.Rules.{new_after}
use Rattle.commit_ledger.proofs.RecordLemmas.{first_bad, new_at, reads_more}
use Rattle.commit_ledger.proofs.ledger.Ledger.read_on.Goals as goal

pub loop-placed-preserved : goal.loop-placed-preserved
loop-placed-preserved g c = (
  reads_more (g.J.LedgerCheck.accepted c.args.judge.now) c.args.new c.args.self.now c.loop-placed.self c.go_on.new.self c.args.records.now
      c.loop-placed.placed-index c.placed-item.result c.loop-placed-test.true c.placed-item.is c.loop-placed.invariant.0
      (subst (λ (b : Bool). GoesOn (g.J.LedgerCheck.accepted c.args.judge.now) b c.loop-placed.self (record_of c.placed-item.result) c.go_on.new.self) c.loop-placed.invariant.1 c.in_default.ensures.ok),
  c.new_behind-seen.ensures ∙ ap (λ (b : Bool). new_after b (record_of c.placed-item.result ∷ [])) c.loop-placed.invariant.1
      ∙ new_at c.args.new c.args.records.now c.loop-placed.placed-index c.placed-item.result c.loop-placed-test.true c.placed-item.is,
)

pub returns-in-Err-clause-bad : goal.returns-in-Err-clause-bad
returns-in-Err-clause-bad g c = λ offset is.
    let bad = c.in-Err.ensures.bad offset is in
    first_bad (g.J.LedgerCheck.accepted c.args.judge.now) c.args.new c.args.self.now c.loop-placed.self c.args.records.now c.loop-placed.placed-index c.placed-item.result offset
    c.loop-placed-test.true c.placed-item.is c.loop-placed.invariant.0 bad.0
    (subst (λ (b : Bool). (next : Kept) → GoesOn (g.J.LedgerCheck.accepted c.args.judge.now) b c.loop-placed.self (record_of c.placed-item.result) next → ⊥) c.loop-placed.invariant.1 bad.2)
