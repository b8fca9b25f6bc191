use Rattle.std.proofs.Common.{rules, ◌≡◌, ◌||◌, Bool, refl, subst}
use Rattle.std.specs.Prelude.{IfSome, is_some}
use Rattle.record_code.specs.Listed.{record_of}
use Rattle.commit_ledger.specs.Rules.{IsRecordOf, Follows}
use Rattle.commit_ledger.proofs.RecordLemmas.{not_next}
use Rattle.commit_ledger.proofs.ledger.Ledger.go_on.Goals as goal

pub returns-then-not-follows-clause-bad : goal.returns-then-not-follows-clause-bad
returns-then-not-follows-clause-bad g c = λ offset is.
    let place : offset ≡ c.args.placed.now.offset = search rules in
    let own : IsRecordOf (g.J.LedgerCheck.accepted c.args.judge.now) c.is_new.result (record_of c.args.placed.now) c.in-Some.entry =
    subst (λ o. IfSome o (IsRecordOf (g.J.LedgerCheck.accepted c.args.judge.now) c.is_new.result (record_of c.args.placed.now))) c.in-Some.is c.in_ok-entry.ensures.some in
    let is_record : IsRecordOf (g.J.LedgerCheck.accepted c.args.judge.now) (c.args.new || is_some c.args.self.now.scheduled) (record_of c.args.placed.now) c.in-Some.entry =
    subst (λ (b : Bool). IsRecordOf (g.J.LedgerCheck.accepted c.args.judge.now) b (record_of c.args.placed.now) c.in-Some.entry) c.is_new.ensures own in
    let broken : Follows c.args.self.now c.in-Some.entry → ⊥ = λ f. let yes = c.follows.ensures.exact.1 f in search rules in
    (place, refl, not_next (g.J.LedgerCheck.accepted c.args.judge.now) c.args.new c.args.self.now (record_of c.args.placed.now) c.in-Some.entry is_record broken)
