use Rattle.std.proofs.Common.{rules, false}
use Rattle.record_code.specs.Listed.{record_of}
use Rattle.commit_ledger.specs.Rules.{IsRecordOf}
use Rattle.commit_ledger.proofs.opening.open.Goals as goal

pub returns-clause-ok : goal.returns-clause-ok
returns-clause-ok g c =
    let is_record : IsRecordOf (g.J.LedgerCheck.accepted c.args.judge.now) false (record_of c.args.placed.now) c.in-Some.entry = search rules in
    record {
      entry = c.in-Some.entry;
      is_record = is_record;
      commit = c.in-Some-first_commit.commit;
      first = c.in-Some-first_commit.ensures.some;
      is = c.in_ok-opened.ensures;
    }
