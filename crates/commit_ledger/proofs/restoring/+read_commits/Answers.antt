use Rattle.std.proofs.Common.{◌-◌, Bool, length, take, drop, subst}
use Rattle.commit_ledger.specs.Restoring.{IsBadCommit}
use Rattle.commit_ledger.proofs.BehindLemmas.{bad_first, bad_later}
use Rattle.commit_ledger.proofs.restoring.+read_commits.Goals as goal

pub returns-in-Err-clause-bad : goal.returns-in-Err-clause-bad
returns-in-Err-clause-bad g t c = λ offset is.
    let bad = c.in-Err.ensures.bad offset is in
    bad_first (g.J.LedgerCheck.accepted c.args.judge.now) c.args.new c.args.records.now c.first-item.result c.first-item.is c.in-len1-up.len_at_least offset bad.0 bad.1

pub returns-in-Ok-clause-bad : goal.returns-in-Ok-clause-bad
returns-in-Ok-clause-bad g t c = λ offset is.
    bad_later (g.J.LedgerCheck.accepted c.args.judge.now) c.args.new c.args.records.now c.first-item.result c.first-item.is c.in-len1-up.len_at_least c.args.commits.now.items c.push_commit.new.commits.items
    offset c.in-Ok.ensures.ok
    (subst (λ (b : Bool). IsBadCommit (g.J.LedgerCheck.accepted c.args.judge.now) b (take (length c.args.records.now - 1) (drop 1 c.args.records.now)) offset) c.new_behind-seen.ensures (c.read_commits.ensures.bad offset is))
