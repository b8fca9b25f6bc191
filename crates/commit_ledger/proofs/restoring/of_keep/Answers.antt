use Rattle.std.proofs.Common.{arith}
use Rattle.commit_ledger.specs.Form.{keep_read}
use Rattle.commit_ledger.proofs.BehindLemmas.{read_size}
use Rattle.commit_ledger.proofs.restoring.of_keep.Goals as goal

pub restored-requires-clause-some : goal.restored-requires-clause-some
restored-requires-clause-some g c =
    omega (
      arith,
      c.requires.count,
      c.requires.numbers.some,
      read_size (g.J.LedgerCheck.accepted c.args.judge.now) (keep_read c.args.keep) c.args.offset c.args.records.now c.in_ok-commits.commits.items c.read_commits.new.commits.items c.in_ok-commits.ensures.0 c.in-Ok.ensures.ok,
    )

pub restored-requires-clause-few : goal.restored-requires-clause-few
restored-requires-clause-few g c =
    omega (
      arith,
      c.requires.count,
      c.requires.numbers.few,
      read_size (g.J.LedgerCheck.accepted c.args.judge.now) (keep_read c.args.keep) c.args.offset c.args.records.now c.in_ok-commits.commits.items c.read_commits.new.commits.items c.in_ok-commits.ensures.0 c.in-Ok.ensures.ok,
    )
