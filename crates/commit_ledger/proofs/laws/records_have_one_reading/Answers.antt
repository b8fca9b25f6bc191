use Rattle.commit_ledger.proofs.RecordLemmas.{one_entry}
use Rattle.commit_ledger.proofs.ReadingLemmas.{one_reading, one_unread, not_read, read_maps_are_accepted, read_waits, appended_is_read}
use Rattle.commit_ledger.proofs.laws.records_have_one_reading.Goals as goal

pub returns-clause-one_entry : goal.returns-clause-one_entry
returns-clause-one_entry g c = one_entry (g.J.LedgerCheck.accepted c.args.judge.now)

pub returns-clause-one_reading : goal.returns-clause-one_reading
returns-clause-one_reading g c = one_reading (g.J.LedgerCheck.accepted c.args.judge.now)

pub returns-clause-not_both : goal.returns-clause-not_both
returns-clause-not_both g c = not_read (g.J.LedgerCheck.accepted c.args.judge.now)

pub returns-clause-one_bad : goal.returns-clause-one_bad
returns-clause-one_bad g c = one_unread (g.J.LedgerCheck.accepted c.args.judge.now)

pub returns-clause-accepted : goal.returns-clause-accepted
returns-clause-accepted g c = read_maps_are_accepted (g.J.LedgerCheck.accepted c.args.judge.now)

pub returns-clause-waits : goal.returns-clause-waits
returns-clause-waits g c = read_waits (g.J.LedgerCheck.accepted c.args.judge.now)

pub returns-clause-read_back : goal.returns-clause-read_back
returns-clause-read_back g c = appended_is_read (g.J.LedgerCheck.accepted c.args.judge.now)
