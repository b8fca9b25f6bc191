use Rattle.std.proofs.Common.{ℕ, ◌+◌, ap}
use Rattle.record_code.specs.Reading.{next_gate}
use Rattle.commit_journal.proofs.reading.read_record.Goals as goal

pub returns-clause-next : goal.returns-clause-next
unfolding next_gate
returns-clause-next g c = λ t. ap (λ (n : ℕ). c.args.gate + 38 + n) (c.size_in-size.ensures.size _ _ (c.in-Some.ensures.head t))

pub returns-in-Err-clause-err : goal.returns-in-Err-clause-err
returns-in-Err-clause-err g c = λ t opened. c.in-Err.ensures.err _ _
