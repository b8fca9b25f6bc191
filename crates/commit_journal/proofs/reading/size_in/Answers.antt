use Rattle.commit_journal.proofs.ReadLemmas.{size_is, size_none}
use Rattle.commit_journal.proofs.reading.size_in.Goals as goal

pub returns-then-size-le-MAX_PAYLOAD-clause-size : goal.returns-then-size-le-MAX_PAYLOAD-clause-size
returns-then-size-le-MAX_PAYLOAD-clause-size c = λ file gate is. size_is file _ gate _ is c.length_in-size.ensures c.if-size-le-MAX_PAYLOAD.true

pub returns-else-size-le-MAX_PAYLOAD-clause-size : goal.returns-else-size-le-MAX_PAYLOAD-clause-size
returns-else-size-le-MAX_PAYLOAD-clause-size c = λ file gate is. size_none file _ gate _ is c.length_in-size.ensures c.if-size-le-MAX_PAYLOAD.false
