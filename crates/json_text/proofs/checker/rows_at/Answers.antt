use Rattle.std.proofs.Common.{arith}
use Rattle.cfg_schema.proofs.RowFacts.{profile_length}
use Rattle.json_text.proofs.checker.rows_at.Goals as goal

pub returns-clause-within : goal.returns-clause-within
returns-clause-within c = omega (arith, profile_length, c.number.ensures.same, c.number.ensures.within)
