use Rattle.std.proofs.Common.{inl}
use Rattle.session_shell.proofs.json_load.json_item.Goals as goal

pub returns-in-Ok-clause-ends : goal.returns-in-Ok-clause-ends
returns-in-Ok-clause-ends c = inl (record { statements = _; read = c.in-Ok.ensures.ok; load = c.load_of.ensures.ends })
