use Rattle.cfg_values.proofs.SpellingLemmas.{IsCanonical-from, kept_where_canonical, ok_then}
use Rattle.cfg_values.proofs.value.read_value.Goals as goal

pub returns-clause-own : goal.returns-clause-own
returns-clause-own c = ok_then _ _ _ c.read.result c.read.ensures (IsCanonical-from c.args.kind c.args.bytes.now)

pub returns-clause-kept : goal.returns-clause-kept
returns-clause-kept c = ok_then _ _ _ c.read.result c.read.ensures (kept_where_canonical c.args.kind c.args.bytes.now)
