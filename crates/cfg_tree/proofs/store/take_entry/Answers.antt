use Rattle.std.proofs.lemmas.Result.{on_ok_weaker}
use Rattle.cfg_tree.proofs.EntryLemmas.{taken}
use Rattle.cfg_tree.proofs.store.take_entry.Goals as goal

pub returns-clause-ok : goal.returns-clause-ok
returns-clause-ok c = on_ok_weaker c.remove.result (taken c.args.entries.now c.remove.new.self c.args.path.now) c.remove.ensures.ok
