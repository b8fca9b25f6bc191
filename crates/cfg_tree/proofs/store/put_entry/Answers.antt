use Rattle.std.proofs.lemmas.Result.{on_ok_weaker}
use Rattle.cfg_tree.proofs.EntryLemmas.{inserted}
use Rattle.cfg_tree.proofs.store.put_entry.Goals as goal

pub returns-clause-ok : goal.returns-clause-ok
returns-clause-ok c = on_ok_weaker c.insert.result (inserted c.args.entries.now c.insert.new.self c.args.path c.args.value c.insert.ensures.ordered) c.insert.ensures.ok
