use Rattle.commit_ledger.specs.Rules.{Follows}
use Rattle.config_core.specs.Plan.{made_in}
use Rattle.stored_ledger.specs.Writable.{IsWritable}
use Rattle.config_db.proofs.ShownLemmas.{of_made}
use Rattle.config_db.proofs.WritingLemmas.{entry_if_written, none_written}
use Rattle.config_db.proofs.writing.write.Goals as goal

pub write_entry-requires-clause-writable : goal.write_entry-requires-clause-writable
write_entry-requires-clause-writable g c = of_made (made_in c.args.prepared.now.effect) c.in-Some.entry.now IsWritable c.in-Some.ensures c.requires.writable

pub write_entry-requires-clause-follows : goal.write_entry-requires-clause-follows
write_entry-requires-clause-follows g c = of_made (made_in c.args.prepared.now.effect) c.in-Some.entry.now (Follows c.args.ledger.now) c.in-Some.ensures c.requires.follows

pub returns-in-Some-clause-ok : goal.returns-in-Some-clause-ok
returns-in-Some-clause-ok g c =
    entry_if_written c.args.ledger.now c.args.journal.now c.write_entry.new.journal (made_in c.args.prepared.now.effect) c.in-Some.entry.now c.write_entry.result c.in-Some.ensures c.write_entry.ensures.ok

pub returns-in-None-clause-ok : goal.returns-in-None-clause-ok
returns-in-None-clause-ok g c = none_written c.args.ledger.now c.args.journal.now (made_in c.args.prepared.now.effect) c.in-None.ensures
