use Rattle.commit_ledger.specs.declared.entry.Entry.{Entry}
use Rattle.config_core.specs.Plan.{made_in}
use Rattle.config_db.specs.Shown.{CanFollowLast}
use Rattle.config_db.proofs.ShownLemmas.{of_made}
use Rattle.config_db.proofs.showing.propose_entry.Goals as goal

pub propose-requires-clause-follows : goal.propose-requires-clause-follows
propose-requires-clause-follows g c =
    of_made (made_in c.args.prepared.now.effect) c.in-Some.entry.now (λ (entry : Entry). CanFollowLast c.args.shown.now.list entry) c.in-Some.ensures c.requires.follows
