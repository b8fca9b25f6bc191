use Rattle.stored_ledger.proofs.StoredLemmas.{found_is, found_is_stored}
use Rattle.stored_ledger.proofs.stored.Stored.open.Goals as goal

pub returns-in-Ok-read_list-clause-stored : goal.returns-in-Ok-read_list-clause-stored
returns-in-Ok-read_list-clause-stored g c =
    found_is_stored (g.D.Disk.view c.args.a) (g.D.Disk.view c.args.b) c.args.limits.journal c.in-Ok.attached.0 c.in-Ok.ensures.ok c.in-Ok.attached.1 c.in-Ok-read_list.ledger
    c.in-Ok.ensures.read c.in-Ok-read_list.ensures.ok

pub returns-in-Ok-read_list-clause-found : goal.returns-in-Ok-read_list-clause-found
returns-in-Ok-read_list-clause-found g c =
    found_is (g.D.Disk.view c.args.a) (g.D.Disk.view c.args.b) c.args.limits.journal c.in-Ok.attached.0 c.in-Ok.ensures.ok c.in-Ok.attached.1 c.in-Ok-read_list.ledger
    c.in-Ok.ensures.read c.in-Ok-read_list.ensures.ok
