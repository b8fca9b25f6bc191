use Rattle.std.proofs.Common.{List, refl, sym, subst}
use Rattle.record_code.specs.Record.{Record}
use Rattle.commit_journal.specs.Opening.{IsCreated}
use Rattle.commit_check.specs.Accepts.{Accepts}
use Rattle.commit_ledger.specs.Kept.{Kept, factory, factory_commit}
use Rattle.commit_ledger.specs.Reading.{ReadsAs}
use Rattle.stored_ledger.specs.Stored.{IsStored, factory_records}
use Rattle.stored_ledger.proofs.StoredLemmas.{made_is, made_is_stored}
use Rattle.stored_ledger.proofs.stored.Stored.create.Goals as goal

pub returns-in-Ok-create-clause-stored : goal.returns-in-Ok-create-clause-stored
returns-in-Ok-create-clause-stored g c =
    let reads : ReadsAs Accepts factory_records factory =
    c.lists_begin_with_one_commit.ensures.read factory_commit (c.lists_begin_with_one_commit.ensures.factory c.nothing_is_accepted.ensures) refl refl in
    let made = subst (λ (rs : List Record). IsCreated (g.D.Disk.view c.args.a) (g.D.Disk.view c.args.b) rs c.in-Ok-create.journal) c.in-Ok.ensures.1 c.in-Ok-create.ensures.made in
    subst (λ (k : Kept). IsStored c.in-Ok-create.journal k) (sym c.in-Ok.ensures.0)
    (made_is_stored (g.D.Disk.view c.args.a) (g.D.Disk.view c.args.b) c.args.limits.journal c.in-Ok-create.journal c.in-Ok-create.ensures.ok made reads)

pub returns-in-Ok-create-clause-made : goal.returns-in-Ok-create-clause-made
returns-in-Ok-create-clause-made g c =
    let reads : ReadsAs Accepts factory_records factory =
    c.lists_begin_with_one_commit.ensures.read factory_commit (c.lists_begin_with_one_commit.ensures.factory c.nothing_is_accepted.ensures) refl refl in
    let made = subst (λ (rs : List Record). IsCreated (g.D.Disk.view c.args.a) (g.D.Disk.view c.args.b) rs c.in-Ok-create.journal) c.in-Ok.ensures.1 c.in-Ok-create.ensures.made in
    made_is (g.D.Disk.view c.args.a) (g.D.Disk.view c.args.b) c.args.limits.journal c.in-Ok-create.journal c.in-Ok-create.ensures.ok made reads
