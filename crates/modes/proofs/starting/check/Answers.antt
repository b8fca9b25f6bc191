use Rattle.std.proofs.Common.{◌≡◌, refl, ◌∙◌, rules}
use Rattle.disk_model.specs.Pair.{pair_of}
use Rattle.commit_journal.specs.Journal.{disks_of}
use Rattle.modes.proofs.StartLemmas.{check_told, check_untold}
use Rattle.modes.proofs.starting.check.Goals as goal

pub returns-in-Ok-check_text : goal.returns-in-Ok-check_text
returns-in-Ok-check_text g c =
    check_told (c.tell.new.sink ≡ c.args.sink.now) (g.K.Sink.view c.args.sink.now) (g.K.Sink.view c.tell.new.sink)
    (pair_of g.D.Disk.view c.args.a c.args.b) (disks_of c.in-Ok.stored.journal) (pair_of g.D.Disk.view c.ended.result.a c.ended.result.b)
    c.in-Ok.stored.ledger c.in-Ok.ensures.found c.ended.ensures.disks c.ended.result.why c.ended.ensures.why
    c.ended.result.status c.tell.result c.as_slice.result.now c.ended.ensures.status
    (c.as_slice.ensures ∙ c.in-Ok-check_text.ensures) c.tell.ensures

pub returns-in-Err-check_text : goal.returns-in-Err-check_text
returns-in-Err-check_text g c =
    check_untold (c.args.sink.now ≡ c.args.sink.now) (g.K.Sink.view c.args.sink.now) (g.K.Sink.view c.args.sink.now)
    (pair_of g.D.Disk.view c.args.a c.args.b) (disks_of c.in-Ok.stored.journal)
    (pair_of g.D.Disk.view c.ended-in-Err-check_text.result.a c.ended-in-Err-check_text.result.b) c.in-Ok.stored.ledger
    c.in-Ok.ensures.found c.ended-in-Err-check_text.ensures.disks c.ended-in-Err-check_text.result.why
    c.ended-in-Err-check_text.ensures.why c.ended-in-Err-check_text.result.status c.ended-in-Err-check_text.ensures.status refl
