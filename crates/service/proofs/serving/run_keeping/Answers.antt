use Rattle.std.proofs.Common.{Err, ap}
use Rattle.service.specs.Modes.{IsSinkAlone}
use Rattle.service.specs.World.{told_of, views, world_of}
use Rattle.service.proofs.RanLemmas.{run_of, run_refused, run_without}
use Rattle.service.proofs.serving.run_keeping.Goals as goal

pub run_asked-requires-clause-asks : goal.run_asked-requires-clause-asks
run_asked-requires-clause-asks g c = λ κs lives. (c.args.words.now, c.in-Ok.ensures.ok)

pub run_asked-requires-clause-users : goal.run_asked-requires-clause-users
run_asked-requires-clause-users g c = λ κs lives. c.requires c.in-Ok.asked c.in-Ok.ensures.ok

pub returns-in-Ok : goal.returns-in-Ok
returns-in-Ok g c = run_of (views g.S.Source.view g.K.Sink.view g.C.Clock.coming g.B.Beat.coming g.D.Disk.view) IsSinkAlone
    (record { ends = c.args.ends.items; ticker = c.args.ticker; a = c.args.disk_a; b = c.args.disk_b })
    (world_of c.run_asked.result) (told_of c.run_asked.result)
    c.words_ask_one_thing.ensures c.starts_have_one_cause.ensures.spelled c.args.words.now c.in-Ok.asked c.in-Ok.ensures.ok c.run_asked.ensures

pub returns-in-Err-Refused : goal.returns-in-Err-Refused
returns-in-Err-Refused g c = run_refused (views g.S.Source.view g.K.Sink.view g.C.Clock.coming g.B.Beat.coming g.D.Disk.view) IsSinkAlone
    (record { ends = c.args.ends.items; ticker = c.args.ticker; a = c.args.disk_a; b = c.args.disk_b })
    (world_of c.idle.result) (told_of c.idle.result) c.args.words.now
    (λ asking. c.in-Err-Refused.ensures.refused (ap Err c.in-Err-Refused.field-0-is) asking.0 asking.1) c.idle.ensures.status c.idle.ensures.untouched

pub returns-in-Err-NoMemory : goal.returns-in-Err-NoMemory
returns-in-Err-NoMemory g c = run_without (views g.S.Source.view g.K.Sink.view g.C.Clock.coming g.B.Beat.coming g.D.Disk.view) IsSinkAlone
    (record { ends = c.args.ends.items; ticker = c.args.ticker; a = c.args.disk_a; b = c.args.disk_b })
    (world_of c.idle-in-Err-NoMemory.result) (told_of c.idle-in-Err-NoMemory.result) c.args.words.now c.idle-in-Err-NoMemory.ensures.status c.idle-in-Err-NoMemory.ensures.untouched
