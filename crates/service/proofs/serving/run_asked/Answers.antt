use Rattle.std.proofs.Common.{◌∙◌, sym, arith}
use Rattle.command_line.specs.declared.asked.RunMode.TheVariants.{Init, Check, Gen}
use Rattle.service.specs.Modes.{IsSinkAlone}
use Rattle.service.specs.World.{told_of, views, world_of}
use Rattle.service.proofs.ModeLemmas.{check_apart, gen_apart, init_apart, one_end, place_of, some_user}
use Rattle.service.proofs.RanLemmas.{ran_as, ran_served}
use Rattle.service.proofs.RunLemmas.{few_users}
use Rattle.service.proofs.serving.run_asked.Goals as goal

pub serve_asked-requires-clause-few : goal.serve_asked-requires-clause-few
serve_asked-requires-clause-few g c = λ κs lives. few_users c.requires.asks.0 c.args.asked c.requires.asks.1

pub run_init-requires-clause-one : goal.run_init-requires-clause-one
run_init-requires-clause-one g c =
    one_end c.requires.asks.0 c.args.ends.items c.args.asked c.requires.users c.requires.asks.1 (λ serve. init_apart (sym c.in-Init.is ∙ serve))

pub run_check-requires-clause-one : goal.run_check-requires-clause-one
run_check-requires-clause-one g c =
    one_end c.requires.asks.0 c.args.ends.items c.args.asked c.requires.users c.requires.asks.1 (λ serve. check_apart (sym c.in-Check.is ∙ serve))

pub run_gen-requires-clause-one : goal.run_gen-requires-clause-one
run_gen-requires-clause-one g c =
    one_end c.requires.asks.0 c.args.ends.items c.args.asked c.requires.users c.requires.asks.1 (λ serve. gen_apart (sym c.in-Gen.is ∙ serve))

pub run_gen-requires-clause-place : goal.run_gen-requires-clause-place
run_gen-requires-clause-place g c = place_of c.requires.asks.0 c.args.asked c.requires.asks.1 c.in-Gen.is

pub run_gen-requires-clause-users : goal.run_gen-requires-clause-users
run_gen-requires-clause-users g c =
    omega (arith, some_user c.requires.asks.0 c.args.asked c.requires.asks.1 (λ serve. gen_apart (sym c.in-Gen.is ∙ serve)))

pub returns-in-Serve : goal.returns-in-Serve
returns-in-Serve g c = ran_served (views g.S.Source.view g.K.Sink.view g.C.Clock.coming g.B.Beat.coming g.D.Disk.view) IsSinkAlone
    (record { ends = c.args.ends.items; ticker = c.args.ticker; a = c.args.disk_a; b = c.args.disk_b })
    (world_of c.serve_asked.result) (told_of c.serve_asked.result) c.args.asked
    c.in-Serve.is c.serve_asked.ensures

pub returns-in-Init : goal.returns-in-Init
returns-in-Init g c = ran_as (views g.S.Source.view g.K.Sink.view g.C.Clock.coming g.B.Beat.coming g.D.Disk.view) IsSinkAlone
    (record { ends = c.args.ends.items; ticker = c.args.ticker; a = c.args.disk_a; b = c.args.disk_b })
    (world_of c.run_init.result) (told_of c.run_init.result) c.args.asked Init
    c.in-Init.is c.run_init.ensures

pub returns-in-Check : goal.returns-in-Check
returns-in-Check g c = ran_as (views g.S.Source.view g.K.Sink.view g.C.Clock.coming g.B.Beat.coming g.D.Disk.view) IsSinkAlone
    (record { ends = c.args.ends.items; ticker = c.args.ticker; a = c.args.disk_a; b = c.args.disk_b })
    (world_of c.run_check.result) (told_of c.run_check.result) c.args.asked Check
    c.in-Check.is c.run_check.ensures

pub returns-in-Gen : goal.returns-in-Gen
returns-in-Gen g c = ran_as (views g.S.Source.view g.K.Sink.view g.C.Clock.coming g.B.Beat.coming g.D.Disk.view) IsSinkAlone
    (record { ends = c.args.ends.items; ticker = c.args.ticker; a = c.args.disk_a; b = c.args.disk_b })
    (world_of c.run_gen.result) (told_of c.run_gen.result) c.args.asked Gen
    c.in-Gen.is c.run_gen.ensures
