use Rattle.config_core.specs.Plan.{made_in}
use Rattle.config_db.proofs.ShownLemmas.{taken_back}
use Rattle.config_db.proofs.showing.write_shown.Goals as goal

pub returns-in-Err-clause-withdrawn : goal.returns-in-Err-clause-withdrawn
returns-in-Err-clause-withdrawn g c =
    taken_back (made_in c.args.prepared.now.effect) c.args.shown.now c.propose_entry.new.shown c.withdraw.new.self c.requires.nothing_waits c.in-Ok.ensures.ok c.withdraw.ensures
