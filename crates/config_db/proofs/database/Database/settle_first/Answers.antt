use Rattle.config_db.proofs.AnswerLemmas.{way_settled, way_unsettled}
use Rattle.config_db.proofs.database.Database.settle_first.Goals as goal

pub returns-in-Done : goal.returns-in-Done
returns-in-Done g c =
    way_settled c.args.caller c.args.moment c.catch_up.result c.args.self.now c.settle.new.self c.catch_up.new.self c.requires.no_earlier c.requires.flying c.in-Done.ensures c.catch_up.ensures

pub returns-in-Fault : goal.returns-in-Fault
returns-in-Fault g c = way_unsettled c.args.caller c.args.moment c.args.self.now c.settle.new.self c.requires.no_earlier c.requires.flying c.in-Fault.ensures
