use Rattle.sync_link.proofs.TakeLemmas.{found_one, takes_settled, takes_unsettled}
use Rattle.sync_link.proofs.backup.Backup.take.Goals as goal

pub answer-requires-clause-fits : goal.answer-requires-clause-fits
answer-requires-clause-fits g c =
    c.requires c.settle.new.self.kept (found_one c.args.message.now c.args.self.now c.make_room.new.self c.make_room.new.self.room c.in_default.ensures.ok.0 c.settle.new.self c.in-Done.ensures).0

pub returns-in-Failed : goal.returns-in-Failed
returns-in-Failed g c =
    takes_unsettled c.args.message.now c.args.self.now c.make_room.new.self c.make_room.new.self.room c.in_default.ensures.ok.0 c.settle.new.self c.in-Failed.ensures

pub returns-in-Done : goal.returns-in-Done
returns-in-Done g c =
    takes_settled c.args.message.now c.args.self.now c.make_room.new.self c.make_room.new.self.room c.in_default.ensures.ok.0 c.answer.result c.settle.new.self c.answer.new.self
    c.in-Done.ensures c.answer.ensures
