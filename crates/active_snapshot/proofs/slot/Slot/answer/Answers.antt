use Rattle.std.proofs.Common.{ap}
use Rattle.active_snapshot.specs.States.{FrontView}
use Rattle.active_snapshot.proofs.ReadLemmas.{HandsOut-answer, IsReadOf-answer}
use Rattle.active_snapshot.proofs.slot.Slot.answer.Goals as goal

pub returns-clause-ok : goal.returns-clause-ok
returns-clause-ok c =
    let same_list = ap (λ (b : FrontView). b.list) c.self.view_is in
    IsReadOf-answer c.self.inside.front.list c.args.self.now.list _ c.args.moment _ c.self.invariant.1 same_list c.answer_of.ensures.ok

pub returns-clause-err : goal.returns-clause-err
returns-clause-err c =
    let same_list = ap (λ (b : FrontView). b.list) c.self.view_is in
    HandsOut-answer c.self.inside.front.list c.args.self.now.list _ c.args.moment c.answer_of.result c.self.invariant.1 same_list c.answer_of.ensures.err
