use Rattle.std.proofs.Common.{ap, ◌∙◌}
use Rattle.active_snapshot.specs.States.{FrontView}
use Rattle.active_snapshot.proofs.ViewLemmas.{Views-added, length-room}
use Rattle.active_snapshot.proofs.slot.Slot.with.Goals as goal

pub add-requires-clause-room : goal.add-requires-clause-room
add-requires-clause-room c =
    let same_list = ap (λ (b : FrontView). b.list) c.again-front.ensures in
    length-room c.self.inside.front.list _ _ _ _ c.self.invariant.0 c.self.invariant.1 same_list c.deref.ensures c.front.ensures.count c.front.ensures.within

pub invariant_of-result : goal.invariant_of-result
invariant_of-result c =
    Views-added
    c.self.inside.front.list _ _ _ _ _ c.self.invariant.0 (ap (λ (b : FrontView). b.list) c.self.view_is) c.requires.next
    (ap (λ (b : FrontView). b.list) c.again-front.ensures) (c.of.ensures ∙ c.deref-2.ensures) c.if-add.ensures.list
