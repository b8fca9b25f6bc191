use Rattle.active_snapshot.proofs.PublishLemmas.{still_first}
use Rattle.active_snapshot.proofs.writer.SnapWriter.publish.Goals as goal

pub invariant_of-self : goal.invariant_of-self
invariant_of-self g c =
    let i = c.self.invariant in
    let first = still_first (λ writer. writer.desk.shown.value) c.self.inside.published c.self.inside.slot.list c.self.inside.writer
    c.publish_slot.new.writer (c.publish_slot.ensures.kept c.if-not-publish_slot.true) i.5 in
    (i.0, i.1, i.2, i.3, i.4, first)
