use Rattle.std.proofs.Common.{ap}
use Rattle.active_snapshot.specs.States.{WriterView}
use Rattle.active_snapshot.proofs.ViewLemmas.{ComesNext-same}
use Rattle.active_snapshot.proofs.writer.SnapWriter.propose.Goals as goal

pub invariant_of-self : goal.invariant_of-self
invariant_of-self g c =
    let same_list = ap (λ (w : WriterView). w.list) c.self.view_is in
    let comes = ComesNext-same c.self.inside.slot.list _ _ c.args.next same_list c.in_ok-new.ensures.ok c.requires.next in
    (c.self.invariant.0, c.self.invariant.1, comes, c.self.invariant.3, c.self.invariant.4, c.self.invariant.5)
