use Rattle.std.proofs.Common.{◌≡◌, sym, ◌∙◌, ap}
use Rattle.active_snapshot.specs.States.{FrontView}
use Rattle.active_snapshot.proofs.AddingLemmas.{adds_moves}
use Rattle.active_snapshot.proofs.book.Front.add.Goals as goal

pub compare_exchange-found-requires : goal.compare_exchange-found-requires
compare_exchange-found-requires c =
    let head = c.shelf.invariant in
    let same : c.self.inside.seen.book ≡ c.shelf.inside.head.book =
    ap (λ (b : FrontView). b.book) c.self.view_is ∙ (sym c.requires.shelf ∙ sym c.shelf.view_is) in
    let offer = c.plain-offer.ensures in
    let pen = c.no_pen-pen.ensures in (
      ap (λ w. w.tracked) head,
      same,
      pen.0 ∙ same,
      offer.0,
      rw (ap (λ w. w.key) head, pen.1, offer.1, offer.3) (adds_moves c.self.inside.seen.log c.args.view.now.value c.self.inside.count (sym c.self.invariant)),
    )
