use Rattle.std.proofs.Common.{[], sym, ◌∙◌, ap, length, arith}
use Rattle.std.proofs.lemmas.List.{append-nil}
use Rattle.active_snapshot.specs.States.{FrontView}
use Rattle.active_snapshot.proofs.writer.SnapWriter.of.Goals as goal

pub invariant_of-result : goal.invariant_of-result
invariant_of-result g c = (
  c.requires.book.0,
  c.requires.book.1,
  tt,
  omega (arith, c.requires.one),
  λ late. sym c.requires.one,
  (([], append-nil c.args.writer.desk.shown.value.list ∙ ap (λ (s : FrontView). s.list) c.requires.shown), ap (λ (s : FrontView). length s.list) c.requires.shown ∙ c.requires.one),
)
