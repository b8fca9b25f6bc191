use Rattle.std.proofs.Common.{subst, sym}
use Rattle.io_edge.specs.Line.{GivesLine}
use Rattle.io_edge.proofs.LineLemmas.{gives_line}
use Rattle.io_edge.proofs.lines.Lines.next.Goals as goal

pub returns-clause-line : goal.returns-clause-line
returns-clause-line g c =
    subst (λ answer. GivesLine answer c.args.self.now.left c.args.self.now.room c.gather-stop.new.self.left c.gather-stop.new.self.room) (sym c.answer_of.ensures) (gives_line _ _ _ _ c.gather-stop.ensures)
