use Rattle.std.proofs.Common.{rules}
use Rattle.io_edge.proofs.ReaderLemmas.{takes_ahead}
use Rattle.io_edge.proofs.lines.Lines.take_ahead.Goals as goal

pub returns-clause-takes : goal.returns-clause-takes
returns-clause-takes g c =
    takes_ahead c.taken_as.result c.self.inside.chunk c.self.inside.from c.self.inside.to c.self.inside.room
    ((g.S.Source.view c.self.inside.source).faults) ((g.S.Source.view c.self.inside.source).left) c.args.self.now
    c.self.view_is c.requires (search rules) (search rules) c.if-self-eq0.false c.taken_as.ensures
