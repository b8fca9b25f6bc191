use Rattle.std.proofs.Common.{arith}
use Rattle.session_shell.specs.Steps.{view_of}
use Rattle.session_shell.proofs.StepLemmas.{SoFar-begins}
use Rattle.session_shell.proofs.serving.Serving.serve.Goals as goal

pub lines-init : goal.lines-init
lines-init g c = record {
  so_far = SoFar-begins g.D.Door.follows g.D.Door.syncs c.args.door.now c.args.self.now.feed c.args.self.now.reading (view_of g.C.Clock.coming c.args.self.now) c.requires.first c.requires.none_ahead;
  room = c.requires.room;
  later_source = omega arith;
  later_sink = omega arith;
}
