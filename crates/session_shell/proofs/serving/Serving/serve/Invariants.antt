use Rattle.std.proofs.Common.{◌<◌, ◌≤◌}
use Rattle.session_shell.specs.Steps.{SoFar, standing, view_of}
use Rattle.session_shell.proofs.serving.Serving.serve.Given as goal

-- what was served so far
abbrev pub invariant-lines : goal.invariant-lines
invariant-lines g l = record {
  so_far : SoFar g.D.Door.follows g.D.Door.syncs l.initial.self.feed.room l.initial.self.feed.left l.initial.door (view_of g.C.Clock.coming l.initial.self) l.self.feed (standing l.door l.self.reading (view_of g.C.Clock.coming l.self));
  room : 0 < l.self.spare;
  later_source : l.initial.self.feed.faults ≤ l.self.feed.faults;
  later_sink : l.initial.self.sink.faults ≤ l.self.sink.faults;
}

abbrev pub decreases-lines : goal.decreases-lines
decreases-lines g l = l.self.feed.room
