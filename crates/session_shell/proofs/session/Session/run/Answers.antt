use Rattle.std.proofs.Common.{◌≡◌, ℕ, List, length, rules}
use Rattle.io_edge.specs.Ends.{onto}
use Rattle.session_shell.specs.Transcript.{SessionView, IsTranscript, side}
use Rattle.session_shell.specs.Steps.{view_of}
use Rattle.session_shell.proofs.EndLemmas.{IsSession-of, IsSession-same}
use Rattle.session_shell.proofs.session.Session.run.Goals as goal

pub returns-clause-session : goal.returns-clause-session
returns-clause-session g c = record {
  transcript =
      let old : SessionView = view_of g.C.Clock.coming c.new-serving.result in
      let mid : SessionView = view_of g.C.Clock.coming c.serve-how.new.self in
      let new : SessionView = view_of g.C.Clock.coming c.finish.new.self in
      let ahead : (held : List ℕ) × (length held ≡ c.finish.new.self.feed.ahead) × (c.finish.new.self.feed.left ≡ onto held (g.S.Source.view c.into_parts-source.result.source).left) = c.into_parts-source.ensures.left in
      let session : IsTranscript g.D.Door.follows g.D.Door.syncs c.new-serving.result.feed.room c.serve-how.result (side c.new-serving.result.feed.left c.args.door.now old)
      (side (g.S.Source.view c.into_parts-source.result.source).left c.finish.new.door new) =
      IsSession-of g.D.Door.follows g.D.Door.syncs c.new-serving.result.feed.room c.serve-how.result c.new-serving.result.feed.left (g.S.Source.view c.into_parts-source.result.source).left c.serve-how.new.self.feed ahead.0 c.args.door.now c.serve-how.new.door c.finish.new.door c.serve-how.new.self.reading old mid new
      c.serve-how.ensures.ends c.finish.ensures.finishes (search rules) (search rules) c.serve-how.ensures.later_sink in
      IsSession-same g.D.Door.follows g.D.Door.syncs c.new-serving.result.feed.room c.args.self.limit c.serve-how.result c.new-serving.result.feed.left (g.S.Source.view c.args.self.end.source).left (g.S.Source.view c.into_parts-source.result.source).left c.args.door.now c.finish.new.door old _ new _
      (search rules) (search rules) (search rules) (search rules) (search rules) (search rules) (search rules) (search rules) (search rules) (search rules) session;
  user = search rules;
  source_cause = search rules;
  sink_cause = search rules;
}
