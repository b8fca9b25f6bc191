use Rattle.std.proofs.Common.{rules}
use Rattle.session_shell.specs.Steps.{view_of}
use Rattle.session_shell.proofs.EndLemmas.{Finishes-heard}
use Rattle.session_shell.proofs.serving.Serving.log_out.Goals as goal

pub returns-in-Clean : goal.returns-in-Clean
returns-in-Clean g c = record {
  finishes = Finishes-heard g.D.Door.follows g.D.Door.syncs c.args.how c.serve_item-put.result c.args.door.now c.serve_item-put.new.door c.args.self.now.reading c.serve_item-put.new.self.reading
      (view_of g.C.Clock.coming c.args.self.now) (view_of g.C.Clock.coming c.serve_item-put.new.self)
      (search rules) c.requires.going c.serve_item-put.ensures.serves c.serve_item-put.ensures.cause c.serve_item-put.ensures.later;
  feed = c.serve_item-put.ensures.feed;
}
