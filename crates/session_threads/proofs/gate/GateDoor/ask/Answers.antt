use Rattle.session_threads.proofs.GateLemmas.{FollowsIn-looked, FollowsIn-took}
use Rattle.session_threads.proofs.gate.GateDoor.ask.Goals as goal

pub returns-in-Some : goal.returns-in-Some
returns-in-Some g c =
    FollowsIn-looked c.args.self.now c.look.new.self c.args.command c.args.moment c.in-Some.given c.in-Some.ensures

pub returns-in-None : goal.returns-in-None
returns-in-None g c =
    FollowsIn-took c.args.self.now c.look.new.self c.take_turn.new.self c.args.command c.args.moment c.in-None.ensures
    c.take_turn.result c.take_turn.ensures
