use Rattle.std.proofs.Common.{◌≡◌, true, rules}
use Rattle.session_shell.specs.Steps.{view_of, is_out}
use Rattle.session_shell.proofs.EndLemmas.{Finishes-none}
use Rattle.session_shell.proofs.serving.Serving.finish.Goals as goal

pub returns-else-not-is_out-clause-finishes : goal.returns-else-not-is_out-clause-finishes
returns-else-not-is_out-clause-finishes g c =
    let out : is_out c.args.self.now.reading ≡ true = search rules in
    Finishes-none g.D.Door.follows g.D.Door.syncs c.args.how c.args.door.now c.args.self.now.reading (view_of g.C.Clock.coming c.args.self.now) out
