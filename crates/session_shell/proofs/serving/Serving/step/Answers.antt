use Rattle.std.proofs.Common.{◌≡◌, ap, sym, ◌∙◌, rules}
use Rattle.session_shell.specs.Steps.{view_of}
use Rattle.session_shell.proofs.StepLemmas.{Steps-no_memory}
use Rattle.session_shell.proofs.serving.Serving.step.Goals as goal

pub returns-in-Err-clause-steps : goal.returns-in-Err-clause-steps
returns-in-Err-clause-steps g c =
    let same : c.self.inside.turns.items ≡ c.reserve.new.self.items = search rules in
    Steps-no_memory g.D.Door.follows g.D.Door.syncs c.args.door.now c.args.self.now.feed c.self.inside.lines c.args.self.now.reading c.self.inside.reading _ _ (search rules) (search rules)
    (ap (λ h. view_of g.C.Clock.coming h) (sym c.self.view_is)
    ∙ ap (λ turns. record { coming = g.C.Clock.coming c.self.inside.clock; held = (g.K.Sink.view c.self.inside.sink).held; faults = (g.K.Sink.view c.self.inside.sink).faults; turns = turns }) same)
