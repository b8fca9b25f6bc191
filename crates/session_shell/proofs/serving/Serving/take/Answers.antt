use Rattle.std.proofs.Common.{◌≡◌, None, Some, true, sym, subst, ap, ◌∙◌, is_ok, rules}
use Rattle.cfg_base.specs.Counts.{Rose}
use Rattle.session_shell.specs.Transcript.{SessionView}
use Rattle.session_shell.specs.Items.{ComesOf}
use Rattle.session_shell.specs.Steps.{how_next, standing, TakesLine, view_of}
use Rattle.session_shell.proofs.TakeLemmas.{Takes-none, Takes-item, cause_of, not_end}
use Rattle.session_shell.proofs.serving.Serving.take.Goals as goal

pub returns-in-Ok-None-clause-takes : goal.returns-in-Ok-None-clause-takes
returns-in-Ok-None-clause-takes g c =
    let old : SessionView = view_of g.C.Clock.coming c.args.self.now in
    let mid : SessionView = record { coming = g.C.Clock.coming c.self.inside.clock; held = (g.K.Sink.view c.self.inside.sink).held; faults = (g.K.Sink.view c.self.inside.sink).faults; turns = c.self.inside.turns.items } in
    let same : old ≡ mid = ap (λ h. view_of g.C.Clock.coming h) (sym c.self.view_is) in
    let came : ComesOf c.args.self.now.reading c.args.line.now (None, c.comes_of.new.reading) = search rules in
    let how : c.how_next.result ≡ how_next c.args.line.now c.comes_of.new.reading true = search rules in
    subst (λ m. TakesLine g.D.Door.follows g.D.Door.syncs c.args.line.now c.how_next.result (standing c.args.door.now c.args.self.now.reading old) (standing c.args.door.now c.comes_of.new.reading m)) same
    (subst (λ h. TakesLine g.D.Door.follows g.D.Door.syncs c.args.line.now h (standing c.args.door.now c.args.self.now.reading old) (standing c.args.door.now c.comes_of.new.reading old)) (sym how)
    (Takes-none g.D.Door.follows g.D.Door.syncs c.args.line.now c.args.door.now c.args.self.now.reading c.comes_of.new.reading old c.requires.reads came))

pub returns-in-Ok-Some-clause-takes : goal.returns-in-Ok-Some-clause-takes
returns-in-Ok-Some-clause-takes g c =
    let old : SessionView = view_of g.C.Clock.coming c.args.self.now in
    let mid : SessionView = record { coming = g.C.Clock.coming c.self.inside.clock; held = (g.K.Sink.view c.self.inside.sink).held; faults = (g.K.Sink.view c.self.inside.sink).faults; turns = c.self.inside.turns.items } in
    let new : SessionView = view_of g.C.Clock.coming c.serve_item-put.new.self in
    let same : old ≡ mid = ap (λ h. view_of g.C.Clock.coming h) (sym c.self.view_is) in
    let came : ComesOf c.args.self.now.reading c.args.line.now (Some c.in-Ok-Some.item, c.comes_of.new.reading) = search rules in
    let how : c.how_next-in-Ok-Some.result ≡ how_next c.args.line.now c.serve_item-put.new.self.reading (is_ok c.serve_item-put.result) = search rules in
    subst (λ m. TakesLine g.D.Door.follows g.D.Door.syncs c.args.line.now c.how_next-in-Ok-Some.result (standing c.args.door.now c.args.self.now.reading m) (standing c.serve_item-put.new.door c.serve_item-put.new.self.reading new)) (sym same)
    (subst (λ h. TakesLine g.D.Door.follows g.D.Door.syncs c.args.line.now h (standing c.args.door.now c.args.self.now.reading mid) (standing c.serve_item-put.new.door c.serve_item-put.new.self.reading new)) (sym how)
    (Takes-item g.D.Door.follows g.D.Door.syncs c.args.line.now c.in-Ok-Some.item c.serve_item-put.result c.args.door.now c.serve_item-put.new.door c.args.self.now.reading c.comes_of.new.reading c.serve_item-put.new.self.reading mid new c.requires.reads came c.serve_item-put.ensures.serves))

pub returns-in-Ok-Some-clause-cause : goal.returns-in-Ok-Some-clause-cause
returns-in-Ok-Some-clause-cause g c =
    let how : c.how_next-in-Ok-Some.result ≡ how_next c.args.line.now c.serve_item-put.new.self.reading (is_ok c.serve_item-put.result) = search rules in
    λ is. let old : (g.K.Sink.view c.self.inside.sink).faults ≡ c.args.self.now.sink.faults = search rules in
    subst (λ f. Rose f c.serve_item-put.new.self.sink.faults) old
    (cause_of c.serve_item-put.result c.args.line.now c.serve_item-put.new.self.reading _ c.serve_item-put.ensures.cause (sym how ∙ is))

pub returns-in-Ok-Some-clause-end : goal.returns-in-Ok-Some-clause-end
returns-in-Ok-Some-clause-end g c =
    let how : c.how_next-in-Ok-Some.result ≡ how_next c.args.line.now c.serve_item-put.new.self.reading (is_ok c.serve_item-put.result) = search rules in
    λ is. not_end c.args.line.now c.serve_item-put.new.self.reading (is_ok c.serve_item-put.result) (sym how ∙ is)
