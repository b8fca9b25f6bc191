use Rattle.std.proofs.Common.{◌≡◌, ◌<◌, ◌≤◌, refl, sym, subst, ap, rules}
use Rattle.io_edge.specs.Line.{Falls, GivesLine, ReadAhead}
use Rattle.cfg_base.specs.Counts.{Rose}
use Rattle.io_edge.specs.declared.lines.Line.TheVariants.{InputFull as Full}
use Rattle.session_shell.specs.Transcript.{SessionView}
use Rattle.session_shell.specs.Items.{ReadsLine}
use Rattle.session_shell.specs.Steps.{standing, StepsOn, view_of}
use Rattle.session_shell.proofs.StepLemmas.{Steps-line, Steps-full, Steps-failed, Steps-no_memory, within_of}
use Rattle.session_shell.proofs.TakeLemmas.{falls_of, not_full}
use Rattle.session_shell.proofs.serving.Serving.read_next.Goals as goal

pub returns-in-Ok-InputFull-clause-steps : goal.returns-in-Ok-InputFull-clause-steps
returns-in-Ok-InputFull-clause-steps g c =
    let ahead : ReadAhead Full c.next.new.self = search rules in
    Steps-full g.D.Door.follows g.D.Door.syncs c.args.door.now c.args.self.now.feed c.next.new.self c.args.self.now.reading c.self.inside.reading _ _ (search rules)
    (ap (λ h. view_of g.C.Clock.coming h) (sym c.self.view_is)) (search rules) (ahead.full.0 refl)

pub returns-in-Ok-Failed-clause-steps : goal.returns-in-Ok-Failed-clause-steps
returns-in-Ok-Failed-clause-steps g c =
    let none : c.next.new.self.ahead ≡ 0 = search rules in
    Steps-failed g.D.Door.follows g.D.Door.syncs c.args.door.now c.args.self.now.feed c.next.new.self c.args.self.now.reading c.self.inside.reading _ _ (search rules)
    (ap (λ h. view_of g.C.Clock.coming h) (sym c.self.view_is)) (search rules) none

pub returns-in-Err-clause-steps : goal.returns-in-Err-clause-steps
returns-in-Err-clause-steps g c =
    Steps-no_memory g.D.Door.follows g.D.Door.syncs c.args.door.now c.args.self.now.feed c.next.new.self c.args.self.now.reading c.self.inside.reading _ _ (search rules) (search rules)
    (ap (λ h. view_of g.C.Clock.coming h) (sym c.self.view_is))

pub returns-in-Ok : goal.returns-in-Ok
returns-in-Ok g c =
    let old : SessionView = view_of g.C.Clock.coming c.args.self.now in
    let mid : SessionView = record { coming = g.C.Clock.coming c.self.inside.clock; held = (g.K.Sink.view c.self.inside.sink).held; faults = (g.K.Sink.view c.self.inside.sink).faults; turns = c.self.inside.turns.items } in
    let new : SessionView = view_of g.C.Clock.coming c.take.new.self in
    let same : old ≡ mid = ap (λ h. view_of g.C.Clock.coming h) (sym c.self.view_is) in
    let reading : c.args.self.now.reading ≡ c.self.inside.reading = search rules in
    let old_feed : c.args.self.now.feed ≡ c.self.inside.lines = search rules in
    let sink : c.args.self.now.sink.faults ≡ (g.K.Sink.view c.self.inside.sink).faults = search rules in
    let new_feed : c.next.new.self ≡ c.take.new.self.feed = sym c.take.ensures.feed in
    let read : ReadsLine c.self.inside.reading c.in-Ok.line = search rules in
    let gives : GivesLine c.in-Ok.line c.self.inside.lines.left c.self.inside.lines.room c.next.new.self.left c.next.new.self.room = search rules in
    let falls : Falls c.in-Ok.line c.self.inside.lines.room c.next.new.self.room = search rules in
    let ahead : ReadAhead c.in-Ok.line c.next.new.self = search rules in
    let within : c.next.new.self.ahead ≤ c.next.new.self.room = within_of c.in-Ok.line c.next.new.self.room c.next.new.self.ahead (λ is. not_full c.self.inside.reading (subst (ReadsLine c.self.inside.reading) is read)) ahead.full in
    let later : c.self.inside.lines.faults ≤ c.next.new.self.faults = search rules in
    record {
      steps =
          subst (λ f. StepsOn g.D.Door.follows g.D.Door.syncs c.take.result f c.take.new.self.feed (standing c.args.door.now c.args.self.now.reading old) (standing c.take.new.door c.take.new.self.reading new)) (sym old_feed)
          (subst (λ f. StepsOn g.D.Door.follows g.D.Door.syncs c.take.result c.self.inside.lines f (standing c.args.door.now c.args.self.now.reading old) (standing c.take.new.door c.take.new.self.reading new)) new_feed
          (subst (λ r. StepsOn g.D.Door.follows g.D.Door.syncs c.take.result c.self.inside.lines c.next.new.self (standing c.args.door.now r old) (standing c.take.new.door c.take.new.self.reading new)) (sym reading)
          (subst (λ m. StepsOn g.D.Door.follows g.D.Door.syncs c.take.result c.self.inside.lines c.next.new.self (standing c.args.door.now c.self.inside.reading m) (standing c.take.new.door c.take.new.self.reading new)) (sym same)
          (Steps-line g.D.Door.follows g.D.Door.syncs c.take.result c.in-Ok.line c.args.door.now c.take.new.door c.self.inside.lines c.next.new.self c.self.inside.reading c.take.new.self.reading mid new c.take.ensures.later c.take.ensures.cause read gives within c.take.ensures.takes))));
      spare = search rules;
      falls = λ is. subst (λ f. f.room < c.args.self.now.feed.room) new_feed (subst (λ f. c.next.new.self.room < f.room) (sym old_feed) (falls_of c.self.inside.reading c.in-Ok.line c.self.inside.lines.room c.next.new.self.room read (c.take.ensures.end is) falls));
      source_cause = search rules;
      sink_cause = λ is. subst (λ f. Rose f c.take.new.self.sink.faults) (sym sink) (c.take.ensures.cause is);
      later_source = subst (λ f. c.args.self.now.feed.faults ≤ f.faults) new_feed (subst (λ f. f.faults ≤ c.next.new.self.faults) (sym old_feed) later);
      later_sink = subst (λ f. f ≤ c.take.new.self.sink.faults) (sym sink) c.take.ensures.later;
    }
