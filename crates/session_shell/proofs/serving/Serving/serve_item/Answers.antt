use Rattle.std.proofs.Common.{◌≡◌, refl, sym, subst, rules}
use Rattle.session_shell.specs.Transcript.{SessionView}
use Rattle.session_shell.specs.declared.json_show.Manner.TheVariants.{Plain}
use Rattle.session_shell.specs.declared.reading.Item.TheVariants.{Ask, Synchronize, ShowJson, Wrong, NoMemory}
use Rattle.session_shell.specs.Steps.{ServesItem, standing, view_of}
use Rattle.session_shell.specs.Shows.{whole_show}
use Rattle.session_shell.proofs.TakeLemmas.{Serves-asked, Serves-refused, Serves-wanted, no_sync}
use Rattle.session_shell.proofs.serving.Serving.serve_item.Goals as goal

pub returns-in-Ask-clause-serves : goal.returns-in-Ask-clause-serves
returns-in-Ask-clause-serves g c =
    let old : SessionView = view_of g.C.Clock.coming c.args.self.now in
    let new : SessionView = record { coming = g.C.Clock.coming c.now-moment.new.self; held = (g.K.Sink.view c.answer.new.sink).held; faults = (g.K.Sink.view c.answer.new.sink).faults; turns = c.note.new.self.items } in
    let is : c.args.item ≡ Ask c.in-Ask.command = search rules in
    let read : c.args.self.now.reading ≡ c.self.inside.reading = search rules in
    subst (λ i. ServesItem g.D.Door.follows g.D.Door.syncs i c.answer.result (standing c.args.door.now c.args.self.now.reading old) (standing c.ask-given.new.self c.answer.new.reading new)) (sym is)
    (Serves-asked g.D.Door.follows g.D.Door.syncs (Ask c.in-Ask.command) c.in-Ask.command c.now-moment.result c.ask-given.result Plain c.answer.result c.args.door.now c.ask-given.new.self c.ask-given.new.self c.args.self.now.reading c.answer.new.reading old new refl tt (search rules) (search rules) (search rules) refl (search rules) (search rules))

pub returns-in-Synchronize-clause-serves : goal.returns-in-Synchronize-clause-serves
returns-in-Synchronize-clause-serves g c =
    let old : SessionView = view_of g.C.Clock.coming c.args.self.now in
    let new : SessionView = record { coming = g.C.Clock.coming c.now-moment.new.self; held = (g.K.Sink.view c.answer-in-Synchronize.new.sink).held; faults = (g.K.Sink.view c.answer-in-Synchronize.new.sink).faults; turns = c.note-in-Synchronize.new.self.items } in
    let is : c.args.item ≡ Synchronize c.in-Synchronize.command = search rules in
    let read : c.args.self.now.reading ≡ c.self.inside.reading = search rules in
    subst (λ i. ServesItem g.D.Door.follows g.D.Door.syncs i c.answer-in-Synchronize.result (standing c.args.door.now c.args.self.now.reading old) (standing c.manner_of_commit-manner.new.door c.answer-in-Synchronize.new.reading new)) (sym is)
    (Serves-asked g.D.Door.follows g.D.Door.syncs (Synchronize c.in-Synchronize.command) c.in-Synchronize.command c.now-moment.result c.ask-given-in-Synchronize.result c.manner_of_commit-manner.result c.answer-in-Synchronize.result c.args.door.now c.ask-given-in-Synchronize.new.self c.manner_of_commit-manner.new.door c.args.self.now.reading c.answer-in-Synchronize.new.reading old new
    (c.manner_of_commit-manner.ensures.item c.in-Synchronize.command) (c.manner_of_commit-manner.ensures.written c.in-Synchronize.command) (search rules) (search rules) (search rules) c.manner_of_commit-manner.ensures.synced (search rules) (search rules))

pub returns-in-Wrong-clause-serves : goal.returns-in-Wrong-clause-serves
returns-in-Wrong-clause-serves g c =
    let old : SessionView = view_of g.C.Clock.coming c.args.self.now in
    let new : SessionView = record { coming = g.C.Clock.coming c.now-moment.new.self; held = (g.K.Sink.view c.put_fault-put.new.sink).held; faults = (g.K.Sink.view c.put_fault-put.new.sink).faults; turns = c.note-in-Wrong.new.self.items } in
    let is : c.args.item ≡ Wrong c.in-Wrong.fault = search rules in
    let read : c.args.self.now.reading ≡ c.self.inside.reading = search rules in
    subst (λ r. ServesItem g.D.Door.follows g.D.Door.syncs c.args.item c.put_fault-put.result (standing c.args.door.now c.args.self.now.reading old) (standing c.args.door.now r new)) read
    (subst (λ i. ServesItem g.D.Door.follows g.D.Door.syncs i c.put_fault-put.result (standing c.args.door.now c.args.self.now.reading old) (standing c.args.door.now c.args.self.now.reading new)) (sym is)
    (Serves-refused g.D.Door.follows g.D.Door.syncs c.now-moment.result c.in-Wrong.fault c.put_fault-put.result c.args.door.now c.args.self.now.reading old new (search rules) (search rules) (search rules)))

pub returns-in-ShowJson-clause-serves : goal.returns-in-ShowJson-clause-serves
returns-in-ShowJson-clause-serves g c =
    let old : SessionView = view_of g.C.Clock.coming c.args.self.now in
    let new : SessionView = record { coming = g.C.Clock.coming c.now-moment.new.self; held = (g.K.Sink.view c.answer-in-ShowJson.new.sink).held; faults = (g.K.Sink.view c.answer-in-ShowJson.new.sink).faults; turns = c.note-in-ShowJson.new.self.items } in
    let is : c.args.item ≡ ShowJson = search rules in
    let read : c.args.self.now.reading ≡ c.self.inside.reading = search rules in
    subst (λ i. ServesItem g.D.Door.follows g.D.Door.syncs i c.answer-in-ShowJson.result (standing c.args.door.now c.args.self.now.reading old) (standing c.ask-given-in-ShowJson.new.self c.answer-in-ShowJson.new.reading new)) (sym is)
    (Serves-asked g.D.Door.follows g.D.Door.syncs ShowJson whole_show c.now-moment.result c.ask-given-in-ShowJson.result c.manner_of-manner.result c.answer-in-ShowJson.result c.args.door.now c.ask-given-in-ShowJson.new.self c.ask-given-in-ShowJson.new.self c.args.self.now.reading c.answer-in-ShowJson.new.reading old new
    (search rules) (search rules) (search rules) (search rules) (search rules)
    (no_sync g.D.Door.syncs c.manner_of-manner.result whole_show c.ask-given-in-ShowJson.new.self (search rules)) (search rules) (search rules))

pub returns-in-NoMemory-clause-serves : goal.returns-in-NoMemory-clause-serves
returns-in-NoMemory-clause-serves g c =
    let old : SessionView = view_of g.C.Clock.coming c.args.self.now in
    let new : SessionView = record { coming = g.C.Clock.coming c.now-moment.new.self; held = (g.K.Sink.view c.put_no_memory.new.sink).held; faults = (g.K.Sink.view c.put_no_memory.new.sink).faults; turns = c.note-in-NoMemory.new.self.items } in
    let is : c.args.item ≡ NoMemory = search rules in
    let read : c.args.self.now.reading ≡ c.self.inside.reading = search rules in
    subst (λ r. ServesItem g.D.Door.follows g.D.Door.syncs c.args.item c.put_no_memory.result (standing c.args.door.now c.args.self.now.reading old) (standing c.args.door.now r new)) read
    (subst (λ i. ServesItem g.D.Door.follows g.D.Door.syncs i c.put_no_memory.result (standing c.args.door.now c.args.self.now.reading old) (standing c.args.door.now c.args.self.now.reading new)) (sym is)
    (Serves-wanted g.D.Door.follows g.D.Door.syncs c.now-moment.result c.put_no_memory.result c.args.door.now c.args.self.now.reading old new (search rules) (search rules) (search rules)))
