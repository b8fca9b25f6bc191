use Rattle.std.proofs.Common.{[], ◌∷◌, ◌++◌, subst, ap, ◌∙◌}
use Rattle.session_threads.specs.Served.{ServedView}
use Rattle.session_threads.specs.Asking.{Readies}
use Rattle.session_threads.specs.declared.noted.Note.{Note}
use Rattle.session_threads.specs.declared.asking.Readied.TheVariants.{NoMemory}
use Rattle.session_threads.proofs.AskingLemmas.{IsUnderway-noted, IsUnderway-way, Readies-none}
use Rattle.session_threads.proofs.served.Served.make_ready.Goals as goal

pub returns-then-is_err : goal.returns-then-is_err
returns-then-is_err g c =
    subst (λ (v : ServedView). Readies c.args.caller c.args.moment NoMemory v (record {
      first = c.self.inside.first;
      database = c.self.inside.database;
      notes = c.reserve.new.self.items;
    })) c.self.view_is
    (Readies-none c.args.caller c.args.moment c.self.inside.first c.self.inside.database c.self.inside.notes.items
    c.reserve.new.self.items c.reserve.ensures.items)

pub invariant_of-self-in-Nothing : goal.invariant_of-self-in-Nothing
invariant_of-self-in-Nothing g c =
    IsUnderway-way c.args.caller c.args.moment c.ready.result c.self.inside.first c.self.inside.database c.ready.new.self
    c.self.inside.notes.items c.reserve.new.self.items c.self.invariant c.reserve.ensures.items c.ready.ensures.way

pub invariant_of-self-in-DiskFault : goal.invariant_of-self-in-DiskFault
invariant_of-self-in-DiskFault g c =
    let note : Note = record { before = c.count-before.result; caller = c.args.caller } in
    IsUnderway-noted c.args.caller c.args.moment c.self.inside.first c.self.inside.database c.ready.new.self
    c.self.inside.notes.items c.push_reserved.new.self.items note c.self.invariant
    (c.push_reserved.ensures.items ∙ ap (λ l. l ++ note ∷ []) c.reserve.ensures.items) c.in-DiskFault.ensures.way
    c.count-before.ensures.count

pub invariant_of-self-in-NoMemory : goal.invariant_of-self-in-NoMemory
invariant_of-self-in-NoMemory g c =
    IsUnderway-way c.args.caller c.args.moment c.ready.result c.self.inside.first c.self.inside.database c.ready.new.self
    c.self.inside.notes.items c.reserve.new.self.items c.self.invariant c.reserve.ensures.items c.ready.ensures.way
