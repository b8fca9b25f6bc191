use Rattle.std.proofs.Common.{◌≤◌, ◌∷◌, [], ap, arith, length, rules, ◌∙◌}
use Rattle.std.proofs.lemmas.List.{length-append}
use Rattle.session_threads.specs.Rows.{taken}
use Rattle.session_threads.specs.Passes.{CallerPass}
use Rattle.session_threads.proofs.RowLemmas.{AreLeft-then, caller-with_all_ended, last_here, lock-with_all_ended, room_left, seats_left}
use Rattle.session_threads.proofs.whole.+leave_all.Goals as goal

pub leave_all-status-requires : goal.leave_all-status-requires
leave_all-status-requires g t c =
    let left = seats_left c.args.lock.now c.pop.new.self.items c.args.seats.items c.in-Some.place c.requires.seats c.in-Some.ensures.items in
    let long = ap length c.in-Some.ensures.items ∙ length-append c.pop.new.self.items (c.in-Some.place ∷ []) in
    let ends : length c.pop.new.self.items ≤ c.args.ends.now.cap = omega (arith, long, c.requires.ends.1) in
    let turns : length c.pop.new.self.items ≤ c.args.turns.now.cap = omega (arith, long, c.requires.turns.1) in
    search rules

pub join-requires-clause-here : goal.join-requires-clause-here
join-requires-clause-here g t c = (
  ap (λ (p : CallerPass). p.lock) c.leave_all-status.ensures.left.passes
      ∙ lock-with_all_ended c.args.pass.now (taken c.pop.new.self.items) ∙ c.requires.pass.0,
  last_here c.args.lock.now c.pop.new.self.items c.args.seats.items c.in-Some.place c.in-Some-place.field-0 c.requires.seats
      c.in-Some.ensures.items c.in-Some-place.is,
)

pub join-requires-clause-first : goal.join-requires-clause-first
join-requires-clause-first g t c = ap (λ (p : CallerPass). p.caller) c.leave_all-status.ensures.left.passes
    ∙ caller-with_all_ended c.args.pass.now (taken c.pop.new.self.items) ∙ c.requires.pass.1

pub push_reserved-requires : goal.push_reserved-requires
push_reserved-requires g t c =
    let few = room_left c.pop.new.self.items c.args.seats.items c.in-Some.place c.leave_all-status.new.ends.items (λ seat. seat.end)
    c.args.ends.now.cap c.in-Some.ensures.items c.leave_all-status.ensures.left.ends_are c.requires.ends.1 in
    let sized = c.leave_all-status.new.ends.ok.0 in
    let same = c.leave_all-status.ensures.room.0 in
    omega (arith, few, sized, same)

pub push_reserved-requires-2 : goal.push_reserved-requires-2
push_reserved-requires-2 g t c =
    let few = room_left c.pop.new.self.items c.args.seats.items c.in-Some.place c.leave_all-status.new.turns.items (λ seat. seat.turns)
    c.args.turns.now.cap c.in-Some.ensures.items c.leave_all-status.ensures.left.turns_are c.requires.turns.1 in
    let sized = c.leave_all-status.new.turns.ok.0 in
    let same = c.leave_all-status.ensures.room.1 in
    omega (arith, few, sized, same)

pub returns-clause-left : goal.returns-clause-left
returns-clause-left g t c = AreLeft-then c.pop.new.self.items c.args.seats.items c.in-Some.place c.in-Some-place.field-0
    c.args.pass.now c.leave_all-status.new.pass c.join.new.first c.leave_all-status.new.ends.items c.push_reserved.new.self.items
    c.leave_all-status.new.turns.items c.push_reserved-2.new.self.items c.leave_all-status.result c.first_status.result
    c.leave_all-status.ensures.left c.in-Some.ensures.items c.in-Some-place.is c.join.ensures c.push_reserved.ensures.items
    c.push_reserved-2.ensures.items c.first_status.ensures
