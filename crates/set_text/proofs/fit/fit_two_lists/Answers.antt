use Rattle.std.proofs.Common.{◌<◌, ◌∙◌, false, subst, sym, length, arith}
use Rattle.set_text.specs.declared.phase.Phase.TheVariants.{Bare}
use Rattle.set_text.specs.Phase.{kinds_in, PhaseLeads, StopsFrom}
use Rattle.set_text.proofs.TwoListsLemmas.{left_behind, two_lists_more, two_lists_first, two_lists_no_word, marked_stops, marked_more, marked_around}
use Rattle.set_text.proofs.fit.fit_two_lists.Goals as goal

pub returns-then-count-rest : goal.returns-then-count-rest
returns-then-count-rest c =
    two_lists_more c.args.line.now c.args.one c.args.other c.args.rest.now c.in_ok-count.count c.in_ok-count.ensures c.if-count-rest.true

pub returns-then-count-eq0 : goal.returns-then-count-eq0
returns-then-count-eq0 c =
    two_lists_first c.args.line.now c.args.one c.args.other c.args.rest.now c.in_ok-count.count c.in_ok-count.ensures c.if-count-rest.false c.if-count-eq0.true

pub returns-in-None : goal.returns-in-None
returns-in-None c =
    let are = c.in_ok-count.ensures in
    let within : c.in_ok-count.count < length c.args.rest.now = omega (arith, are.within, c.if-count-rest.false) in
    two_lists_no_word c.args.line.now c.args.one c.args.other c.args.rest.now c.in_ok-count.count _ c.in_ok-count.ensures within
    (sym c.in_ok-mover_of.ensures ∙ c.in-None.is)

pub returns-in-Err : goal.returns-in-Err
returns-in-Err c =
    let are = c.in_ok-count.ensures in
    let within : c.in_ok-count.count < length c.args.rest.now = omega (arith, are.within, c.if-count-rest.false) in
    marked_stops c.args.line.now c.args.one c.args.other c.in-Some.mover c.args.rest.now c.in_ok-count.count c.in-Err.place _
    (record { are = c.in_ok-count.ensures; some = c.if-count-eq0.false; within = within; marked = sym c.in_ok-mover_of.ensures ∙ c.in-Some.is })
    (subst (λ ts. StopsFrom false ts c.in-Err.place) (left_behind c.args.rest.now c.in_ok-count.count) c.in-Err.ensures)

pub returns-then-ends : goal.returns-then-ends
returns-then-ends c =
    let are = c.in_ok-count.ensures in
    let within : c.in_ok-count.count < length c.args.rest.now = omega (arith, are.within, c.if-count-rest.false) in
    marked_around c.args.line.now c.args.one c.args.other c.in-Some.mover c.args.rest.now c.in_ok-count.count _
    (record { are = c.in_ok-count.ensures; some = c.if-count-eq0.false; within = within; marked = sym c.in_ok-mover_of.ensures ∙ c.in-Some.is })
    (record { phase = c.in-Ok.phase; leads = subst (λ ts. PhaseLeads false Bare (kinds_in ts) c.in-Ok.phase) (left_behind c.args.rest.now c.in_ok-count.count) c.in-Ok.ensures; ends_there = sym c.if-ends.ensures })

pub returns-else-ends : goal.returns-else-ends
returns-else-ends c =
    let are = c.in_ok-count.ensures in
    let within : c.in_ok-count.count < length c.args.rest.now = omega (arith, are.within, c.if-count-rest.false) in
    marked_more c.args.line.now c.args.one c.args.other c.in-Some.mover c.args.rest.now c.in_ok-count.count _
    (record { are = c.in_ok-count.ensures; some = c.if-count-eq0.false; within = within; marked = sym c.in_ok-mover_of.ensures ∙ c.in-Some.is })
    (record { phase = c.in-Ok.phase; leads = subst (λ ts. PhaseLeads false Bare (kinds_in ts) c.in-Ok.phase) (left_behind c.args.rest.now c.in_ok-count.count) c.in-Ok.ensures; ends_there = sym c.if-ends.ensures })
