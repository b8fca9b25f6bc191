use Rattle.std.proofs.Common.{◌+◌, subst, sym, None, Some, arith}
use Rattle.std.proofs.lemmas.List.{append-nil}
use Rattle.cfg_lex.specs.Tokens.{IsCut}
use Rattle.cfg_lex.proofs.LexerLemmas.{IsRead, moves, stops}
use Rattle.cfg_lex.proofs.lexer.cut_text.Goals as goal

-- white space or a comment is passed
pub overflow_add-place : goal.overflow_add-place
overflow_add-place c =
    let on = moves c.args.text.now c.loop-place.place c.loop-place.tokens.items None c.in-Gap.count c.loop-place.invariant c.loop-place-test.true c.in-Gap.ensures in
    omega arith

pub loop-place-smaller-in-Gap : goal.loop-place-smaller-in-Gap
loop-place-smaller-in-Gap c =
    let on = moves c.args.text.now c.loop-place.place c.loop-place.tokens.items None c.in-Gap.count c.loop-place.invariant c.loop-place-test.true c.in-Gap.ensures in
    omega (arith, on.some, on.within)

pub loop-place-preserved-in-Gap : goal.loop-place-preserved-in-Gap
loop-place-preserved-in-Gap c =
    let on = moves c.args.text.now c.loop-place.place c.loop-place.tokens.items None c.in-Gap.count c.loop-place.invariant c.loop-place-test.true c.in-Gap.ensures in
    subst (IsRead c.args.text.now (c.loop-place.place + c.in-Gap.count)) (append-nil c.loop-place.tokens.items) on.further

-- a token is taken
pub overflow_add-end : goal.overflow_add-end
overflow_add-end c =
    let on = moves c.args.text.now c.loop-place.place c.loop-place.tokens.items (Some c.in-Token.kind) c.in-Token.count c.loop-place.invariant c.loop-place-test.true c.in-Token.ensures in
    omega arith

pub loop-place-smaller : goal.loop-place-smaller
loop-place-smaller c =
    let on = moves c.args.text.now c.loop-place.place c.loop-place.tokens.items (Some c.in-Token.kind) c.in-Token.count c.loop-place.invariant c.loop-place-test.true c.in-Token.ensures in
    omega (arith, on.some, on.within)

pub loop-place-preserved : goal.loop-place-preserved
loop-place-preserved c =
    let on = moves c.args.text.now c.loop-place.place c.loop-place.tokens.items (Some c.in-Token.kind) c.in-Token.count c.loop-place.invariant c.loop-place-test.true c.in-Token.ensures in
    subst (IsRead c.args.text.now (c.loop-place.place + c.in-Token.count)) (sym c.in_ok-push-in-Token.ensures.items) on.further

-- the reading stops at a fault
pub overflow_add-place-in-Fault : goal.overflow_add-place-in-Fault
overflow_add-place-in-Fault c =
    let on = stops c.args.text.now c.loop-place.place c.loop-place.tokens.items c.in-Fault.cause c.in-Fault.offset c.loop-place.invariant c.loop-place-test.true c.in-Fault.ensures in
    omega arith

pub returns-in-Fault-clause-cut : goal.returns-in-Fault-clause-cut
returns-in-Fault-clause-cut c =
    let on = stops c.args.text.now c.loop-place.place c.loop-place.tokens.items c.in-Fault.cause c.in-Fault.offset c.loop-place.invariant c.loop-place-test.true c.in-Fault.ensures in
    subst (λ ts. IsCut c.args.text.now ts (Some c.fault_at.result)) (sym c.of.ensures)
    (subst (λ f. IsCut c.args.text.now c.loop-place.tokens.items (Some f)) (sym c.fault_at.ensures) (on.leftmost, on.listed))
