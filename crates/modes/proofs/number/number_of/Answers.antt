use Rattle.std.proofs.Common.{arith}
use Rattle.modes.proofs.NumberLemmas.{front_below, digit_least, digit_small, next_digit}
use Rattle.modes.proofs.number.number_of.Goals as goal

pub overflow_mul-number : goal.overflow_mul-number
overflow_mul-number c =
    let front = front_below c.args.digits.now c.requires.0 c.loop-digit.digit-index c.loop-digit.number c.requires.1 c.loop-digit.invariant in
    omega (arith, front)

pub overflow_sub-digit : goal.overflow_sub-digit
overflow_sub-digit c = digit_least c.args.digits.now c.requires.0 c.loop-digit.digit-index c.requires.1 c.loop-digit-test.true

pub overflow_add-number : goal.overflow_add-number
overflow_add-number c =
    let front = front_below c.args.digits.now c.requires.0 c.loop-digit.digit-index c.loop-digit.number c.requires.1 c.loop-digit.invariant in
    let digit = digit_small c.args.digits.now c.requires.0 c.loop-digit.digit-index c.from.result c.requires.1 c.loop-digit-test.true c.from.ensures in
    omega (arith, front, digit)

pub loop-digit-preserved : goal.loop-digit-preserved
loop-digit-preserved c =
    next_digit c.args.digits.now c.requires.0 c.loop-digit.digit-index c.loop-digit.number c.from.result c.requires.1 c.loop-digit-test.true c.loop-digit.invariant c.from.ensures
