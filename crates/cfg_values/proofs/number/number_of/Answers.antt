use Rattle.std.proofs.Common.{arith}
use Rattle.cfg_values.proofs.NumberLemmas.{front_below, each_is_digit, digit_read}
use Rattle.cfg_values.proofs.number.number_of.Goals as goal

pub returns-then-not-is_ascii_digit-clause-none : goal.returns-then-not-is_ascii_digit-clause-none
returns-then-not-is_ascii_digit-clause-none c number h =
    each_is_digit _ _ h.digits.1 c.loop-byte-test.true c.if-not-is_ascii_digit.ensures.value

pub overflow_mul-number : goal.overflow_mul-number
overflow_mul-number c =
    let small = front_below c.args.bytes.now c.loop-byte.byte-index 9 c.loop-byte.invariant.0 (omega arith) in
    omega arith

pub overflow_add-number : goal.overflow_add-number
overflow_add-number c =
    let small = front_below c.args.bytes.now c.loop-byte.byte-index 9 c.loop-byte.invariant.0 (omega arith) in
    omega arith

pub loop-byte-preserved : goal.loop-byte-preserved
loop-byte-preserved c =
    digit_read _ _ _ _ c.loop-byte-test.true c.loop-byte.invariant.0 c.loop-byte.invariant.1
    c.if-not-is_ascii_digit.ensures.value c.from.ensures

pub returns-clause-below : goal.returns-clause-below
returns-clause-below c =
    let small = front_below c.args.bytes.now c.loop-byte.byte-index 10 c.loop-byte.invariant.0 (omega arith) in
    omega arith
