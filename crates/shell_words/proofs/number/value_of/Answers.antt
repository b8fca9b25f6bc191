use Rattle.std.proofs.Common.{arith}
use Rattle.shell_words.proofs.NumberLemmas.{reads_digit}
use Rattle.shell_words.proofs.number.value_of.Goals as goal

pub overflow_mul-number : goal.overflow_mul-number
overflow_mul-number c =
    let reads = reads_digit c.args.digits.now c.loop-digit.digit-index c.loop-digit.number c.requires c.loop-digit-test.true c.loop-digit.invariant in
    omega (arith, reads.small)

pub overflow_add-number : goal.overflow_add-number
overflow_add-number c =
    let reads = reads_digit c.args.digits.now c.loop-digit.digit-index c.loop-digit.number c.requires c.loop-digit-test.true c.loop-digit.invariant in
    omega (arith, reads.small, c.from.ensures)

pub loop-digit-preserved : goal.loop-digit-preserved
loop-digit-preserved c =
    let reads = reads_digit c.args.digits.now c.loop-digit.digit-index c.loop-digit.number c.requires c.loop-digit-test.true c.loop-digit.invariant in
    omega (arith, reads.more, c.from.ensures)
