use Rattle.std.proofs.Common.{arith}
use Rattle.glob_name.proofs.ClassLemmas.{first_of_three, first_alone}
use Rattle.glob_name.proofs.class.first_range.Goals as goal
use Rattle.glob_name.proofs.class.first_range.Goals.{else-inner-ge3-via-then-inner-ge3+else-inner-eq45, else-inner-ge3-via-else-inner-ge3}

pub returns-then-inner-eq45 : goal.returns-then-inner-eq45
returns-then-inner-eq45 c = first_of_three c.args.inner.now (omega arith) c.if-inner-eq45.true

pub returns : goal.returns
returns c =
    first_alone c.args.inner.now c.requires
    (λ h e. elim c.else-inner-ge3.branch [
      | else-inner-ge3-via-then-inner-ge3+else-inner-eq45 w ↦ w.if-inner-eq45.false e
      | else-inner-ge3-via-else-inner-ge3 w ↦ let k = w.if-inner-ge3.false in omega arith
    ])
