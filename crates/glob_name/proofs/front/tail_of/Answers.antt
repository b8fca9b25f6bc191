use Rattle.std.proofs.Common.{arith, rules, inl, inr}
use Rattle.glob_name.proofs.TailLemmas.{tail_next, last_mark, same_mark}
use Rattle.glob_name.proofs.front.tail_of.Goals as goal
use Rattle.glob_name.proofs.front.tail_of.Goals.{then-byte-eq93, else-byte-eq93}

pub loop-byte-init : goal.loop-byte-init
loop-byte-init c = (tt, omega arith, λ less. absurd (omega arith))

pub loop-byte-preserved : goal.loop-byte-preserved
loop-byte-preserved c =
    elim c.if-byte-eq93.branch [
      | then-byte-eq93 w ↦ (
        tail_next _ _ _ _ (search rules) c.loop-byte.invariant.0 (inl w.tail-is),
        let e = w.tail-is in omega (arith, e),
        λ less. last_mark c.args.pattern.now c.loop-byte.byte-index c.if-byte-eq93.tail w.tail-is w.if-byte-eq93.true,
      )
      | else-byte-eq93 w ↦ (
        tail_next _ _ _ _ (search rules) c.loop-byte.invariant.0 (inr (w.tail-is, w.if-byte-eq93.false)),
        let e = w.tail-is in let k = c.loop-byte.invariant.1 in omega (arith, e, k),
        λ less. same_mark c.args.pattern.now c.loop-byte.byte-index c.loop-byte.tail c.if-byte-eq93.tail w.tail-is less c.loop-byte.invariant.2,
      )
    ]
