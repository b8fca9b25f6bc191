use Rattle.std.proofs.Common.{◌∙◌, sym, arith}
use Rattle.cfg_base.proofs.OrderLemmas.{word_cmp-past, word_cmp-front}
use Rattle.cfg_base.proofs.order.order_of.Goals as goal

pub loop-place-init : goal.loop-place-init
loop-place-init c =
    word_cmp-front c.same_front-begun.result c.args.one.now c.args.other.now c.same_front-begun.ensures.in_one c.same_front-begun.ensures.in_other c.same_front-begun.ensures.same

pub returns : goal.returns
returns c =
    let stops = c.loop-place-test.false
    in let within = c.loop-place.auto.place-end
    in let both = c.min-both.ensures
    in let one = c.same_front-begun.ensures.in_one
    in let other = c.same_front-begun.ensures.in_other
    in c.cmp-2.ensures
    ∙ sym (word_cmp-past c.args.one.now c.args.other.now c.loop-place.place (omega (arith, stops, within, both, one, other)))
    ∙ c.loop-place.invariant
