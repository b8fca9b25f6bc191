use Rattle.std.proofs.Common.{rules}
use Rattle.cfg_base.proofs.StepLemmas.{four, five}
use Rattle.cfg_base.proofs.path.many_with_last.Goals as goal

pub returns-in_ok-new-in-len4 : goal.returns-in_ok-new-in-len4
returns-in_ok-new-in-len4 c =
    let is =
    four c.args.above.now _ _ _ _ c.in-len4.len_at_least c.in-len4.len_below
    c.a-item-then-above-lt5.is c.b-item-then-above-lt5.is c.c-item-then-above-lt5.is c.d-item.is
    in search (is, rules)

pub returns-in_ok-new-in-len5 : goal.returns-in_ok-new-in-len5
returns-in_ok-new-in-len5 c =
    let is =
    five c.args.above.now _ _ _ _ _ c.in-len5.len_at_least c.in-len5.len_below
    c.a-item-then-above-lt6.is c.b-item-then-above-lt6.is c.c-item-then-above-lt6.is c.d-item-then-above-lt6.is c.e-item.is
    in search (is, rules)
