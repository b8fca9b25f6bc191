use Rattle.std.proofs.Common.{ℕ, refl, sym, arith, ap, length, drop, ◌-◌}
use Rattle.cfg_base.proofs.OrderLemmas.{eight_same, ends_tell}
use Rattle.cfg_base.proofs.order.same_ends.Goals as goal

pub returns-then-front_of : goal.returns-then-front_of
returns-then-front_of c =
    let least = c.requires.least in let most = c.requires.most in let alike = c.requires.alike
    in ends_tell c.args.one.now c.args.other.now _ _ (length c.args.one.now - 8) (omega (arith, least)) (omega (arith, most)) alike c.type_inv.one c.type_inv.other refl
    (ap (λ (n : ℕ). drop (n - 8) c.args.other.now) (sym alike))
    (eight_same c.args.one.now c.args.other.now least (omega (arith, least, alike)) c.type_inv.one c.type_inv.other c.front_of.result c.front_of-2.result
    c.front_of.ensures c.front_of-2.ensures c.if-front_of.true)
    c.back_of.result c.back_of-then-front_of.result c.back_of.ensures c.back_of-then-front_of.ensures
