use Rattle.std.proofs.Common.{◌-◌, ◌^◌, ◌%◌, not, eqb, sym, ap, subst, ◌∙◌}
use Rattle.std.specs.Net.Addr.{ipv4_octets}
use Rattle.cfg_values.specs.Address.{network}
use Rattle.commit_check.specs.Network.{IsKept}
use Rattle.commit_check.proofs.KeptLemmas.{stray_some, stray_none, bits_are}
use Rattle.commit_check.proofs.network.has_stray_bits.Goals as goal

pub returns-in-Some : goal.returns-in-Some
returns-in-Some c =
    let net = network (ipv4_octets c.in-Some.prefix.address) c.in-Some.prefix.bits in
    stray_some c.args.path.now net c.has_bits_past.result (sym c.if-not-is_route.ensures)
    (subst (λ name. IsKept name net) c.last_name.ensures.name c.in-Some.ensures.some)
    (c.has_bits_past.ensures ∙ ap (λ n. not (eqb (n % 2 ^ (32 - net.bits)) 0)) (c.to_bits.ensures ∙ bits_are c.in-Some.prefix.address))

pub returns-in-None : goal.returns-in-None
returns-in-None c =
    stray_none c.args.path.now (λ net kept. c.in-None.ensures.none net (subst (λ name. IsKept name net) (sym c.last_name.ensures.name) kept))
