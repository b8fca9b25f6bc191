use Rattle.std.proofs.Common.{sym, subst, ⊎_elim}
use Rattle.cfg_values.specs.Address.{IsFront}
use Rattle.cfg_values.proofs.CutLemmas.{not_cut, IsCut-before, IsCut-after}
use Rattle.cfg_values.proofs.DotLemmas.{if_none_then}
use Rattle.cfg_values.proofs.AddressLemmas.{no_slash_in_address, network_is_cut}
use Rattle.cfg_values.proofs.address.prefix_of.Goals as goal

pub returns-in_err-address_of-in-None-clause-none : goal.returns-in_err-address_of-in-None-clause-none
returns-in_err-address_of-in-None-clause-none c =
    rw c.from_residual.ensures
    (λ net. ⊎_elim (λ host. c.in_err-address_of-in-None.ensures.none net.quad host.address)
    (λ n. not_cut 47 _ _ _ c.in-None.ensures.none n.spelled))

pub returns-in-Some-clause-none : goal.returns-in-Some-clause-none
returns-in-Some-clause-none c =
    let cut = c.in-Some.ensures.parts in
    if_none_then c.network_of.result c.network_of.ensures.none (λ no net.
    ⊎_elim (λ host. not_cut 47 _ _ _ (no_slash_in_address _ _ host.address) cut.joined)
    (λ n. no n.numbers net.bits
    (subst (λ text. IsFront text n.numbers) (sym (IsCut-before _ _ _ _ _ _ cut (network_is_cut _ _ n))) n.front)
    n.within (IsCut-after _ _ _ _ _ _ cut (network_is_cut _ _ n))))
