use Rattle.std.proofs.Common.{sym, subst, ⊎_elim}
use Rattle.cfg_values.specs.Address6.{IsAddress6}
use Rattle.cfg_values.proofs.CutLemmas.{not_cut, IsCut-before, IsCut-after}
use Rattle.cfg_values.proofs.DotLemmas.{if_none_then}
use Rattle.cfg_values.proofs.Address6Lemmas.{no_slash_in_address6, network6_is_cut}
use Rattle.cfg_values.proofs.address6.prefix_of.Goals as goal

pub returns-in_err-address_of-in-None-clause-none : goal.returns-in_err-address_of-in-None-clause-none
returns-in_err-address_of-in-None-clause-none c =
    rw c.from_residual.ensures
    (λ net. ⊎_elim (λ host. c.in_err-address_of-in-None.ensures.none net.groups host.address)
    (λ n. not_cut 47 _ _ _ c.in-None.ensures.none n.spelled))

pub returns-in-Some-clause-none : goal.returns-in-Some-clause-none
returns-in-Some-clause-none c =
    let cut = c.in-Some.ensures.parts in
    if_none_then c.network_of.result c.network_of.ensures.none (λ no net.
    ⊎_elim (λ host. not_cut 47 _ _ _ (no_slash_in_address6 _ _ host.address) cut.joined)
    (λ n. no net.groups net.bits
    (subst (λ text. IsAddress6 text net.groups) (sym (IsCut-before _ _ _ _ _ _ cut (network6_is_cut _ _ n))) n.address)
    n.within (IsCut-after _ _ _ _ _ _ cut (network6_is_cut _ _ n))))
