use Rattle.std.proofs.Common.{sym, subst, ◌∙◌}
use Rattle.std.proofs.lemmas.Bool.{false≢true}
use Rattle.cfg_values.specs.Interface.{IsInterface}
use Rattle.cfg_values.specs.Number.{IsNumberWithin}
use Rattle.cfg_values.proofs.CutLemmas.{not_cut, IsCut-before, IsCut-after}
use Rattle.cfg_values.proofs.InterfaceLemmas.{no_dot_in_interface, unit_is_cut, unit_cases}
use Rattle.cfg_values.proofs.interface.unit_of.Goals as goal

pub returns-in_err-numbered_unit-in-Some-clause-none : goal.returns-in_err-numbered_unit-in-Some-clause-none
returns-in_err-numbered_unit-in-Some-clause-none c =
    let cut = c.in-Some.ensures.parts in
    rw c.from_residual.ensures (λ units. unit_cases _ units c.requires
    (λ name unit zero_th. not_cut 46 _ _ _ (no_dot_in_interface _ zero_th.interface) cut.joined)
    (λ name unit n.
    let here = unit_is_cut _ name unit n in
    c.in_err-numbered_unit-in-Some.ensures.none unit (subst IsInterface (sym (IsCut-before _ _ _ _ _ _ cut here)) n.interface)
    (subst (λ digits. IsNumberWithin 0 16385 digits unit) (sym (IsCut-after _ _ _ _ _ _ cut here)) n.number)))

pub returns-in-None-2-clause-none : goal.returns-in-None-2-clause-none
returns-in-None-2-clause-none c units = unit_cases _ units c.requires
    (λ name unit zero_th. false≢true (sym c.if-is_interface.false ∙ c.is_interface.ensures.1 zero_th.interface))
    (λ name unit n. not_cut 46 _ _ _ c.in-None.ensures.none n.spelled)
