use Rattle.std.proofs.Common.{sym, subst, ◌∙◌}
use Rattle.std.specs.Net.Addr.{ipv4_octets}
use Rattle.cfg_values.specs.Address.{IsAddress}
use Rattle.commit_check.proofs.LengthLemmas.{length_told, length_missed}
use Rattle.commit_check.proofs.KeptLemmas.{kept_from, kept_cut}
use Rattle.commit_check.proofs.network.network_of.Goals as goal

pub returns-in_err-address_of-clause-none : goal.returns-in_err-address_of-clause-none
returns-in_err-address_of-clause-none c =
    rw c.from_residual.ensures
    (λ net kept. c.in_err-address_of.ensures.none net.quad (subst (λ bs. IsAddress bs net.quad) (sym c.cut.ensures.before) (kept_cut c.args.name.now net kept).address))

pub returns-in_err-length_of-clause-none : goal.returns-in_err-length_of-clause-none
returns-in_err-length_of-clause-none c =
    rw c.from_residual-in_err-length_of.ensures
    (λ net kept.
    let cut = kept_cut c.args.name.now net kept in
    length_missed c.cut.result.1.now net.bits (sym c.in_err-length_of.ensures) cut.few (c.cut.ensures.after ∙ cut.digits))

pub returns-clause-some : goal.returns-clause-some
returns-clause-some c =
    let told = length_told c.cut.result.1.now c.in_ok-length_of.field-0 (sym c.in_ok-length_of.ensures) in
    kept_from c.args.name.now (ipv4_octets c.in_ok-address_of.field-0) c.in_ok-length_of.field-0
    (subst (λ bs. IsAddress bs (ipv4_octets c.in_ok-address_of.field-0)) c.cut.ensures.before c.in_ok-address_of.ensures.some)
    told.within (sym c.cut.ensures.after ∙ told.written)
