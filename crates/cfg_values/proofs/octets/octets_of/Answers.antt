use Rattle.std.proofs.Common.{eqb}
use Rattle.std.proofs.lemmas.Option.{IfSome_then}
use Rattle.std.proofs.lemmas.List.Splits.{slice_split_none}
use Rattle.cfg_values.proofs.DotLemmas.{parts_of-cut, read_on, read_last, not_front, if_none_then}
use Rattle.cfg_values.proofs.octets.octets_of.Goals as goal

pub returns-in_err-octets-clause-none : goal.returns-in_err-octets-clause-none
returns-in_err-octets-clause-none c =
    rw c.from_residual.ensures
    (not_front _ _ _ _ _ c.loop-part.invariant (parts_of-cut _ _ _ c.in-Some.ensures.parts) c.in_err-octets.ensures.none)

pub loop-part-preserved : goal.loop-part-preserved
loop-part-preserved c = read_on _ _ _ _ _ _ c.loop-part.invariant c.in-Some.ensures.parts c.in_ok-octets.ensures.some

pub returns-clause-some : goal.returns-clause-some
returns-clause-some c =
    IfSome_then c.with-2.result c.with-2.ensures.some (λ more adds. read_last _ _ _ more c.loop-part.invariant c.in_default.ensures.none adds)

pub returns-clause-none : goal.returns-clause-none
returns-clause-none c =
    if_none_then c.with-2.result c.with-2.ensures.none
    (λ full. not_front _ _ _ _ _ c.loop-part.invariant (slice_split_none (λ b. eqb b 46) _ c.in_default.ensures.none) full)
