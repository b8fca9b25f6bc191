use Rattle.std.proofs.Common.{sym, subst}
use Rattle.std.specs.Net.Grammar.{IsDotted}
use Rattle.commit_check.proofs.KeptLemmas.{dotted_is, address_with, octets_with}
use Rattle.commit_check.proofs.network.address_of.Goals as goal

pub returns-in-Err-clause-none : goal.returns-in-Err-clause-none
returns-in-Err-clause-none c quad address =
    c.in-Err.ensures (address_with quad) (subst (IsDotted c.args.bytes.now) (sym (octets_with quad)) (dotted_is c.args.bytes.now quad address))
