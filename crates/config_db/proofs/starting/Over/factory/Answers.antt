use Rattle.std.proofs.Common.{sym, subst}
use Rattle.commit_check.specs.Accepts.{Accepts}
use Rattle.config_db.proofs.starting.Over.factory.Goals as goal

pub of-requires-clause-accepted : goal.of-requires-clause-accepted
of-requires-clause-accepted g c = subst (λ k. Accepts k.last.tree) (sym c.in_ok-factory.ensures) c.nothing_is_accepted.ensures
