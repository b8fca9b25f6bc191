use Rattle.std.proofs.Common.{sym, subst}
use Rattle.commit_check.specs.Accepts.{Accepts}
use Rattle.config_db.proofs.starting.Over.of.Goals as goal

pub shown_over-requires-clause-accepted : goal.shown_over-requires-clause-accepted
shown_over-requires-clause-accepted g c = subst (λ k. Accepts k.last.tree) (sym c.in_ok-core.ensures.1) c.requires.accepted
