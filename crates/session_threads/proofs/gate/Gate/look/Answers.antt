use Rattle.std.proofs.Common.{refl, subst}
use Rattle.session_threads.specs.Gates.{GateView, LooksIn}
use Rattle.session_threads.proofs.GateLemmas.{LooksIn-read}
use Rattle.session_threads.proofs.gate.Gate.look.Goals as goal

pub returns-then-is_active_show : goal.returns-then-is_active_show
returns-then-is_active_show g c =
    subst (λ (d : GateView). LooksIn d c.args.command.now c.args.moment c.read_show.result
    (record { pass = c.self.inside.pass; reader = c.read_show.new.reader; asks = c.self.inside.user })) c.self.view_is
    (LooksIn-read c.self.inside.lock.now c.self.inside.pass c.self.inside.reader c.read_show.new.reader c.self.inside.user
    c.args.command.now c.args.moment c.read_show.result c.self.invariant.0 (c.if-is_active_show.ensures.shows refl) c.read_show.ensures.reads)
