use Rattle.std.proofs.Common.{subst, sym}
use Rattle.session_threads.specs.Sessions.{IsSeated}
use Rattle.session_threads.proofs.seat.serve_at.Goals as goal

pub serve_one-served-requires : goal.serve_one-served-requires
serve_one-served-requires g c = (
  c.requires.0,
  subst (IsSeated c.args.lock.now c.requires.0) (sym c.in-Some.ensures.value) c.requires.1,
)
