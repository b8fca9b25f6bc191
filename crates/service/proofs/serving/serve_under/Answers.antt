use Rattle.std.proofs.Common.{inl, inr}
use Rattle.service.proofs.serving.serve_under.Goals as goal

pub returns-in-Ok : goal.returns-in-Ok
returns-in-Ok g c = inr c.serve_from.ensures

pub returns-in-Err : goal.returns-in-Err
returns-in-Err g c = inl (c.idle.ensures.status, c.idle.ensures.untouched)
