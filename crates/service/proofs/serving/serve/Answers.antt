use Rattle.std.proofs.Common.{refl}
use Rattle.service.proofs.serving.serve.Goals as goal

pub returns : goal.returns
returns g c = record {
  v = c.serve_all-database.result.database;
  status = c.serve_all-database.result.status;
  fault = c.close-history.result.fault;
  served = c.serve_all-database.ensures;
  closes = c.close-history.ensures;
  status_is = c.status_over.ensures;
  why = refl;
}
