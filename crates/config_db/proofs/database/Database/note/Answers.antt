use Rattle.std.proofs.Common.{subst}
use Rattle.config_db.specs.View.{opened}
use Rattle.config_db.specs.Shown.{Shows}
use Rattle.config_db.proofs.database.Database.note.Goals as goal

pub returns-clause-shows : goal.returns-clause-shows
returns-clause-shows g c = subst (λ v. Shows (opened v) v.events v.state v.shown) c.self.view_is c.self.invariant.0.shows
