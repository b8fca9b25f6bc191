use Rattle.std.proofs.Common.{sym, subst}
use Rattle.commit_check.specs.Accepts.{Accepts}
use Rattle.config_db.proofs.showing.first_view.Goals as goal

pub expanded-requires : goal.expanded-requires
expanded-requires c = subst Accepts (sym c.active.ensures) c.requires
