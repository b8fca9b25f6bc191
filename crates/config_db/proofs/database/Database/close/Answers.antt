use Rattle.std.proofs.Common.{sym, subst}
use Rattle.config_db.specs.Closing.{SettlesLast}
use Rattle.config_db.proofs.database.Database.close.Goals as goal

pub returns : goal.returns
returns g c = record {
  last = c.settle_last-fault.new.self;
  settles = subst (λ f. SettlesLast f c.args.self c.settle_last-fault.new.self) (sym c.hand_back.ensures.fault) c.settle_last-fault.ensures;
  handed = c.hand_back.ensures.back;
}
