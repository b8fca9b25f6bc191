use Rattle.std.proofs.Common.{◌≡◌, length, rules}
use Rattle.config_db.proofs.database.Database.put_off.Goals as goal

pub returns-in-Ok : goal.returns-in-Ok
returns-in-Ok g c =
    let at_end : c.len-place.result ≡ length c.args.self.now.events = search rules in
    record { outcome = _; happens = c.in-Ok.ensures.ok; at_end = at_end; cause = λ is. tt }
