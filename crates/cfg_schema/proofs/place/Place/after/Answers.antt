use Rattle.cfg_schema.proofs.PlaceLemmas.{led}
use Rattle.cfg_schema.proofs.place.Place.after.Goals as goal

pub returns : goal.returns
returns c = led _ _ _ _ _ _ c.lines-lines.ensures.rows c.number.ensures.same c.level_in-level.ensures.level c.after_at.ensures
