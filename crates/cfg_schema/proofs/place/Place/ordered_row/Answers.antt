use Rattle.cfg_schema.proofs.PlaceLemmas.{ordered_there}
use Rattle.cfg_schema.proofs.place.Place.ordered_row.Goals as goal

pub returns : goal.returns
returns c = ordered_there _ _ _ _ _ c.lines-lines.ensures.rows c.number.ensures.same c.level_in-level.ensures.level c.ordered_in.ensures
