use Rattle.cfg_schema.proofs.ChildLemmas.{answered, answered_begins}
use Rattle.cfg_schema.proofs.lookup.child.Goals as goal

pub returns : goal.returns
returns c =
    let e = answered _ _ _ _ _ _ _ _ c.lines-lines.ensures.rows c.number.ensures.same c.level_in-level.ensures.level c.child_in.ensures
    in record { row = e; meant = answered_begins _ _ _ _ _ e }
