use Rattle.std.proofs.Common.{◌≡◌, take, filter}
use Rattle.cfg_schema.specs.Profile.{line_at, stands}
use Rattle.cfg_schema.proofs.list.standing.Given as goal

abbrev pub invariant-loop-row : goal.invariant-loop-row
invariant-loop-row l = l.stood.items ≡ filter (λ row. stands l.level (line_at l.lines row)) (take l.row-index l.rows)
