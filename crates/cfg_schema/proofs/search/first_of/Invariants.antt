use Rattle.std.proofs.Common.{◌≡◌, drop}
use Rattle.cfg_schema.specs.Profile.{line_at}
use Rattle.cfg_schema.specs.Query.{is_asked, first_of}
use Rattle.cfg_schema.proofs.search.first_of.Given as goal

abbrev pub invariant-loop-row : goal.invariant-loop-row
invariant-loop-row l =
    first_of (λ row. is_asked l.level l.query (line_at l.lines row)) (drop l.row-index l.rows)
    ≡ first_of (λ row. is_asked l.level l.query (line_at l.lines row)) l.rows
