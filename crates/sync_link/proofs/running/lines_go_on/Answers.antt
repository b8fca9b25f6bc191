use Rattle.sync_link.proofs.LineLemmas.{line_behind}
use Rattle.sync_link.proofs.running.lines_go_on.Goals as goal

pub returns : goal.returns
returns g c = λ events event added line is leads. line_behind g.R.Run.leads events event added line is leads
