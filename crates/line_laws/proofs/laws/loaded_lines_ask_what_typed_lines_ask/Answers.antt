use Rattle.line_laws.proofs.LineLemmas.{same_change, same_nothing}
use Rattle.line_laws.proofs.laws.loaded_lines_ask_what_typed_lines_ask.Goals as goal

pub returns-clause-change : goal.returns-clause-change
returns-clause-change c = same_change

pub returns-clause-nothing : goal.returns-clause-nothing
returns-clause-nothing c = same_nothing
