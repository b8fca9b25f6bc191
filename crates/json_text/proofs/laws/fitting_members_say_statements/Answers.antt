use Rattle.json_text.proofs.FitLemmas.{fitting_says}
use Rattle.json_text.proofs.laws.fitting_members_say_statements.Goals as goal

pub returns : goal.returns
returns c = fitting_says
