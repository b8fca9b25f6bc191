use Rattle.set_text.proofs.ExampleLemmas.{examples_shown}
use Rattle.set_text.proofs.laws.lines_ask_what_their_examples_show.Goals as goal

pub returns : goal.returns
returns c = examples_shown
