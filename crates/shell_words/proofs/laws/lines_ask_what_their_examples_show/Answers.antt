use Rattle.shell_words.proofs.ExampleLemmas.{examples_shown, forms_shown}
use Rattle.shell_words.proofs.laws.lines_ask_what_their_examples_show.Goals as goal

pub returns-clause-shown : goal.returns-clause-shown
returns-clause-shown c = examples_shown

pub returns-clause-each_form : goal.returns-clause-each_form
returns-clause-each_form c = forms_shown
