use Rattle.std.proofs.Common.{sym, ◌∙◌}
use Rattle.serde_json.specs.View.{view}
use Rattle.json_text.proofs.WordsLemmas.{repeated}
use Rattle.json_text.proofs.words.next_word.Goals as goal

pub returns-in-Ok-false : goal.returns-in-Ok-false
returns-in-Ok-false c = λ seen knows.
    repeated c.args.kind c.args.path.now seen (view c.args.value.now) c.in-Ok.word c.args.known.now c.form.result c.in-Ok.ensures knows (sym c.in-Ok-false.field-0-test ∙ c.in-Ok-false.ensures.new) c.form.ensures
