use Rattle.std.proofs.Common.{ap, ◌∙◌}
use Rattle.serde_json.specs.View.{view}
use Rattle.serde_json.proofs.Views.{view-Array}
use Rattle.json_text.proofs.CollectingLemmas.{many_from}
use Rattle.json_text.proofs.words_in.many_words_in.Goals as goal

pub returns : goal.returns
returns c =
    let same = ap view c.in-Array.is ∙ view-Array c.in-Array.list
    in many_from c.words_in.result c.args.kind c.in-Array.list.items (view c.args.value.now) same c.words_in.ensures
