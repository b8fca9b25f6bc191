use Rattle.std.proofs.Common.{◌≡◌, drop}
use Rattle.serde_json.specs.View.{items_view}
use Rattle.json_text.specs.Collecting.{has_string}
use Rattle.json_text.proofs.words_in.has_string.Given as goal

abbrev pub invariant-loop-value : goal.invariant-loop-value
invariant-loop-value l = has_string l.word (items_view l.list.items) ≡ has_string l.word (items_view (drop l.value-index l.list.items))
