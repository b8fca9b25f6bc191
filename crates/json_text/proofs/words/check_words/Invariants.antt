use Rattle.std.proofs.Common.{drop}
use Rattle.serde_json.specs.View.{items_view}
use Rattle.json_text.proofs.WordsLemmas.{WordsSoFar}
use Rattle.json_text.proofs.words.check_words.Given as goal

abbrev pub invariant-loop-value : goal.invariant-loop-value
invariant-loop-value l = WordsSoFar l.kind l.path (items_view l.values) (items_view (drop l.value-index l.values)) l.known
