use Rattle.std.proofs.Common.{◌≡◌, ℕ, List, ◌++◌, drop}
use Rattle.serde_json.specs.View.{items_view}
use Rattle.json_text.specs.Said.{AreWordsOf}
use Rattle.json_text.proofs.words_in.words_in.Given as goal

abbrev pub invariant-loop-value : goal.invariant-loop-value
invariant-loop-value l =
    (said : List (List ℕ)) → AreWordsOf l.kind (items_view l.list.items) said
    → (rest : List (List ℕ)) × AreWordsOf l.kind (items_view (drop l.value-index l.list.items)) rest × (said ≡ l.words ++ rest)
