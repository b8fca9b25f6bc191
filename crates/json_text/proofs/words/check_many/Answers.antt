use Rattle.std.proofs.Common.{◌≡◌, List, length, vec_len, ap, sym, ◌∙◌}
use Rattle.serde_json.specs.Data.{array}
use Rattle.serde_json.specs.View.{items_view, view}
use Rattle.serde_json.specs.declared.value.Value.{Value}
use Rattle.serde_json.proofs.Views.{view-Array}
use Rattle.json_text.proofs.WalkLemmas.{some_of}
use Rattle.json_text.proofs.WordsLemmas.{many_checked}
use Rattle.json_text.proofs.words.check_many.Goals as goal

pub returns-else-is_empty : goal.returns-else-is_empty
returns-else-is_empty c =
    let is : view c.args.value.now ≡ array (items_view c.deref.result.now) =
    ap view c.in-Array.is ∙ view-Array c.in-Array.values ∙ ap (λ (vs : List Value). array (items_view vs)) (sym c.deref.ensures.value)
    in let some = some_of (vec_len c.in-Array.values) (length c.deref.result.now) c.is_empty.result c.is_empty.ensures c.if-is_empty.false c.deref.ensures.len
    in many_checked c.args.kind c.args.path.now c.deref.result.now (view c.args.value.now) c.check_words.result is some c.check_words.ensures
