use Rattle.std.proofs.Common.{rules, ◌≡◌, ℕ, List, [], ◌∷◌, ap, sym, ◌∙◌}
use Rattle.serde_json.specs.View.{view}
use Rattle.json_text.proofs.OneLemmas.{word_same}
use Rattle.json_text.proofs.words_in.leaf_words_in.Goals as goal

pub returns : goal.returns
returns c = λ said h.
    let made : c.push.new.self ≡ c.in_ok-word_in.field-0 ∷ [] = search rules
    in made
    ∙ ap (λ (w : List ℕ). w ∷ []) (word_same c.args.kind (view c.args.value.now) c.in_ok-word_in.field-0 h.word c.in_ok-word_in.ensures h.is_word)
    ∙ sym h.alone
