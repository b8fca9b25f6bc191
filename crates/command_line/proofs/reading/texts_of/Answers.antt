use Rattle.std.proofs.Common.{rules, ◌≡◌, ◌<◌, ◌≤◌, length, List, ℕ, [], ◌∷◌, ◌++◌, get_or, ap, ◌∙◌}
use Rattle.std.specs.Str.{IsUtf8}
use Rattle.command_line.proofs.ReadingLemmas.{no_texts, one_text, all_texts, no_text}
use Rattle.command_line.proofs.reading.texts_of.Goals as goal

pub loop-word-init : goal.loop-word-init
loop-word-init c = no_texts c.args.words.now c.new-texts.result.items (search rules)

pub returns-in-Err-clause-refused : goal.returns-in-Err-clause-refused
returns-in-Err-clause-refused c = λ refused.
    let less : c.loop-word.word-index < length c.args.words.now = search rules in
    let word : c.as_bytes.result.now ≡ get_or c.args.words.now c.loop-word.word-index c.word-item.result =
    c.as_bytes.ensures.bytes ∙ c.word-item.is ∙ ap (λ (ws : List (List ℕ)). get_or ws c.loop-word.word-index c.word-item.result) c.as_slice-word-items.ensures in
    no_text c.args.words.now c.loop-word.word-index c.as_bytes.result.now c.word-item.result less word c.in-Err.ensures.cases.0

pub loop-word-preserved : goal.loop-word-preserved
loop-word-preserved c =
    let less : c.loop-word.word-index < length c.args.words.now = search rules in
    let word : c.in-Ok.text.now ≡ get_or c.args.words.now c.loop-word.word-index c.word-item.result =
    c.in-Ok.ensures.cases.0 ∙ c.as_bytes.ensures.bytes ∙ c.word-item.is
    ∙ ap (λ (ws : List (List ℕ)). get_or ws c.loop-word.word-index c.word-item.result) c.as_slice-word-items.ensures in
    let utf8 : IsUtf8 c.in-Ok.text.now = search rules in
    let pushed : c.push.new.self.items ≡ c.loop-word.texts.items ++ c.in-Ok.text ∷ [] = search rules in
    one_text c.args.words.now c.loop-word.word-index c.loop-word.texts.items c.push.new.self.items c.in-Ok.text c.word-item.result c.loop-word.invariant less word utf8 pushed

pub returns-clause-ok : goal.returns-clause-ok
returns-clause-ok c =
    let end : length c.args.words.now ≤ c.loop-word.word-index = search rules in
    all_texts c.args.words.now c.loop-word.word-index c.loop-word.texts.items c.loop-word.invariant end
