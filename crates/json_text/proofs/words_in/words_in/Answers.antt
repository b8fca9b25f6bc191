use Rattle.std.proofs.Common.{rules, ◌≡◌, ℕ, List, [], ◌∷◌, ◌++◌, ◌<◌, length, get_or, ap, sym, subst, ◌∙◌, append_assoc}
use Rattle.serde_json.specs.View.{view}
use Rattle.serde_json.specs.declared.value.Value.{Value}
use Rattle.json_text.specs.Said.{IsWordOf}
use Rattle.json_text.proofs.CollectingLemmas.{word_at}
use Rattle.json_text.proofs.OneLemmas.{word_same}
use Rattle.json_text.proofs.words_in.words_in.Goals as goal

pub word_in-requires : goal.word_in-requires
word_in-requires c =
    let within = subst (λ (xs : List Value). c.loop-value.value-index < length xs) c.deref-value-items.ensures.value c.loop-value-test.true
    in let is = subst (λ (xs : List Value). c.value-item.result ≡ get_or xs c.loop-value.value-index c.value-item.result) c.deref-value-items.ensures.value c.value-item.is
    in let left = c.loop-value.invariant c.requires.0 c.requires.1
    in let first = word_at c.args.kind c.args.list.now.items c.loop-value.value-index c.value-item.result left.0 within left.1
    in (first.word, subst (λ (v : Value). IsWordOf c.args.kind (view v) first.word) (sym is) first.is_word)

pub loop-value-preserved : goal.loop-value-preserved
loop-value-preserved c = λ said h.
    let within = subst (λ (xs : List Value). c.loop-value.value-index < length xs) c.deref-value-items.ensures.value c.loop-value-test.true
    in let is = subst (λ (xs : List Value). c.value-item.result ≡ get_or xs c.loop-value.value-index c.value-item.result) c.deref-value-items.ensures.value c.value-item.is
    in let left = c.loop-value.invariant said h
    in let first = word_at c.args.kind c.args.list.now.items c.loop-value.value-index c.value-item.result left.0 within left.1
    in let word = subst (λ (v : Value). IsWordOf c.args.kind (view v) first.word) (sym is) first.is_word
    in let same = word_same c.args.kind (view c.value-item.result) first.word c.in_ok-word_in.field-0 word c.in_ok-word_in.ensures
    in let made : c.push.new.self ≡ c.loop-value.words ++ c.in_ok-word_in.field-0 ∷ [] = search rules
    in (
      first.more,
      first.are,
      left.2
          ∙ ap (λ (ws : List (List ℕ)). c.loop-value.words ++ ws) (first.is ∙ ap (λ (w : List ℕ). w ∷ first.more) same)
          ∙ sym (append_assoc c.loop-value.words (c.in_ok-word_in.field-0 ∷ []) first.more)
          ∙ ap (λ (ws : List (List ℕ)). ws ++ first.more) (sym made),
    )
