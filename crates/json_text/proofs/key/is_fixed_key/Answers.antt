use Rattle.std.proofs.Common.{◌&&◌, ◌∷◌, Bool, sym, ap, ◌∙◌}
use Rattle.cfg_base.specs.Words.{same_word}
use Rattle.json_text.proofs.KeyTestLemmas.{too_short, split_tests}
use Rattle.json_text.proofs.key.is_fixed_key.Goals as goal

pub returns-then-key-head : goal.returns-then-key-head
returns-then-key-head c = sym (too_short c.args.key.now c.args.head.now (32 ∷ c.args.name.now) c.if-key-head.true)

pub returns-then-same_bytes : goal.returns-then-same_bytes
returns-then-same_bytes c =
    let both = split_tests c.args.key.now c.args.head.now (32 ∷ c.args.name.now) c.split_at.result.0.now c.split_at.result.1.now c.split_at.ensures.front
    c.split_at.ensures.back c.split_at.ensures.front_len
    in c.is_blank_and_name.ensures
    ∙ sym (both ∙ ap (λ (b : Bool). b && same_word c.split_at.result.1.now (32 ∷ c.args.name.now)) (sym c.same_bytes.ensures ∙ c.if-same_bytes.true))

pub returns-else-same_bytes : goal.returns-else-same_bytes
returns-else-same_bytes c =
    let both = split_tests c.args.key.now c.args.head.now (32 ∷ c.args.name.now) c.split_at.result.0.now c.split_at.result.1.now c.split_at.ensures.front
    c.split_at.ensures.back c.split_at.ensures.front_len
    in c.if-same_bytes.false
    ∙ sym (both ∙ ap (λ (b : Bool). b && same_word c.split_at.result.1.now (32 ∷ c.args.name.now)) (sym c.same_bytes.ensures ∙ c.if-same_bytes.false))
