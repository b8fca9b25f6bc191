use Rattle.std.proofs.Common.{ℕ, List, ap, sym, ◌∙◌, take, add-one}
use Rattle.cfg_base.specs.Blocks.{flat}
use Rattle.cfg_base.specs.Words.{lists}
use Rattle.cfg_base.proofs.WordLemmas.{in_one, in_none}
use Rattle.cfg_base.proofs.blocks.in_blocks.Goals as goal

pub returns-then-has_word : goal.returns-then-has_word
returns-then-has_word c =
    sym (in_one c.args.word.now c.args.blocks.now c.loop-block.block-index c.block-item.result c.loop-block-test.true
    (ap (λ (ws : List (List ℕ)). lists ws c.args.word.now) (sym (c.items.ensures ∙ c.block-item.is)) ∙ sym c.has_word.ensures ∙ c.if-has_word.true))

pub loop-block-preserved : goal.loop-block-preserved
loop-block-preserved c =
    ap (λ (n : ℕ). lists (flat (take n c.args.blocks.now)) c.args.word.now) (add-one c.loop-block.block-index)
    ∙ in_none c.args.word.now c.args.blocks.now c.loop-block.block-index c.block-item.result c.loop-block-test.true c.loop-block.invariant
    (ap (λ (ws : List (List ℕ)). lists ws c.args.word.now) (sym (c.items.ensures ∙ c.block-item.is)) ∙ sym c.has_word.ensures ∙ c.if-has_word.false)
