use Rattle.std.proofs.Common.{List, ℕ, ◌++◌, ap, sym, ◌∙◌, take, add-one}
use Rattle.cfg_base.specs.Blocks.{flat}
use Rattle.cfg_base.specs.Words.{words_without}
use Rattle.cfg_base.proofs.WordLemmas.{without-more}
use Rattle.cfg_base.proofs.word_blocks.left_of.Goals as goal

pub loop-block-preserved : goal.loop-block-preserved
loop-block-preserved c =
    c.in_ok-keep.ensures
    ∙ ap (λ (ws : List (List ℕ)). ws ++ words_without c.block-item.result c.args.gone.now) c.loop-block.invariant
    ∙ ap (λ (ws : List (List ℕ)). words_without (flat (take c.loop-block.block-index c.args.blocks.now)) c.args.gone.now ++ words_without ws c.args.gone.now) c.block-item.is
    ∙ sym (without-more c.args.gone.now c.args.blocks.now c.loop-block.block-index c.block-item.result c.loop-block-test.true)
    ∙ ap (λ (n : ℕ). words_without (flat (take n c.args.blocks.now)) c.args.gone.now) (sym (add-one c.loop-block.block-index))
