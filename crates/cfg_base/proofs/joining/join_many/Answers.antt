use Rattle.std.proofs.Common.{Bool, List, ℕ, not, ◌&&◌, ap, ◌∙◌}
use Rattle.cfg_base.specs.Words.{lists}
use Rattle.cfg_base.proofs.WordLemmas.{joined-step, misses_less, lists_with, lists_read}
use Rattle.cfg_base.proofs.joining.join_many.Goals as goal

pub add_missing-requires : goal.add_missing-requires
add_missing-requires c =
    c.loop-word.invariant.1 c.word-item.result
    ∙ ap (λ (b : Bool). b && not (lists c.loop-word.words c.word-item.result))
    (ap (λ (w : List ℕ). lists c.args.given.now w) c.word-item.is ∙ lists_read c.args.given.now c.loop-word.word-index _ c.loop-word-test.true)

pub loop-word-preserved : goal.loop-word-preserved
loop-word-preserved c = (
  joined-step c.args.list.now c.args.given.now c.loop-word.words c.add_missing.new.words c.loop-word.word-index c.word-item.result _
      c.loop-word-test.true c.loop-word.invariant.0 c.word-item.is c.in_ok-add_missing.ensures.word,
  λ w. misses_less c.args.given.now c.loop-word.words c.add_missing.new.words c.word-item.result w _ _ (c.loop-word.invariant.1 w) (c.in_ok-add_missing.ensures.left w)
      (ap (λ (ws : List (List ℕ)). lists ws w) c.in_ok-add_missing.ensures.word ∙ lists_with c.loop-word.words c.word-item.result w),
)
