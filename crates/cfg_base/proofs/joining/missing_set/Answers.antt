use Rattle.std.proofs.Common.{[], ◌∷◌, ◌++◌, ◌∙◌, ap, List, ℕ, append_assoc, sym}
use Rattle.cfg_base.proofs.WordLemmas.{misses_less, misses_none, lists_more}
use Rattle.cfg_base.proofs.joining.missing_set.Goals as goal

pub loop-word-init : goal.loop-word-init
loop-word-init c = ([], sym c.iter-words.ensures, misses_none _ _ c.in_ok-missing.ensures)

pub loop-word-preserved : goal.loop-word-preserved
loop-word-preserved c =
    let (seen, is, misses) = c.loop-word.invariant
    in (
      seen ++ c.in-Some.word.now ∷ [],
      is ∙ ap (λ (ws : List (List ℕ)). seen ++ ws) c.in-Some.ensures ∙ sym (append_assoc seen (c.in-Some.word.now ∷ []) _),
      λ w. misses_less c.args.given.now seen _ c.in-Some.word.now w _ _ (misses w) (c.strike.ensures.left w) (lists_more seen c.in-Some.word.now w),
    )
