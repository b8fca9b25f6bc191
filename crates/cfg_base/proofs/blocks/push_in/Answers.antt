use Rattle.std.proofs.Common.{List, ℕ, [], ◌∷◌, ◌++◌, ◌-◌, ap, ◌∙◌, arith}
use Rattle.cfg_base.proofs.FlatLemmas.{last_set}
use Rattle.cfg_base.proofs.blocks.push_in.Goals as goal

pub returns-clause-same : goal.returns-clause-same
returns-clause-same c =
    let len = c.len-last.ensures
    in let some = c.requires.some
    in last_set c.args.blocks.now.items (c.len-last.result - 1) _ _ c.args.word (omega (arith, len, some))
    (c.in_ok-blocks.ensures ∙ c.in_ok-words.ensures ∙ ap (λ (ws : List (List ℕ)). ws ++ c.args.word ∷ []) (c.items.ensures ∙ c.index.ensures))
