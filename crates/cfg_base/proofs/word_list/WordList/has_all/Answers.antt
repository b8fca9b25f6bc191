use Rattle.std.proofs.Common.{List, ℕ, length, ap, ◌∙◌}
use Rattle.cfg_base.proofs.WordLemmas.{has_all_by}
use Rattle.cfg_base.proofs.word_list.WordList.has_all.Goals as goal

pub returns : goal.returns
returns c =
    has_all_by c.args.self.now c.args.asked.now c.len.result c.len-2.result
    (c.len.ensures ∙ ap (λ (ws : List (List ℕ)). length ws) c.in_ok-joined.ensures) c.len-2.ensures
