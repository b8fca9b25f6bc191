use Rattle.std.proofs.Common.{◌==◌, ◌++◌, List, ℕ, sym, ap, ◌∙◌}
use Rattle.std.proofs.lemmas.Result.{on_ok_weaker}
use Rattle.std.specs.List.{list_any}
use Rattle.cfg_base.specs.Words.{lists}
use Rattle.cfg_base.proofs.WordLemmas.{keeps_all, left_sized}
use Rattle.cfg_base.proofs.word_blocks.keep.Goals as goal

pub returns-then-not-loses : goal.returns-then-not-loses
returns-then-not-loses c =
    on_ok_weaker c.append.result
    (λ e. e ∙ ap (λ (ws : List (List ℕ)). c.args.left.now ++ ws)
    (c.in_ok-clone.ensures.cases
    ∙ sym (keeps_all c.args.gone.now c.args.block.now
    (ap (λ (ws : List (List ℕ)). list_any (lists c.args.gone.now) ws) (sym c.items.ensures) ∙ sym c.if-not-loses.ensures))))
    c.append.ensures

pub append-requires-2 : goal.append-requires-2
append-requires-2 c =
    left_sized c.args.gone.now c.args.block.now _ _ c.in_ok-new.field-0 c.items-2.ensures c.in_ok-words.ensures c.in_ok-new.ensures
    (c.if-is_empty.ensures ∙ ap (λ (n : ℕ). n == 0) c.in_ok-words.words.ok.0) c.requires
